-- Between functions: The inputs, registers, memories and cells of a design without hierarchy. Rule of this project.
use Rattle.std.specs.Prelude.{◌≡◌, ℕ, ◌+◌, ◌<◌, List, [], ◌∷◌, Bool, true, not, ◌&&◌, is_none, length, slice_index}
use Rattle.std.specs.Prelude.{slice_index_or}
use Rattle.vl_size.specs.declared.decl.Decl.{Decl}
use Rattle.vl_mean.specs.Cells.{cells}
use Rattle.vl_mean.specs.Parts.{Part}
use Rattle.vl_mean.specs.Runs.{Each}
use Rattle.vl_flow_cells.specs.Numbered.{all_cells}
use Rattle.wn_net.specs.declared.names.Names.{Names}
use Rattle.wn_net.specs.declared.names.NetName.{NetName}
use Rattle.wn_net.specs.Net.{IsNet, value_at}
use Rattle.wn_net.specs.Value.{Given}
use Rattle.vl_lower_assign.specs.Frames.{AreCellsOf}
use Rattle.vl_lower_cell_laws.specs.declared.keep.Keep.{Keep}
use Rattle.vl_lower_cell_laws.specs.Keeps.{is_whole}
use Rattle.vl_lower_cell_laws.specs.Listing.{AreKeeps, HasSources, Keeping}
use Rattle.vl_lower_cell_laws.specs.Numbers.{all_numbers}
use Rattle.vl_lower_state.specs.Held.{memory_firsts, register_places}
use Rattle.vl_lower.specs.declared.sources.Sources.{Sources}

-- what a list of keeps says of each cell; of cells past its end nothing
abbrev pub keeping : List Keep → Keeping
keeping keeps c = slice_index_or keeps c (record { driven = 0; known = 0; value = 0 })

-- each word takes one register, of cells from a number on
abbrev pub are_whole : Keeping → ℕ → ℕ → List (List ℕ) → Bool
are_whole keep width first [] = true
are_whole keep width first (text ∷ texts) = is_whole (keep first) width && are_whole keep width (first + 1) texts

-- a memory that may be one of the net
abbrev pub is_stored : Keeping → Decl → ℕ → Bool
is_stored keep d first = not (is_none d.words) && are_whole keep d.width first (cells d)

-- what is kept of each cell, where those of variables are the design's
pub record AreKeepsOf (ps : List Part) (ds : List Decl) (keeps : List Keep) : Type 0 where
  pub each : length keeps ≡ length (all_cells ds)
  pub are : AreKeeps ps (keeping keeps) ds 0

-- names whose spots these are, with any entries
abbrev pub names_with : List NetName → Sources → Names
names_with list x = record { list = list; inputs = x.inputs; regs = x.regs; mems = x.mems }

-- They are those of the names in their order, and a node for each cell has the number with which its name begins a
-- cycle.
pub record Declares (ps : List Part) (ds : List Decl) (keeps : List Keep) (x : Sources) : Type 0 where
  pub sources : (list : List NetName) → HasSources ps (keeping keeps) ds x.net (names_with list x)
  pub register_cells : x.register_cells ≡ register_places ps (keeping keeps) ds 0
  pub memory_cells : x.memory_cells ≡ memory_firsts ps ds 0
  pub whole : IsNet x.net
  pub assumes : x.net.assumes ≡ []
  pub unwritten : Each (λ m. m.writes ≡ []) x.net.mems
  pub cells : AreCellsOf x.net ds x.cells
  pub numbers : (g : Given) (c : ℕ) → c < length x.cells
      → slice_index (all_numbers ps (keeping keeps) g ds 0 0 0 0) c ≡ value_at x.net g (slice_index x.cells c)
