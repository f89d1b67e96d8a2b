-- Between functions: What names add to the sources of a design: inputs, registers and memories with their places, and
-- cells. Rule of this project.
use Rattle.std.specs.Prelude.{◌≡◌, ℕ, List, [], ◌∷◌, ◌++◌, ◌*◌, ◌≤◌, length, map, slice_index}
use Rattle.vl_size.specs.declared.decl.Class.{Class}
use Rattle.vl_size.specs.declared.decl.Decl.{Decl}
use Rattle.vl_mean.specs.Cells.{cells}
use Rattle.vl_mean.specs.Parts.{Part}
use Rattle.vl_mean.specs.Runs.{Each}
use Rattle.wn_net.specs.declared.parts.Input.{Input}
use Rattle.wn_net.specs.Changes.{Grows}
use Rattle.wn_net.specs.Net.{IsNodeOf, value_at}
use Rattle.wn_net.specs.Value.{Given, word_at, words_of}
use Rattle.vl_lower_spec.specs.Sources.{AreEach, kind_of}
use Rattle.vl_lower_assign.specs.Frames.{cell_widths}
use Rattle.vl_lower_cell_laws.specs.declared.keep.Keep.{Keep}
use Rattle.vl_lower_cell_laws.specs.Keeps.{Kept, cell_number, registers_of}
use Rattle.vl_lower_cell_laws.specs.Listing.{Keeping, Stored, all_inputs, all_memories, all_registers, cell_registers}
use Rattle.vl_lower_cell_laws.specs.Listing.{input_spot, inputs_named, memories_in, named_registers, register_spot}
use Rattle.vl_lower_cell_laws.specs.Listing.{registers_in, stored}
use Rattle.vl_lower_cell_laws.specs.Numbers.{all_numbers, memory_numbers, name_numbers, word_numbers}
use Rattle.vl_lower_state.specs.Held.{cell_places, firsts_in, memory_firsts, places_in, register_places}
use Rattle.vl_lower.specs.declared.sources.Sources.{Sources}

-- inputs, registers and memories with the places of their entries, the cells that these are of, and the widths and the
-- numbers of cells in a cycle
pub record Added : Type 0 where
  pub inputs : List (Input × ℕ)
  pub regs : List (Kept × ℕ)
  pub register_cells : List ℕ
  pub mems : List (Stored × ℕ)
  pub memory_cells : List ℕ
  pub widths : List ℕ
  pub numbers : Given → List ℕ

abbrev pub nothing : Added
nothing = record {
  inputs = [];
  regs = [];
  register_cells = [];
  mems = [];
  memory_cells = [];
  widths = [];
  numbers = λ g. [];
}

-- one behind the other
abbrev pub both : Added → Added → Added
both x y = record {
  inputs = x.inputs ++ y.inputs;
  regs = x.regs ++ y.regs;
  register_cells = x.register_cells ++ y.register_cells;
  mems = x.mems ++ y.mems;
  memory_cells = x.memory_cells ++ y.memory_cells;
  widths = x.widths ++ y.widths;
  numbers = λ g. x.numbers g ++ y.numbers g;
}

-- The sources are those that were there, and these behind them.
pub record Adds (old new : Sources) (x : Added) : Type 0 where
  pub inputs : new.net.inputs ≡ old.net.inputs ++ map (λ i. i.0) x.inputs
  pub input_spots : new.inputs ≡ old.inputs ++ map input_spot x.inputs
  pub reg_widths : map (λ r. r.width) new.net.regs ≡ map (λ r. r.width) old.net.regs ++ map (λ k. k.0.width) x.regs
  pub reg_starts : map (λ r. r.init) new.net.regs ≡ map (λ r. r.init) old.net.regs ++ map (λ k. k.0.init) x.regs
  pub reg_spots : new.regs ≡ old.regs ++ map register_spot x.regs
  pub register_cells : new.register_cells ≡ old.register_cells ++ x.register_cells
  pub mem_widths : map (λ m. m.width) new.net.mems ≡ map (λ m. m.width) old.net.mems ++ map (λ s. s.0.width) x.mems
  pub mem_words : map (λ m. m.words) new.net.mems ≡ map (λ m. m.words) old.net.mems ++ map (λ s. s.0.words) x.mems
  pub mem_starts : map (λ m. m.init) new.net.mems ≡ map (λ m. m.init) old.net.mems ++ map (λ s. s.0.starts) x.mems
  pub mem_names : new.mems ≡ old.mems ++ map (λ s. s.1) x.mems
  pub memory_cells : new.memory_cells ≡ old.memory_cells ++ x.memory_cells
  pub assumes : new.net.assumes ≡ old.net.assumes
  pub unwritten : Each (λ m. m.writes ≡ []) old.net.mems → Each (λ m. m.writes ≡ []) new.net.mems
  pub grows : Grows old.net new.net
  -- the nodes of the cells
  pub ids : List ℕ
  pub cells : new.cells ≡ old.cells ++ ids
  pub nodes : AreEach (IsNodeOf new.net) x.widths ids
  pub numbers : (g : Given) → map (value_at new.net g) ids ≡ x.numbers g

-- ---- by names

-- a cell that drivers give: it begins with 0
abbrev pub zero_added : ℕ → Added
zero_added width = record nothing { widths = width ∷ []; numbers = λ g. 0 ∷ [] }

-- an input with a number, at an entry
abbrev pub input_added : Input → ℕ → ℕ → Added
input_added input at i = record nothing {
  inputs = (input, at) ∷ [];
  widths = input.width ∷ [];
  numbers = λ g. slice_index g.inputs i ∷ [];
}

-- a cell by its number, with registers from a place on
abbrev pub cell_added : Keep → ℕ → ℕ → ℕ → ℕ → Added
cell_added keep width first at r = record nothing {
  regs = named_registers at (registers_of keep width);
  register_cells = map (λ (x : Kept). first) (registers_of keep width);
  widths = width ∷ [];
  numbers = λ g. cell_number keep width g.state.regs r ∷ [];
}

abbrev pub cells_added : Keeping → ℕ → ℕ → ℕ → ℕ → List (List ℕ) → Added
cells_added keep width first at r texts = record nothing {
  regs = cell_registers keep width first at texts;
  register_cells = cell_places keep width first texts;
  widths = map (λ n. width) texts;
  numbers = λ g. word_numbers keep width g.state.regs first r texts;
}

-- a word of a memory with a number
abbrev pub word_added : ℕ → ℕ → ℕ → Added
word_added width m j = record nothing { widths = width ∷ []; numbers = λ g. word_at (words_of g m) j ∷ [] }

-- words of a memory with a number, from a word on
abbrev pub words_added : ℕ → ℕ → ℕ → List (List ℕ) → Added
words_added width m j texts = record nothing {
  widths = map (λ n. width) texts;
  numbers = λ g. memory_numbers (words_of g m) j texts;
}

abbrev pub memory_added : Keeping → Decl → ℕ → ℕ → ℕ → Added
memory_added keep d first at m = record nothing {
  mems = (stored keep d first, at) ∷ [];
  memory_cells = first ∷ [];
  widths = map (λ n. d.width) (cells d);
  numbers = λ g. memory_numbers (words_of g m) 0 (cells d);
}

-- a name, by its class
abbrev pub name_added : List Part → Keeping → Decl → Class → ℕ → ℕ → ℕ → ℕ → ℕ → Added
name_added ps keep d c first at i r m = record {
  inputs = inputs_named (kind_of c) d at;
  regs = registers_in ps keep d c first at;
  register_cells = places_in ps keep d c first;
  mems = memories_in ps keep d c first at;
  memory_cells = firsts_in ps d c first;
  widths = map (λ n. d.width) (cells d);
  numbers = λ g. name_numbers ps keep g d c first i r m;
}

abbrev pub all_added : List Part → Keeping → List Decl → ℕ → ℕ → ℕ → ℕ → ℕ → Added
all_added ps keep ds first at i r m = record {
  inputs = all_inputs ps ds at;
  regs = all_registers ps keep ds first at;
  register_cells = register_places ps keep ds first;
  mems = all_memories ps keep ds first at;
  memory_cells = memory_firsts ps ds first;
  widths = cell_widths ds;
  numbers = λ g. all_numbers ps keep g ds first i r m;
}

-- ---- how many they are

-- none at all
pub record IsNone (x : Sources) : Type 0 where
  pub net_inputs : x.net.inputs ≡ []
  pub net_regs : x.net.regs ≡ []
  pub net_mems : x.net.mems ≡ []
  pub assumes : x.net.assumes ≡ []
  pub inputs : x.inputs ≡ []
  pub regs : x.regs ≡ []
  pub register_cells : x.register_cells ≡ []
  pub mems : x.mems ≡ []
  pub memory_cells : x.memory_cells ≡ []
  pub cells : x.cells ≡ []

-- none of them is more than cells allow
pub record IsSmall (x : Sources) : Type 0 where
  pub inputs : length x.net.inputs ≤ length x.cells
  pub regs : length x.net.regs ≤ 128 * length x.cells
  pub mems : length x.net.mems ≤ length x.cells
