-- Between functions: The number of each cell at the beginning of a cycle, by the numbers of inputs, registers and
-- memories. Rule of this project.
use Rattle.std.specs.Prelude.{◌≡◌, ℕ, ◌+◌, List, [], ◌∷◌, ◌++◌, length, map, All, Some, slice_get, slice_index}
use Rattle.std.specs.Prelude.{if◌then◌else◌}
use Rattle.vl_size.specs.declared.decl.Class.{Class}
use Rattle.vl_size.specs.declared.decl.Class.TheVariants as class
use Rattle.vl_size.specs.declared.decl.Decl.{Decl}
use Rattle.vl_size.specs.Size.{Values}
use Rattle.vl_size.specs.Table.{AreDifferent, IsShaped}
use Rattle.vl_mean.specs.Cells.{cells}
use Rattle.vl_mean.specs.FlatLaw.{IsKept}
use Rattle.vl_mean.specs.Parts.{Part}
use Rattle.vl_lower_spec.specs.Maps.{given_of}
use Rattle.vl_lower_spec.specs.Built.{AreRanged}
use Rattle.vl_flow_cells.specs.Numbered.{all_cells}
use Rattle.wn_net.specs.declared.names.Names.{Names}
use Rattle.wn_net.specs.Value.{Given, word_at, words_of}
use Rattle.wn_net.specs.Net.{Netlist}
use Rattle.wn_net.specs.Given.{IsGiven}
use Rattle.vl_lower_spec.specs.Sources.{kind_of}
use Rattle.vl_lower_cell_laws.specs.Keeps.{cell_number, registers_of}
use Rattle.vl_lower_cell_laws.specs.Entries.{all_entries, is_memory}
use Rattle.vl_lower_cell_laws.specs.Listing.{AreKeeps, HasSources, Keeping, inputs_named, memory_count, registers_in}

-- cells from a number on, by the numbers of registers, those from a place on
abbrev pub word_numbers : Keeping → ℕ → List ℕ → ℕ → ℕ → List (List ℕ) → List ℕ
word_numbers keep width numbers first r [] = []
word_numbers keep width numbers first r (text ∷ texts) =
    cell_number (keep first) width numbers r
    ∷ word_numbers keep width numbers (first + 1) (r + length (registers_of (keep first) width)) texts

-- the words of a memory, from a place on
abbrev pub memory_numbers : List ℕ → ℕ → List (List ℕ) → List ℕ
memory_numbers words j [] = []
memory_numbers words j (text ∷ texts) = word_at words j ∷ memory_numbers words (j + 1) texts

-- The cells of a name; inputs, registers and memories are taken from a place on. What drivers give begins with 0.
abbrev pub name_numbers : List Part → Keeping → Given → Decl → Class → ℕ → ℕ → ℕ → ℕ → List ℕ
name_numbers ps keep g d class.Clock first i r m = map (λ n. 0) (cells d)
name_numbers ps keep g d class.Net first i r m = map (λ n. 0) (cells d)
name_numbers ps keep g d class.Variable first i r m =
    if is_memory ps d then memory_numbers (words_of g m) 0 (cells d)
    else word_numbers keep d.width g.state.regs first r (cells d)
name_numbers ps keep g d c first i r m = map (λ n. slice_index g.inputs i) (cells d)

abbrev pub all_numbers : List Part → Keeping → Given → List Decl → ℕ → ℕ → ℕ → ℕ → List ℕ
all_numbers ps keep g [] first i r m = []
all_numbers ps keep g (d ∷ ds) first i r m =
    name_numbers ps keep g d d.class first i r m
    ++ all_numbers ps keep g ds (first + length (cells d)) (i + length (inputs_named (kind_of d.class) d 0))
    (r + length (registers_in ps keep d d.class first 0)) (m + memory_count ps d)

-- ---- the law: a map that has these numbers in a cycle is ranged, and what is free in it is what was given

pub record BeginsCycle (ds : List Decl) (names : Names) (g : Given) (v : Values) : Type 0 where
  pub ranged : AreRanged ds v
  pub same : given_of names v ≡ g

abbrev pub NumbersBeginCycles : Type 0
NumbersBeginCycles =
    (ds : List Decl) (ps : List Part) (keep : Keeping) (nodes : List ℕ) (net : Netlist) (names : Names) (g : Given)
    (v : Values) → All IsShaped ds → AreDifferent ds → All IsKept ds → AreKeeps ps keep ds 0
    → names.list ≡ all_entries ps ds nodes 0 0 → HasSources ps keep ds net names → IsGiven net g
    → ((c : ℕ) (n : List ℕ) → slice_get (all_cells ds) c ≡ Some n
    → v n ≡ slice_index (all_numbers ps keep g ds 0 0 0 0) c)
    → BeginsCycle ds names g v
