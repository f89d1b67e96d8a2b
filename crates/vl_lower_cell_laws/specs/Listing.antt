-- Between functions: The inputs, registers and memories that a design's names come to, in the order of the names, each
-- with the place of its entry among the names of the net. Rule of this project.
use Rattle.std.specs.Prelude.{◌≡◌, ℕ, ◌+◌, List, [], ◌∷◌, ◌++◌, length, map, All, Option, Some, None}
use Rattle.std.specs.Prelude.{if◌then◌else◌, slice_get}
use Rattle.vl_size.specs.declared.decl.Class.{Class}
use Rattle.vl_size.specs.declared.decl.Class.TheVariants as class
use Rattle.vl_size.specs.declared.decl.Decl.{Decl}
use Rattle.vl_size.specs.Table.{AreDifferent, IsShaped}
use Rattle.vl_mean.specs.Cells.{cells}
use Rattle.vl_mean.specs.FlatLaw.{IsKept}
use Rattle.vl_mean.specs.Parts.{Part}
use Rattle.vl_mean.specs.Scopes.{is_clock_class}
use Rattle.wn_net.specs.declared.names.Names.{Names}
use Rattle.wn_net.specs.declared.names.Spot.{Spot}
use Rattle.wn_net.specs.declared.parts.Init.{Init}
use Rattle.wn_net.specs.declared.parts.Input.{Input}
use Rattle.wn_net.specs.declared.parts.InputKind.{InputKind}
use Rattle.wn_net.specs.Net.{Netlist}
use Rattle.vl_lower_spec.specs.Sources.{AreSources, below, kind_of}
use Rattle.vl_lower_cell_laws.specs.declared.keep.Keep.{Keep}
use Rattle.vl_lower_cell_laws.specs.Keeps.{IsKeepOf, Kept, registers_of, whole_kept}
use Rattle.vl_lower_cell_laws.specs.Entries.{all_entries, is_memory, memories_of}

-- what is kept of each cell, by its number
abbrev pub Keeping : Type 0
Keeping = ℕ → Keep

-- how many entries a name has, and how many of them are memories of the net
abbrev pub entry_count : List Part → Decl → ℕ
entry_count ps d = if is_clock_class d.class then 0 else (if is_memory ps d then 1 else length (cells d))

abbrev pub memory_count : List Part → Decl → ℕ
memory_count ps d = if is_clock_class d.class then 0 else memories_of ps d

-- ---- inputs

-- of a name that is chosen in some way one, of all its bits
abbrev pub inputs_named : Option InputKind → Decl → ℕ → List (Input × ℕ)
inputs_named None d at = []
inputs_named (Some kind) d at = (record { width = d.width; kind = kind }, at) ∷ []

abbrev pub all_inputs : List Part → List Decl → ℕ → List (Input × ℕ)
all_inputs ps [] at = []
all_inputs ps (d ∷ ds) at = inputs_named (kind_of d.class) d at ++ all_inputs ps ds (at + entry_count ps d)

abbrev pub input_spot : Input × ℕ → Spot
input_spot x = record { name = x.1; bits = below x.0.width }

-- ---- registers

abbrev pub named_registers : ℕ → List Kept → List (Kept × ℕ)
named_registers at [] = []
named_registers at (x ∷ xs) = (x, at) ∷ named_registers at xs

-- of cells from a number on, each with its own entry
abbrev pub cell_registers : Keeping → ℕ → ℕ → ℕ → List (List ℕ) → List (Kept × ℕ)
cell_registers keep width first at [] = []
cell_registers keep width first at (text ∷ texts) =
    named_registers at (registers_of (keep first) width) ++ cell_registers keep width (first + 1) (at + 1) texts

-- a variable's; none of what is kept as a memory
abbrev pub registers_in : List Part → Keeping → Decl → Class → ℕ → ℕ → List (Kept × ℕ)
registers_in ps keep d class.Variable first at =
    if is_memory ps d then [] else cell_registers keep d.width first at (cells d)
registers_in ps keep d c first at = []

abbrev pub all_registers : List Part → Keeping → List Decl → ℕ → ℕ → List (Kept × ℕ)
all_registers ps keep [] first at = []
all_registers ps keep (d ∷ ds) first at =
    registers_in ps keep d d.class first at
    ++ all_registers ps keep ds (first + length (cells d)) (at + entry_count ps d)

abbrev pub register_spot : Kept × ℕ → Spot
register_spot x = record { name = x.1; bits = x.0.bits }

-- ---- memories

-- a memory: how wide its words are, how many it has, and what each begins with
pub record Stored : Type 0 where
  pub width : ℕ
  pub words : ℕ
  pub starts : List Init

abbrev pub word_starts : Keeping → ℕ → ℕ → List (List ℕ) → List Init
word_starts keep width first [] = []
word_starts keep width first (text ∷ texts) =
    (whole_kept (keep first) width).init ∷ word_starts keep width (first + 1) texts

abbrev pub stored : Keeping → Decl → ℕ → Stored
stored keep d first = record {
  width = d.width;
  words = length (cells d);
  starts = word_starts keep d.width first (cells d);
}

abbrev pub memories_in : List Part → Keeping → Decl → Class → ℕ → ℕ → List (Stored × ℕ)
memories_in ps keep d class.Variable first at = if is_memory ps d then (stored keep d first, at) ∷ [] else []
memories_in ps keep d c first at = []

abbrev pub all_memories : List Part → Keeping → List Decl → ℕ → ℕ → List (Stored × ℕ)
all_memories ps keep [] first at = []
all_memories ps keep (d ∷ ds) first at =
    memories_in ps keep d d.class first at
    ++ all_memories ps keep ds (first + length (cells d)) (at + entry_count ps d)

-- ---- a net that has them

-- next nodes and writes may be any
pub record HasSources (ps : List Part) (keep : Keeping) (ds : List Decl) (net : Netlist) (names : Names) : Type 0 where
  pub inputs : net.inputs ≡ map (λ x. x.0) (all_inputs ps ds 0)
  pub input_spots : names.inputs ≡ map input_spot (all_inputs ps ds 0)
  pub reg_widths : map (λ r. r.width) net.regs ≡ map (λ x. x.0.width) (all_registers ps keep ds 0 0)
  pub reg_starts : map (λ r. r.init) net.regs ≡ map (λ x. x.0.init) (all_registers ps keep ds 0 0)
  pub reg_spots : names.regs ≡ map register_spot (all_registers ps keep ds 0 0)
  pub mem_widths : map (λ m. m.width) net.mems ≡ map (λ x. x.0.width) (all_memories ps keep ds 0 0)
  pub mem_words : map (λ m. m.words) net.mems ≡ map (λ x. x.0.words) (all_memories ps keep ds 0 0)
  pub mem_starts : map (λ m. m.init) net.mems ≡ map (λ x. x.0.starts) (all_memories ps keep ds 0 0)
  pub mem_names : names.mems ≡ map (λ x. x.1) (all_memories ps keep ds 0 0)

-- what is kept of variables' cells, from a number on, is that of the design
abbrev pub AreKeeps : List Part → Keeping → List Decl → ℕ → Type 0
AreKeeps ps keep [] first = Unit {0}
AreKeeps ps keep (d ∷ ds) first =
    (d.class ≡ class.Variable → (j : ℕ) (n : List ℕ) → slice_get (cells d) j ≡ Some n
    → IsKeepOf ps d.width n (keep (first + j)))
    × AreKeeps ps keep ds (first + length (cells d))

-- ---- the law: they are the sources of the design

abbrev pub SourcesAreNamed : Type 0
SourcesAreNamed =
    (ds : List Decl) (ps : List Part) (keep : Keeping) (nodes : List ℕ) (net : Netlist) (names : Names)
    → All IsShaped ds → AreDifferent ds → All IsKept ds → AreKeeps ps keep ds 0
    → names.list ≡ all_entries ps ds nodes 0 0 → HasSources ps keep ds net names → AreSources ds ps net names
