-- Between functions: Literals that are the bits of a number (rule of this project).
use Rattle.std.specs.Prelude.{◌≡◌, ℕ, ◌<◌, Bool, List, [], length, slice_index, slice_index_or}
use Rattle.bb_aig.specs.declared.node.AigNode.{AigNode}
use Rattle.bb_aig.specs.Bits.{number}
use Rattle.bb_aig.specs.Gates.{AreLits, bits}

-- a number and numbers for each choice of inputs
abbrev pub Counts : Type 0
Counts = (ℕ → Bool) → ℕ

abbrev pub Numbers : Type 0
Numbers = (ℕ → Bool) → List ℕ

-- the number of literals, the lowest bit first
abbrev pub count : List AigNode → (ℕ → Bool) → List ℕ → ℕ
count graph x lits = number (bits graph x lits)

-- literals are the bits of a number of a width
pub record IsWord (graph : List AigNode) (width : ℕ) (means : Counts) (lits : List ℕ) : Type 0 where
  pub there : AreLits graph lits
  pub wide : length lits ≡ width
  pub value : (x : ℕ → Bool) → count graph x lits ≡ means x

-- each item of a table is the bits of the number at its place
pub record AreWords (graph : List AigNode) (widths : List ℕ) (means : Numbers) (table : List
    (List ℕ)) : Type 0 where
  pub each : length table ≡ length widths
  pub words : (i : ℕ) → i < length table → IsWord graph (slice_index widths i) (λ x. slice_index (means x) i)
      (slice_index_or table i [])
