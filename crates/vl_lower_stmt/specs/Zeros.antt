-- Between functions: Nodes of the number 0. Rule of this project.
use Rattle.std.specs.Prelude.{◌≡◌, ℕ, List, [], ◌∷◌, ◌++◌, length, replicate}
use Rattle.vl_size.specs.declared.decl.Decl.{Decl}
use Rattle.vl_mean.specs.Cells.{cells}
use Rattle.wn_net.specs.Value.{Given}
use Rattle.wn_net.specs.Net.{Netlist, IsNodeOf, value_at}
use Rattle.wn_net.specs.Changes.{AddsNodes}

-- the node has the width, and the number 0 in each cycle
abbrev pub IsZero : Netlist → ℕ → ℕ → Type 0
IsZero net width id = IsNodeOf net width id × ((g : Given) → value_at net g id ≡ 0)

-- one for each width
abbrev pub AreZeros : Netlist → List ℕ → List ℕ → Type 0
AreZeros net [] [] = Unit {0}
AreZeros net (w ∷ ws) (id ∷ ids) = IsZero net w id × AreZeros net ws ids
AreZeros net ws ids = ⊥

-- nodes are added, and for each cell of a name one of them stands behind those that were there
pub record PutsZeros (old new : Netlist) (d : Decl) (before after : List ℕ) : Type 0 where
  pub adds : AddsNodes old new
  pub id : ℕ
  pub zero : IsZero new d.width id
  pub behind : after ≡ before ++ replicate (length (cells d)) id
