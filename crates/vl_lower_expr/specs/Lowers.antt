-- Between functions: When a node has the number that an expression has in each cycle. Rule of this project.
use Rattle.std.specs.Prelude.{◌≡◌, ℕ}
use Rattle.vl_size.specs.Size.{Cells}
use Rattle.wn_net.specs.Value.{Given}
use Rattle.wn_net.specs.Net.{Netlist, IsNodeOf, value_at}
use Rattle.wn_net.specs.Given.{IsGiven}
use Rattle.wn_net.specs.Changes.{AddsNodes}
use Rattle.vl_lower_expr.specs.Bound.{Bound, HaveNumbers}

-- Nodes are added, and this one is there with this width. In each cycle of the old net in which the places have the
-- numbers of a map, it has what is meant over the map.
pub record Lowers (old new : Netlist) (names : Bound) (width : ℕ) (meaning : Given → Cells → ℕ) (id : ℕ)
    : Type 0 where
  pub adds : AddsNodes old new
  pub node : IsNodeOf new width id
  pub value : (g : Given) (v : Cells) → IsGiven old g → HaveNumbers old g v names → value_at new g id ≡ meaning g v
