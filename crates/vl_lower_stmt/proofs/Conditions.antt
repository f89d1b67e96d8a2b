-- Numbers of one bit as what is assumed, and nodes of expressions in a later net.
use Rattle.std.specs.Prelude.{◌≡◌, refl, ℕ, zero, suc, true, ◌<◌, ◌==◌, ◌||◌, not, bit_or, List}
use Rattle.std.proofs.Common.{◌∙◌, arith}
use Rattle.fv_bits.specs.Bits.{bit, complement}
use Rattle.vl_size.specs.declared.decl.Decl.{Decl}
use Rattle.vl_size.specs.Size.{Values}
use Rattle.wn_net.specs.Net.{Netlist}
use Rattle.wn_net.specs.Changes.{AddsNodes}
use Rattle.wn_net.proofs.Laws.{adds_on, node_on, value_on}
use Rattle.vl_lower_stmt.specs.Executes.{Evaluates}

pub only_met : (y : ℕ) → y < 2 → y ≡ bit (not true || (y == 1))
only_met zero h = refl
only_met (suc zero) h = refl
only_met (suc (suc y)) h = absurd (omega (arith, h))

either : (x y : ℕ) → x < 2 → y < 2 → bit_or (complement 1 x) y ≡ bit (not (x == 1) || (y == 1))
either zero zero h k = refl
either zero (suc zero) h k = refl
either (suc zero) zero h k = refl
either (suc zero) (suc zero) h k = refl
either zero (suc (suc y)) h k = absurd (omega (arith, k))
either (suc zero) (suc (suc y)) h k = absurd (omega (arith, k))
either (suc (suc x)) y h k = absurd (omega (arith, h))

pub met_one : (x y a b : ℕ) → x < 2 → y < 2 → a ≡ complement 1 x → b ≡ y
    → bit_or a b ≡ bit (not (x == 1) || (y == 1))
met_one x y a b h k one other = (λ i. bit_or (one i) (other i)) ∙ either x y h k

-- the node of an expression stays
pub evaluates_on : (ds : List Decl) (old mid new : Netlist) (cells : List ℕ) (width : ℕ) (meaning : Values → ℕ) (id :
    ℕ)
    → Evaluates ds old mid cells width meaning id → AddsNodes mid new → Evaluates ds old new cells width meaning id
evaluates_on ds old mid new cells width meaning id h adds = record {
  adds = adds_on old mid new h.adds adds;
  node = node_on mid new width id adds h.node;
  value = λ g v given has. value_on mid new g id adds h.node.0 ∙ h.value g v given has;
}
