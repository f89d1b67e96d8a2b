-- Numbers of one bit as tests.
use Rattle.std.specs.Prelude.{◌≡◌, refl, ℕ, zero, suc, ◌<◌, ◌==◌, ◌&&◌, true, not, bit_and, Option, Some, None}
use Rattle.std.proofs.Common.{ap, arith, subst}
use Rattle.fv_bits.specs.Bits.{complement}
use Rattle.wn_net.specs.Value.{Given}
use Rattle.wn_net.specs.Net.{Netlist, IsNodeOf, value_at}
use Rattle.wn_net.specs.Changes.{AddsNodes}
use Rattle.wn_net.proofs.Laws.{node_on, value_on}
use Rattle.vl_lower_assign.specs.Slots.{IsPath, is_taken}

pub both_one : (a b : ℕ) → a < 2 → b < 2 → (bit_and a b == 1) ≡ ((a == 1) && (b == 1))
both_one zero zero h k = refl
both_one zero (suc zero) h k = refl
both_one (suc zero) zero h k = refl
both_one (suc zero) (suc zero) h k = refl
both_one zero (suc (suc b)) h k = absurd (omega (arith, k))
both_one (suc zero) (suc (suc b)) h k = absurd (omega (arith, k))
both_one (suc (suc a)) b h k = absurd (omega (arith, h))

pub turned_one : (a : ℕ) → a < 2 → (complement 1 a == 1) ≡ not (a == 1)
turned_one zero h = refl
turned_one (suc zero) h = refl
turned_one (suc (suc a)) h = absurd (omega (arith, h))

-- ---- paths

pub path_node : (net : Netlist) (path : Option ℕ) (id : ℕ) → path ≡ Some id → IsPath net path → IsNodeOf net 1 id
path_node net path id e h = subst (IsPath net) e h

pub path_none : (net : Netlist) (g : Given) (path : Option ℕ) → path ≡ None → is_taken net g path ≡ true
path_none net g path e = ap (is_taken net g) e

pub path_some : (net : Netlist) (g : Given) (path : Option ℕ) (id : ℕ) → path ≡ Some id
    → is_taken net g path ≡ (value_at net g id == 1)
path_some net g path id e = ap (is_taken net g) e

-- paths stay
pub path_there : (old new : Netlist) (path : Option ℕ) → AddsNodes old new → IsPath old path → IsPath new path
path_there old new None adds h = h
path_there old new (Some id) adds h = node_on old new 1 id adds h

pub path_on : (old new : Netlist) (g : Given) (path : Option ℕ) → AddsNodes old new → IsPath old path
    → is_taken new g path ≡ is_taken old g path
path_on old new g None adds own = refl
path_on old new g (Some id) adds own = ap (λ n. n == 1) (value_on old new g id adds own.0)
