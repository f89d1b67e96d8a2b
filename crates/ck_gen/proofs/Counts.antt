-- How many registers a monitor adds.
use Rattle.std.specs.Prelude.{◌≡◌, ℕ, zero, suc, ◌+◌, ◌*◌, ◌-◌, ◌<◌, ◌≤◌, List, [], ◌∷◌, length, drop}
use Rattle.std.specs.List.{AllByRecursion}
use Rattle.std.proofs.Common.{ap, sym, arith, subst}
use Rattle.wn_net.specs.declared.parts.Reg.{Reg}
use Rattle.wn_net.specs.Net.{Netlist}
use Rattle.wn_net.specs.Changes.{AddsNodes}
use Rattle.wn_net.proofs.Laws.{adds_regs}
use Rattle.ck_history.specs.Lines.{IsKnown, AddsKnown}
use Rattle.ck_history.proofs.Lines.{known_on}
use Rattle.ck_cfg.specs.declared.check.Check.{Check}
use Rattle.ck_cfg.specs.Lawful.{IsCheck}
use Rattle.ck_gen.specs.Around.{place_of}
use Rattle.ck_gen.specs.Monitors.{AddsFew}

none_behind : (rs : List Reg) → AllByRecursion (λ r. IsKnown r.init) (drop (length rs) rs)
none_behind [] = tt
none_behind (r ∷ rs) = none_behind rs

-- nodes alone
pub known_nodes : (old new : Netlist) → AddsNodes old new → AddsKnown old new 0
known_nodes old new adds =
    let P : List Reg → Type 0 = λ rs. AllByRecursion (λ r. IsKnown r.init) (drop (length old.regs) rs) in
    record {
      adds = adds_regs old new adds;
      count = omega (arith, ap length adds.regs);
      known = subst P (sym adds.regs) (none_behind old.regs);
    }

-- registers between nodes
pub known_between : (a b c d : Netlist) (m n : ℕ) → AddsNodes a b → AddsKnown b c m → AddsNodes c d → m ≡ n
    → AddsKnown a d n
known_between a b c d m n first known last e =
    let P : ℕ → Type 0 = λ k. AddsKnown a d k in
    let total : 0 + m + 0 ≡ n = omega (arith, e) in
    subst P total
    (known_on a c d (0 + m) 0 (known_on a b c 0 m (known_nodes a b first) known) (known_nodes c d last))

-- two lines of at most 100 registers
few_registers : (n m : ℕ) → n ≤ 2 → m ≤ 100 → n * m ≤ 1000
few_registers zero m few most = omega arith
few_registers (suc zero) m few most = omega (arith, most)
few_registers (suc (suc zero)) m few most = omega (arith, most)
few_registers (suc (suc (suc n))) m few most = absurd (omega (arith, few))

pub few_lines : (old new : Netlist) (n first last : ℕ) → n ≤ 2 → last ≤ 100 → AddsKnown old new (n * (last - first))
    → AddsFew old new
few_lines old new n first last few most known =
    record {
      registers = n * (last - first);
      few = few_registers n (last - first) few (omega (arith, most));
      known =
          known;
    }

pub few_nodes : (old new : Netlist) → AddsNodes old new → AddsFew old new
few_nodes old new adds = record { registers = 0; few = omega arith; known = known_nodes old new adds }

-- places of a history of two lines at most
place_within_lines : (n later low d : ℕ) → n ≤ 2 → low < n → later ≤ d → later * n + low < n * (d + 1)
place_within_lines zero later low d few below order = absurd (omega (arith, below))
place_within_lines (suc zero) later low d few below order = omega (arith, below, order)
place_within_lines (suc (suc zero)) later low d few below order = omega (arith, below, order)
place_within_lines (suc (suc (suc n))) later low d few below order = absurd (omega (arith, few))

pub place_within : (check : Check) (n : ℕ) → IsCheck n check → n ≤ 2
    → place_of check n < n * (check.cycle - check.start + 1)
place_within check n own few =
    let lawful = own.lawful in
    place_within_lines n (check.cycle - check.trig) (n - 1 - check.channel) (check.cycle - check.start) few
    (omega (arith, own.channel)) (omega (arith, lawful.start, lawful.trig))

-- and that of its own word among those of its cycle
pub own_within : (check : Check) (n : ℕ) → IsCheck n check → n ≤ 2
    → n - 1 - check.channel < n * (check.cycle - check.start + 1)
own_within check n own few =
    let h = place_within_lines n 0 (n - 1 - check.channel) (check.cycle - check.start) few (omega (arith, own.channel))
    (omega arith) in
    omega (arith, h)

pub ruleset few = (few_lines, few_nodes)
