use Rattle.std.proofs.Common.{◌+◌, ◌-◌, ◌≤◌, length, arith}
use Rattle.lrat_check.specs.Store.{number_at}
use Rattle.lrat_check.proofs.Rows.{spread}
use Rattle.lrat_check.proofs.sorted.least.Goals as goal

pub returns-clause-lower : goal.returns-clause-lower
returns-clause-lower c = λ k h.
    let ids = c.args.ids.now in
    let m : number_at ids k + (length ids - 1 - k) ≤ number_at ids (length ids - 1) =
    spread ids k (length ids - 1 - k) (length ids - 1) c.requires (omega (arith, h, c.saturating_sub.ensures))
    (omega (arith, c.if-many-eq0.false)) in
    omega (arith, m, h, c.saturating_sub.ensures, c.if-last-id.false)
