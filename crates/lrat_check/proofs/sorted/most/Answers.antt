use Rattle.std.proofs.Common.{◌+◌, ◌≤◌, arith}
use Rattle.lrat_check.specs.Store.{number_at}
use Rattle.lrat_check.proofs.Rows.{spread}
use Rattle.lrat_check.proofs.sorted.most.Goals as goal

pub returns-then-behind-many-clause-higher : goal.returns-then-behind-many-clause-higher
returns-then-behind-many-clause-higher c = λ k h l.
    let ids = c.args.ids.now in
    let m : number_at ids 0 + k ≤ number_at ids k = spread ids 0 k k c.requires (omega arith) l in
    omega (arith, m, h, c.if-id-first.false)
