use Rattle.lrat_check.specs.Store.{coded}
use Rattle.lrat_check.proofs.Holds.{forgets}
use Rattle.lrat_check.proofs.held.remove.Goals as goal

pub returns-clause-forgets : goal.returns-clause-forgets
returns-clause-forgets c =
    forgets (coded c.args.held.now) (coded c.remove.new.self) c.args.id.now c.remove.result c.remove.ensures.removed
