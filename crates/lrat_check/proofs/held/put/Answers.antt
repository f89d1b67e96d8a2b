use Rattle.lrat_check.specs.Store.{coded}
use Rattle.lrat_check.proofs.Holds.{adds}
use Rattle.lrat_check.proofs.held.put.Goals as goal

pub returns-clause-ok : goal.returns-clause-ok
returns-clause-ok c =
    adds (coded c.args.held.now) (coded c.add.new.self) c.args.id c.args.lits.now c.in_ok-add.ensures.ok
