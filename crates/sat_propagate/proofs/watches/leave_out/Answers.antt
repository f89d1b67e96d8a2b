use Rattle.lrat_check.specs.Store.{coded}
use Rattle.sat_propagate.proofs.Gaps.{left_out}
use Rattle.sat_propagate.proofs.watches.leave_out.Goals as goal

pub returns-clause-same : goal.returns-clause-same
returns-clause-same c =
    left_out (coded c.args.store.now) (coded c.add.new.self) (coded c.remove.new.self) c.args.id c.remove.result
    c.requires.none c.in_ok-add.ensures.ok c.remove.ensures.removed
