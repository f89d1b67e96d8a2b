use Rattle.vl_elab_scope.proofs.Levels.{entered, named_entered}
use Rattle.vl_elab_scope.proofs.names.Names.enter.Goals as goal

pub invariant_of-self : goal.invariant_of-self
invariant_of-self c =
    named_entered c.push.result c.self.inside.levels.items c.push.new.levels.items c.args.level c.self.invariant
    c.are_named.ensures c.push.ensures.ok c.push.ensures.err

pub returns-clause-ok : goal.returns-clause-ok
returns-clause-ok c =
    entered c.push.result c.self.inside.levels.items c.push.new.levels.items c.args.self.now c.args.level
    c.self.view_is c.push.ensures.ok
