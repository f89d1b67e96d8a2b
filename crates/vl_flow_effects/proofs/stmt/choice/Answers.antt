use Rattle.vl_flow_effects.proofs.Statements.{else_effect, only_effect}
use Rattle.vl_flow_effects.proofs.stmt.choice.Goals as goal

pub returns-clause-one : goal.returns-clause-one
returns-clause-one c attrs p x sized h g =
    only_effect c.args.decls.now attrs p c.args.condition.now x c.args.first c.args.second c.in_ok-or.field-0
    c.in_ok-behind.field-0 c.in_ok-reads.reads c.in_ok-or.ensures c.in_ok-behind.ensures
    (c.in_ok-reads.ensures sized) h g

pub returns-clause-two : goal.returns-clause-two
returns-clause-two c attrs p x y sized h g =
    else_effect c.args.decls.now attrs p c.args.condition.now x y c.args.first c.args.second c.in_ok-or.field-0
    c.in_ok-behind.field-0 c.in_ok-reads.reads c.in_ok-or.ensures c.in_ok-behind.ensures
    (c.in_ok-reads.ensures sized) h g
