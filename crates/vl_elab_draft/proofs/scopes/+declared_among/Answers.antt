use Rattle.vl_elab_draft.proofs.Inner.{declared_constant, declared_here}
use Rattle.vl_elab_draft.proofs.scopes.+declared_among.Goals as goal

pub returns-in-Some-constant : goal.returns-in-Some-constant
returns-in-Some-constant t c =
    declared_constant c.args.scopes.now c.in-Some.around.now c.in-Some.last.now c.args.name.now
    c.in-Some.ensures.cases.0 _ c.in-Some-constant.ensures

pub returns-in-Some-declared : goal.returns-in-Some-declared
returns-in-Some-declared t c =
    declared_here c.args.scopes.now c.in-Some.around.now c.in-Some.last.now c.args.name.now c.in-Some.ensures.cases.0
    c.in-Some-declared.decl.now c.in-None-constant.ensures c.in-Some-declared.ensures
