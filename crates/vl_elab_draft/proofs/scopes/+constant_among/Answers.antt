use Rattle.vl_elab_draft.proofs.Inner.{constant_here}
use Rattle.vl_elab_draft.proofs.scopes.+constant_among.Goals as goal

pub returns-in-Some-constant : goal.returns-in-Some-constant
returns-in-Some-constant t c =
    constant_here c.args.scopes.now c.in-Some.around.now c.in-Some.last.now c.args.name.now c.in-Some.ensures.cases.0
    c.in-Some-constant.value.now c.in-Some-constant.ensures
