use Rattle.std.proofs.Common.{◌∙◌, ap, sym}
use Rattle.std.specs.Prelude.{Some, if◌then◌else◌}
use Rattle.vl_mean.specs.Constants.{constant_of}
use Rattle.vl_elab_draft.specs.Kept.{constants_of}
use Rattle.vl_elab_draft.proofs.full_constants.constant_behind.Goals as goal

pub returns-then-is_name : goal.returns-then-is_name
returns-then-is_name c =
    ap (λ b. if b then Some c.args.first.now.value
    else constant_of (constants_of c.args.others.now.entries) c.args.name.now)
    (sym (sym c.is_name.ensures ∙ c.if-is_name.true))

pub returns-else-is_name : goal.returns-else-is_name
returns-else-is_name c =
    c.other_constant.ensures
    ∙ ap (λ b. if b then Some c.args.first.now.value
    else constant_of (constants_of c.args.others.now.entries) c.args.name.now)
    (sym (sym c.is_name.ensures ∙ c.if-is_name.false))
