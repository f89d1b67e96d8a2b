use Rattle.std.proofs.Common.{◌∙◌, ap}
use Rattle.vl_mean.specs.Constants.{constant_of}
use Rattle.vl_elab_draft.specs.Kept.{constants_of}
use Rattle.vl_elab_draft.proofs.Tables.{lookup_constant, none_kept}
use Rattle.vl_elab_draft.proofs.full_constants.other_constant.Goals as goal

pub returns-then-is_empty : goal.returns-then-is_empty
returns-then-is_empty c =
    none_kept c.args.name.now c.args.others.now.entries (c.is_empty.ensures.0 c.if-is_empty.true)

pub returns-else-is_empty : goal.returns-else-is_empty
returns-else-is_empty c =
    c.get.ensures.value ∙ lookup_constant c.bytes.result.now c.args.others.now.entries
    ∙ ap (constant_of (constants_of c.args.others.now.entries)) c.bytes.ensures
