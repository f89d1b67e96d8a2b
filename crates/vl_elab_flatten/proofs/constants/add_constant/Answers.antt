use Rattle.std.proofs.Common.{◌∙◌, ap, sym}
use Rattle.std.proofs.lemmas.Result.{on_ok_weaker}
use Rattle.vl_mean.specs.Constants.{constant_of}
use Rattle.vl_elab_draft.specs.Kept.{with_constant}
use Rattle.vl_elab_flatten.proofs.Adding.{constant_added, none_known, not_there}
use Rattle.vl_elab_flatten.proofs.constants.add_constant.Goals as goal

pub returns-then-is_known : goal.returns-then-is_known
returns-then-is_known c path cs outer fresh has =
    absurd (not_there path cs outer c.args.scope.now c.args.numbers.now has c.args.name.now fresh c.constant.result
    (sym c.is_some-is_known.ensures ∙ c.if-is_known.true) c.constant.ensures)

pub add_constant-requires : goal.add_constant-requires
add_constant-requires c =
    ap (constant_of c.args.scope.now.constants) c.in_ok-copied.ensures
    ∙ none_known c.constant.result (constant_of c.args.scope.now.constants c.args.name.now)
    (sym c.is_some-is_known.ensures ∙ c.if-is_known.false) c.constant.ensures

pub returns : goal.returns
returns c =
    let s = c.args.scope.now in
    on_ok_weaker c.add_constant.result (λ e path cs outer fresh has. constant_added path cs outer s c.args.numbers.now
    has c.args.name.now fresh c.args.value c.add_constant.new.self c.add_number.new.numbers c.in_ok-add_number.ensures
    (e ∙ ap (λ text. with_constant s text c.args.value) c.in_ok-copied.ensures)) c.add_constant.ensures.ok
