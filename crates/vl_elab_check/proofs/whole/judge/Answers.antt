use Rattle.std.proofs.Common.{ap, sym, ◌∙◌}
use Rattle.vl_mean.specs.Parts.{design}
use Rattle.vl_elab_spec.specs.Refused.{or_later, state_bits, too_many_bits}
use Rattle.vl_elab_spec.proofs.Unfolded.{named_is}
use Rattle.vl_elab_check.proofs.Judging.{bits_last, some_named}
use Rattle.vl_elab_check.proofs.whole.judge.Goals as goal

pub returns-clause-fault : goal.returns-clause-fault
returns-clause-fault c formed =
    let ms = c.args.modules.now in
    let top = c.args.top.now in
    let m = c.in-Some.module.now in
    c.in_ok-judge_top-in-Some.ensures formed ((named_is ms top m (sym c.in-Some.ensures)).formed formed)
    ∙ some_named ms top m (sym c.in-Some.ensures)

pub returns-clause-refusal : goal.returns-clause-refusal
returns-clause-refusal c formed =
    let ms = c.args.modules.now in
    let top = c.args.top.now in
    let m = c.in-Some.module.now in
    bits_last ms top
    ∙ ap (λ g. or_later g (let ps = design ms top in too_many_bits (state_bits ps ps)))
    (sym (c.in_ok-judge_top-in-Some.ensures formed ((named_is ms top m (sym c.in-Some.ensures)).formed formed)
    ∙ some_named ms top m (sym c.in-Some.ensures)))
