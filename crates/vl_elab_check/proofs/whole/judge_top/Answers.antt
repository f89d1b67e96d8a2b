use Rattle.std.specs.Prelude.{◌-◌, length}
use Rattle.std.proofs.Common.{ap, sym, ◌∙◌}
use Rattle.vl_elab_spec.specs.Refused.{first_refused, or_later}
use Rattle.vl_elab_check.specs.Judged.{nothing, top_steps}
use Rattle.vl_elab_check.proofs.Judging.{twice_first, twice_none}
use Rattle.vl_elab_check.proofs.whole.judge_top.Goals as goal

pub returns-then-is_some : goal.returns-then-is_some
returns-then-is_some c formed w =
    let ms = c.args.modules.now in
    let rest = first_refused ms nothing (top_steps (length ms - 1) ms c.args.top.now) in
    twice_first c.in_ok-twice.twice rest (sym c.is_some.ensures ∙ c.if-is_some.true)
    ∙ ap (λ g. or_later g rest) c.in_ok-twice.ensures

pub returns : goal.returns
returns c formed w =
    let ms = c.args.modules.now in
    let rest = first_refused ms nothing (top_steps (length ms - 1) ms c.args.top.now) in
    c.in_ok-walk_top.ensures formed w
    ∙ twice_none c.in_ok-twice.twice rest (sym c.is_some.ensures ∙ c.if-is_some.false)
    ∙ ap (λ g. or_later g rest) c.in_ok-twice.ensures
