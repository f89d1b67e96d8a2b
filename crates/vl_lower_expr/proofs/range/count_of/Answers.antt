use Rattle.std.specs.Prelude.{is_some}
use Rattle.std.proofs.Common.{ap, sym, ◌∙◌, true≢false}
use Rattle.vl_size.specs.Size.{no_names, times}
use Rattle.vl_lower_expr.proofs.range.count_of.Goals as goal

pub unreachable-requires : goal.unreachable-requires
unreachable-requires c =
    true≢false (sym (c.requires.sized no_names)
    ∙ ap is_some (ap (λ i. times i c.args.size) (sym (c.constant-own.ensures no_names)) ∙ sym c.times.ensures.value
    ∙ c.in_default.is))

pub returns-clause-value : goal.returns-clause-value
returns-clause-value c = λ v. sym (c.constant-own.ensures v) ∙ c.in-Some.ensures.positive
