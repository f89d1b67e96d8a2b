use Rattle.std.proofs.Common.{ap, sym, ◌∙◌}
use Rattle.vl_mean.specs.Execution.{wild_bits}
use Rattle.vl_lower_stmt.proofs.labels.wild_bits.Goals as goal

pub returns-in-Case-clause-value : goal.returns-in-Case-clause-value
returns-in-Case-clause-value c = λ g given.
    let w = c.args.word.context.width in
    let s = c.args.word.context.signed in
    ap (λ kind. wild_bits kind w s c.args.label.now) (sym c.in-Case.is)

pub returns-in_ok-wild-in-Casez-clause-value : goal.returns-in_ok-wild-in-Casez-clause-value
returns-in_ok-wild-in-Casez-clause-value c = λ g given.
    let w = c.args.word.context.width in
    let s = c.args.word.context.signed in
    c.in_ok-wild-in-Casez.ensures.value g given
    ∙ ap (λ kind. wild_bits kind w s c.args.label.now) (sym c.in-Casez.is)
