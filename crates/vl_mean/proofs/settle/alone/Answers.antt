use Rattle.std.proofs.Common.{◌∙◌, ap}
use Rattle.std.specs.Prelude.{cond, bytes_eq}
use Rattle.vl_mean.proofs.settle.alone.Goals as goal

pub returns-clause-numbers : goal.returns-clause-numbers
returns-clause-numbers c = λ i other.
    (c.in_ok-set.ensures.ok other ∙ ap (λ n. cond (bytes_eq c.args.text.now other) c.args.value.now.value n)
    (c.new-env.ensures.numbers other)) i
