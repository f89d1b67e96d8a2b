use Rattle.fv_bit_sets.specs.declared.how.How.TheVariants as h
use Rattle.fv_bit_sets.proofs.Turning.{keeps_both, keeps_left, keeps_right, none_first, none_second}
use Rattle.fv_bit_sets.proofs.merge.past_of_both.Goals as goal

pub returns-then-left-eq0-clause-same : goal.returns-then-left-eq0-clause-same
returns-then-left-eq0-clause-same c = keeps_left h.Both c.args.left c.args.right none_first c.if-left-eq0.true

pub returns-then-right-eq0-clause-same : goal.returns-then-right-eq0-clause-same
returns-then-right-eq0-clause-same c = keeps_right h.Both c.args.left c.args.right none_second c.if-right-eq0.true

pub returns-clause-same : goal.returns-clause-same
returns-clause-same c = keeps_both h.Both c.args.left c.args.right c.earlier.result c.earlier.ensures.inside
