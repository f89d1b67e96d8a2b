use Rattle.std.specs.Prelude.{not}
use Rattle.fv_bit_sets.specs.declared.how.How.TheVariants as h
use Rattle.fv_bit_sets.proofs.Turning.{keeps_both, keeps_left, none_first}
use Rattle.fv_bit_sets.proofs.merge.past_of_first.Goals as goal

pub returns-then-left-eq0-clause-same : goal.returns-then-left-eq0-clause-same
returns-then-left-eq0-clause-same c =
    keeps_left h.FirstAlone c.args.left c.args.right (λ b. none_first (not b)) c.if-left-eq0.true

pub returns-clause-same : goal.returns-clause-same
returns-clause-same c = keeps_both h.FirstAlone c.args.left c.args.right c.earlier.result c.earlier.ensures.inside
