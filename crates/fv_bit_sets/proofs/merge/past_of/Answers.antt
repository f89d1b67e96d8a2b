use Rattle.std.proofs.Common.{subst, sym}
use Rattle.fv_bit_sets.specs.Runs.{KeepsTo}
use Rattle.fv_bit_sets.proofs.Turning.{keeps_both}
use Rattle.fv_bit_sets.proofs.merge.past_of.Goals as goal

pub returns-in-Either-clause-same : goal.returns-in-Either-clause-same
returns-in-Either-clause-same c =
    keeps_both c.args.how c.args.left c.args.right c.earlier.result c.earlier.ensures.inside

pub returns-in-Both-clause-same : goal.returns-in-Both-clause-same
returns-in-Both-clause-same c =
    subst (λ how. KeepsTo how c.args.left c.args.right c.past_of_both.result) (sym c.in-Both.is)
    c.past_of_both.ensures.same

pub returns-in-FirstAlone-clause-same : goal.returns-in-FirstAlone-clause-same
returns-in-FirstAlone-clause-same c =
    subst (λ how. KeepsTo how c.args.left c.args.right c.past_of_first.result) (sym c.in-FirstAlone.is)
    c.past_of_first.ensures.same
