use Rattle.std.proofs.Common.{◌∙◌, ◌∷◌, sym, ap}
use Rattle.vl_mean.specs.ConstantFaults.{capped}
use Rattle.vl_elab_count.specs.Counts.{names_count}
use Rattle.vl_elab_count.proofs.names.names_around.Goals as goal

pub returns-clause-numbers : goal.returns-clause-numbers
returns-clause-numbers c =
    c.in_ok-enter.ensures.ok ∙ (λ i. c.take-hidden.ensures.level i ∷ c.take-hidden.ensures.rest i) ∙ sym c.requires

pub returns-clause-count : goal.returns-clause-count
returns-clause-count c =
    c.in_ok-total.ensures ∙ ap (λ ns. capped (names_count ns c.args.all.now)) c.take-hidden.ensures.rest
