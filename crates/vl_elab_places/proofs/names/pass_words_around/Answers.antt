use Rattle.std.proofs.Common.{◌∙◌, ◌∷◌, sym, ap}
use Rattle.vl_elab_places.specs.Passing.{words_passed}
use Rattle.vl_elab_places.proofs.names.pass_words_around.Goals as goal

pub returns-clause-numbers : goal.returns-clause-numbers
returns-clause-numbers c =
    c.in_ok-enter.ensures.ok ∙ (λ i. c.take-hidden.ensures.level i ∷ c.take-hidden.ensures.rest i) ∙ sym c.requires

pub returns-clause-behind : goal.returns-clause-behind
returns-clause-behind c =
    c.in_ok-behind.ensures ∙ ap (λ ns. words_passed ns c.args.all.now c.args.start) c.take-hidden.ensures.rest
