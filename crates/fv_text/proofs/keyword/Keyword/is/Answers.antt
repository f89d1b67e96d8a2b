use Rattle.std.proofs.Common.{rules, sym, ◌∙◌}
use denote.Enum.Bare.{same_true, true_same}
use Rattle.fv_text.specs.contracts.keyword.Keyword.{the_type}
use Rattle.fv_text.proofs.keyword.Keyword.is.Goals as goal

pub returns : goal.returns
returns c =
    (λ t. same_true the_type (search rules) _ _ (sym c.eq.ensures ∙ t), λ e. c.eq.ensures ∙ true_same the_type _ _ e)
