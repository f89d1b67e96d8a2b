use Rattle.std.proofs.Common.{length, ap, sym, ◌∙◌}
use Rattle.cnf_form.proofs.Pushed.{many}
use Rattle.cnf_form.proofs.formula.Formula.len.Goals as goal

pub returns-clause-value : goal.returns-clause-value
returns-clause-value c =
    c.len.ensures ∙ c.self.inside.starts.ok.0 ∙ sym (many c.self.inside.literals.items c.self.inside.starts.items)
    ∙ ap (λ f. length f.clauses) c.self.view_is
