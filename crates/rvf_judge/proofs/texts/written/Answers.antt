use Rattle.std.proofs.Common.{◌≡◌, ◌∙◌, Ok, ap, subst}
use Rattle.cnf_text.specs.Dimacs.{formula_of}
use Rattle.lrat_check.specs.Texts.{AreShort, steps_of}
use Rattle.rvf_judge.proofs.texts.written.Goals as goal

pub returns-clause-read_back : goal.returns-clause-read_back
returns-clause-read_back c = λ ends. record {
  clauses = λ fits.
      ap formula_of c.from_vec.ensures ∙ c.in_ok-clauses.ensures.read_back ends fits.vars fits.clauses;
  steps = λ short.
      ap steps_of c.from_vec-2.ensures
      ∙ subst (λ xs. AreShort xs → steps_of c.in_ok-steps.steps.items ≡ Ok xs) c.as_slice.ensures
      c.in_ok-steps.ensures.read_back short;
}
