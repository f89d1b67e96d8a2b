-- The loop over the steps.
use Rattle.std.proofs.Common.{◌≡◌, ℕ, zero, suc, ◌+◌, ◌<◌, List, [], ◌∷◌, ℤ, length, drop, get_or, Option, Some, None}
use Rattle.std.proofs.Common.{ap, sym, subst, ◌∙◌, arith}
use Rattle.std.specs.Prelude.{Result, Ok, Err}
use Rattle.std.proofs.lemmas.List.{drop_more}
use Rattle.lrat_check.specs.declared.step.Step.{Step}
use Rattle.lrat_check.specs.declared.step.Refuted.{Refuted}
use Rattle.lrat_check.specs.declared.step.StepFault.{StepFault}
use Rattle.lrat_check.specs.declared.step.StepFault.TheVariants.{NoClause, NotUnit, NoConflict, IdOrder, Rat, NoEmpty}
use Rattle.lrat_check.specs.declared.step.StepFault.TheVariants.{Memory}
use Rattle.lrat_check.specs.Answers.{Answers, OrMemory, Takes}
use Rattle.lrat_check.specs.Steps.{Held, verdict, judged, numbered, IsStep, AreSteps}

or_memory : (e : StepFault) (P Q : Type 0) → (P → Q) → OrMemory e P → OrMemory e Q
or_memory (NoClause id hint) P Q f h = f h
or_memory (NotUnit id hint) P Q f h = f h
or_memory (NoConflict id) P Q f h = f h
or_memory (IdOrder id) P Q f h = f h
or_memory (Rat id) P Q f h = f h
or_memory NoEmpty P Q f h = f h
or_memory Memory P Q f h = h

pub step_at : (steps : List Step) (k : ℕ) (step : Step) → AreSteps steps → k < length steps
    → step ≡ get_or steps k step → IsStep step
step_at [] k step a h e = absurd (omega arith)
step_at (s ∷ ss) zero step a h e = subst IsStep (sym e) a.0
step_at (s ∷ ss) (suc k) step a h e = step_at ss k step a.1 (omega arith) e

pub begins : (held : Held) (top : ℕ) (clauses : List (List ℤ)) (steps : List Step) → held ≡ numbered clauses
    → top ≡ length clauses → verdict held top steps ≡ judged clauses steps
begins held top clauses steps e t = ap (λ h. verdict h top steps) e ∙ ap (λ n. verdict (numbered clauses) n steps) t

module _ (held now : Held) (top high : ℕ) (steps : List Step) (k : ℕ) (step : Step) (j : Result Refuted StepFault)
    (lt : k < length steps) (at : step ≡ get_or steps k step) (so_far : verdict held top (drop k steps) ≡ j) where
  here : verdict held top (step ∷ drop (k + 1) steps) ≡ j
  here = ap (λ s. verdict held top (s ∷ drop (k + 1) steps)) at
      ∙ ap (verdict held top) (sym (drop_more steps k step lt)) ∙ so_far

  pub refused : (e : StepFault) → Takes held top now high step (Err e)
      → Answers (let r : Result Refuted StepFault = Err e in r) j
  refused e t = or_memory e ((more : List Step) → verdict held top (step ∷ more) ≡ Err e) (j ≡ Err e)
      (λ f. sym here ∙ f (drop (k + 1) steps)) t

  pub accepted : (r : Refuted) (o : Option Refuted) → o ≡ Some r → Takes held top now high step (Ok o) → j ≡ Ok r
  accepted r o e t = sym here ∙ taken (drop (k + 1) steps) where
    taken : Takes held top now high step (Ok (Some r))
    taken = subst (λ x. Takes held top now high step (Ok x)) e t

  pub goes_on : (o : Option Refuted) → o ≡ None → Takes held top now high step (Ok o)
      → verdict now high (drop (k + 1) steps) ≡ j
  goes_on o e t = sym (taken (drop (k + 1) steps)) ∙ here where
    taken : Takes held top now high step (Ok None)
    taken = subst (λ x. Takes held top now high step (Ok x)) e t
