-- Between functions: What a call answers, want of memory apart. Rule of this project.
use Rattle.std.specs.Prelude.{ℕ, ◌≡◌, false, List, [], ◌∷◌, ℤ, Option, Some, None, Result, Ok, Err}
use Rattle.lrat_check.specs.declared.step.Step.{Step}
use Rattle.lrat_check.specs.declared.step.Refuted.{Refuted}
use Rattle.lrat_check.specs.declared.step.StepFault.{StepFault}
use Rattle.lrat_check.specs.declared.step.StepFault.TheVariants.{NoClause, NotUnit, NoConflict, IdOrder, Rat, NoEmpty}
use Rattle.lrat_check.specs.declared.step.StepFault.TheVariants.{Memory}
use Rattle.lrat_check.specs.Steps.{Held, verdict, add_fault, is_empty, with_clause}

-- a fact about a refusal; want of memory says nothing
abbrev pub OrMemory : StepFault → Type 0 → Type 0
OrMemory (NoClause id hint) P = P
OrMemory (NotUnit id hint) P = P
OrMemory (NoConflict id) P = P
OrMemory (IdOrder id) P = P
OrMemory (Rat id) P = P
OrMemory NoEmpty P = P
OrMemory Memory P = Unit {0}

-- the answer is the wanted one
abbrev pub Answers : {X : Type 0} → Result X StepFault → Result X StepFault → Type 0
Answers (Ok x) wanted = wanted ≡ Ok x
Answers (Err e) wanted = OrMemory e (wanted ≡ Err e)

-- Ok where no fault is there, and else the fault
abbrev pub Judges : {X : Type 0} → Result X StepFault → Option StepFault → Type 0
Judges (Ok x) wanted = wanted ≡ None
Judges (Err e) wanted = OrMemory e (wanted ≡ Some e)

-- one step is taken: what the verdict is, or how the other steps go on
abbrev pub Takes : Held → ℕ → Held → ℕ → Step → Result (Option Refuted) StepFault → Type 0
Takes held top now high step (Ok (Some refuted)) =
    (steps : List Step) → verdict held top (step ∷ steps) ≡ Ok refuted
Takes held top now high step (Ok None) =
    (steps : List Step) → verdict held top (step ∷ steps) ≡ verdict now high steps
Takes held top now high step (Err e) = OrMemory e ((steps : List Step) → verdict held top (step ∷ steps) ≡ Err e)

-- an added clause is taken
abbrev pub Adds : Held → ℕ → Held → ℕ → ℕ → List ℤ → List ℤ
    → Result (Option Refuted) StepFault → Type 0
Adds held top now high id lits hints (Ok (Some refuted)) =
    (add_fault held top id lits hints ≡ None) × (lits ≡ []) × (refuted ≡ record { id = id })
Adds held top now high id lits hints (Ok None) =
    (add_fault held top id lits hints ≡ None) × (is_empty lits ≡ false)
    × (now ≡ with_clause held id lits) × (high ≡ id)
Adds held top now high id lits hints (Err e) = OrMemory e (add_fault held top id lits hints ≡ Some e)
