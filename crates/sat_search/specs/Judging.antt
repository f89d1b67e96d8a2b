-- Between functions: What is looked at before guessed steps are taken, besides what the checker says. Rule of this
-- project.
use Rattle.std.specs.Prelude.{ℕ, ◌<◌, ◌^◌, ◌≡◌, List, [], ◌∷◌, ℤ, unsigned_abs}
use Rattle.std.specs.List.{AllByRecursion}
use Rattle.cnf_form.specs.Cnf.{AreLiterals}
use Rattle.lrat_check.specs.declared.step.Step.{Step}
use Rattle.lrat_check.specs.declared.step.Step.TheVariants.{Add, Delete}
use Rattle.lrat_check.specs.Texts.{IsShortLiteral}

-- each literal's variable is above the one before it, the first one's above this one
abbrev pub Rising : ℕ → List ℤ → Type 0
Rising last [] = Unit {0}
Rising last (l ∷ ls) = (last < unsigned_abs l) × Rising (unsigned_abs l) ls

-- the step adds a clause; its variables are the formula's and rise, and no id has more than 18 digits
abbrev pub IsFit : ℕ → Step → Type 0
IsFit vars (Add id lits hints) =
    (id < 10 ^ 18) × AreLiterals vars lits × Rising 0 lits × AllByRecursion IsShortLiteral hints
IsFit vars (Delete id ids) = ⊥

abbrev pub AreFit : ℕ → List Step → Type 0
AreFit vars steps = AllByRecursion (IsFit vars) steps

-- the step adds the empty clause under the id
abbrev pub AddsEmpty : ℕ → Step → Type 0
AddsEmpty id step = (hints : List ℤ) × (step ≡ Add id [] hints)
