-- A search's steps are ones that the checker takes.
use Rattle.std.proofs.Common.{ℕ, ◌^◌, ◌<◌, List, [], ◌∷◌}
use Rattle.lrat_check.specs.declared.step.Step.{Step}
use Rattle.lrat_check.specs.declared.step.Step.TheVariants.{Add, Delete}
use Rattle.lrat_check.specs.Steps.{AreSteps}
use Rattle.sat_search.specs.Added.{AreAdded}
use Rattle.sat_search.proofs.Literals.{lits_of}

pub are_steps : (vars : ℕ) (steps : List Step) → vars < 2 ^ 63 → AreAdded vars steps → AreSteps steps
are_steps vars [] v h = tt
are_steps vars (Add id lits hints ∷ steps) v h = (lits_of vars lits v h.0, are_steps vars steps v h.2)
are_steps vars (Delete id ids ∷ steps) v h = (tt, are_steps vars steps v h)
