-- What follows where what is read is what a text says: no text says two things, and what is written says what was
-- written.
use Rattle.std.proofs.Common.{◌≡◌, ℕ, ◌≤◌, List, length, Result, Ok}
use Rattle.cnf_form.specs.Cnf.{Cnf, AreClauses}
use Rattle.cnf_text.specs.declared.fault.DimacsFault.{DimacsFault}
use Rattle.cnf_text.specs.Dimacs.{formula_of, dimacs_text, HaveNoEnd}
use Rattle.cnf_text.proofs.ReadBack as clause_files
use Rattle.lrat_check.specs.declared.step.Step.{Step}
use Rattle.lrat_check.specs.declared.lrat_fault.LratFault.{LratFault}
use Rattle.lrat_check.specs.Texts.{steps_of, lrat_text, AreShort}
use Rattle.lrat_check.proofs.ReadBack as steps_read
use Rattle.lrat_texts.specs.Formulas.{SaysFormula}
use Rattle.lrat_texts.specs.Steps.{SaysSteps}
use Rattle.lrat_texts.proofs.Formulas.{formula_law}
use Rattle.lrat_texts.proofs.Steps.{steps_law}

same_formula : (r : Result Cnf DimacsFault) (f g : Cnf) → r ≡ Ok f → r ≡ Ok g → f ≡ g
same_formula r f g e h = cc

same_steps : (r : Result (List Step) LratFault) (xs ys : List Step) → r ≡ Ok xs → r ≡ Ok ys → xs ≡ ys
same_steps r xs ys e h = cc

pub one_formula : (bytes : List ℕ) (f g : Cnf) → SaysFormula bytes f → SaysFormula bytes g → f ≡ g
one_formula bytes f g s t = same_formula (formula_of bytes) f g ((formula_law bytes f).1 s) ((formula_law bytes g).1 t)

pub one_proof : (bytes : List ℕ) (xs ys : List Step) → SaysSteps bytes xs → SaysSteps bytes ys → xs ≡ ys
one_proof bytes xs ys s t = same_steps (steps_of bytes) xs ys ((steps_law bytes xs).1 s) ((steps_law bytes ys).1 t)

pub written_formula : (notes : List (List ℕ)) (formula : Cnf) → HaveNoEnd notes → formula.vars ≤ 100000000
    → length formula.clauses ≤ 100000000 → AreClauses formula.vars formula.clauses
    → SaysFormula (dimacs_text notes formula) formula
written_formula notes formula n v c h =
    (formula_law (dimacs_text notes formula) formula).0 (clause_files.read_back notes formula n v c h)

pub written_steps : (steps : List Step) → AreShort steps → SaysSteps (lrat_text steps) steps
written_steps steps h = (steps_law (lrat_text steps) steps).0 (steps_read.read_back steps h)
