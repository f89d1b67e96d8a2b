-- Meaning: What the check of a certificate comes to: a clause file, and a proof of steps. Rules of this project, over
-- the texts of DIMACS and LRAT.
use Rattle.std.specs.Prelude.{ℕ, List, [], ◌∷◌, ◌++◌, ℤ, pos, Result, Ok, Err, codes, decimal}
use Rattle.std.specs.Fmt.{signed_decimal}
use Rattle.cnf_form.specs.Cnf.{Cnf}
use Rattle.cnf_text.specs.Dimacs.{formula_of, dimacs_number}
use Rattle.cnf_text.specs.declared.fault.DimacsFault.{DimacsFault}
use Rattle.cnf_text.specs.declared.fault.DimacsFault.TheVariants as dimacs
use Rattle.lrat_check.specs.Steps.{judged, step_number}
use Rattle.lrat_check.specs.Texts.{steps_of, lrat_number}
use Rattle.lrat_check.specs.declared.lrat_fault.LratFault.{LratFault}
use Rattle.lrat_check.specs.declared.lrat_fault.LratFault.TheVariants as lrat
use Rattle.lrat_check.specs.declared.step.StepFault.{StepFault}
use Rattle.lrat_check.specs.declared.step.StepFault.TheVariants as step
use Rattle.lrat_check.specs.declared.step.Refuted.{Refuted}
use Rattle.lrat_check.specs.declared.step.Step.{Step}
use Rattle.rvf_report.specs.declared.delivery.Delivery.TheVariants.{Line}
use Rattle.rvf_report.specs.declared.status.Status.{Status}
use Rattle.rvf_report.specs.Printed.{spaced}
use Rattle.rvf_core.specs.declared.report.Report.{Report}
use Rattle.rvf_report.specs.declared.status.Status.TheVariants as s

-- a status with one line
abbrev pub one_line : Status → List ℕ → Report
one_line status bytes = record { status = status; deliveries = Line bytes ∷ [] }

-- a refusal's number, and two values
abbrev pub two_values : List ℕ → ℕ → List ℕ → List ℕ
two_values front number value = spaced front (spaced (decimal number) (value ++ (10 ∷ [])))

abbrev pub three_values : List ℕ → ℕ → ℕ → List ℕ → List ℕ
three_values front number id hint = spaced front (spaced (decimal number) (spaced (decimal id) (hint ++ (10 ∷ []))))

-- the line of a clause file in which a refusal is; 0 where there is none
abbrev pub line_in_cnf : DimacsFault → ℕ
line_in_cnf (dimacs.Header line) = line
line_in_cnf (dimacs.Literal line) = line
line_in_cnf (dimacs.Count found said) = 0
line_in_cnf (dimacs.Open line) = line
line_in_cnf dimacs.Memory = 0

-- the line that is put where a clause file is refused
abbrev pub cnf_line : DimacsFault → List ℕ
cnf_line fault = two_values (codes "refused cnf") (dimacs_number fault) (decimal (line_in_cnf fault))

-- the line of a proof in which a refusal is
abbrev pub line_in_lrat : LratFault → ℕ
line_in_lrat (lrat.Literal line) = line
line_in_lrat (lrat.Open line) = line
line_in_lrat lrat.Memory = 0

-- the line that is put where a proof is refused as a text
abbrev pub lrat_line : LratFault → List ℕ
lrat_line fault = two_values (codes "refused lrat") (lrat_number fault) (decimal (line_in_lrat fault))

-- the id of a step that is refused; 0 where there is none
abbrev pub step_id : StepFault → ℕ
step_id (step.NoClause id hint) = id
step_id (step.NotUnit id hint) = id
step_id (step.NoConflict id) = id
step_id (step.IdOrder id) = id
step_id (step.Rat id) = id
step_id step.NoEmpty = 0
step_id step.Memory = 0

-- the hint that a step is refused for; 0 where there is none
abbrev pub step_hint : StepFault → ℤ
step_hint (step.NoClause id hint) = hint
step_hint (step.NotUnit id hint) = hint
step_hint fault = pos 0

-- the line that is put where a step is refused
abbrev pub step_line : StepFault → List ℕ
step_line fault =
    three_values (codes "refused step") (step_number fault) (step_id fault) (signed_decimal (step_hint fault))

abbrev pub refuted_line : ℕ → List ℕ
refuted_line id = spaced (codes "refuted") (decimal id ++ (10 ∷ []))

abbrev pub refused : List ℕ → Report
refused line = one_line s.Refused line

abbrev pub judgement : Result Refuted StepFault → Report
judgement (Ok refuted) = one_line s.Passed (refuted_line refuted.id)
judgement (Err fault) = refused (step_line fault)

-- over the clauses of the first file the proof is read, and then its steps are checked
abbrev pub proof_report : List (List ℤ) → Result (List Step) LratFault → Report
proof_report clauses (Err fault) = refused (lrat_line fault)
proof_report clauses (Ok steps) = judgement (judged clauses steps)

abbrev pub formula_report : Result Cnf DimacsFault → List ℕ → Report
formula_report (Err fault) proof = refused (cnf_line fault)
formula_report (Ok formula) proof = proof_report formula.clauses (steps_of proof)

-- the status and the line of the first refusal in this order, or that the steps refute
abbrev pub outcome : List ℕ → List ℕ → Report
outcome cnf proof = formula_report (formula_of cnf) proof
