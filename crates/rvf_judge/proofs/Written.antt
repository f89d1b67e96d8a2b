-- What is said of the texts of a certificate by their lines is said of them by their notes.
use Rattle.std.specs.Prelude.{◌≡◌, ℕ, List, map, Result, Ok, Err, IfOk}
use Rattle.std.proofs.Common.{◌∙◌, ap}
use Rattle.fv_text.specs.declared.memory.Memory.{Memory}
use Rattle.cnf_form.specs.Cnf.{Cnf}
use Rattle.cnf_text.specs.Dimacs.{HaveNoEnd, dimacs_text}
use Rattle.lrat_check.specs.declared.step.Step.{Step}
use Rattle.lrat_check.specs.Texts.{lrat_text}
use Rattle.ck_design.specs.declared.note.Note.{Note}
use Rattle.rvf_judge.specs.declared.judged.CertificateTexts.{CertificateTexts}
use Rattle.rvf_judge.specs.JudgeParts.{AreReadBack}
use Rattle.rvf_judge.specs.Judged.{AreTexts}
use Rattle.rvf_judge.specs.Lines.{note_text}

module _ (lines : List (List ℕ)) (notes : List Note) (formula : Cnf) (steps : List Step) where
  pub texts_from : (r : Result CertificateTexts Memory) → lines ≡ map note_text notes
      → IfOk r (λ (texts : CertificateTexts). texts ≡ record {
        clauses = dimacs_text lines formula;
        steps = lrat_text steps;
      }) → IfOk r (AreTexts notes formula steps)
  texts_from (Ok texts) e h = record {
    clauses_are = ap (λ (t : CertificateTexts). t.clauses) h ∙ ap (λ ls. dimacs_text ls formula) e;
    steps_are = ap (λ (t : CertificateTexts). t.steps) h;
  }
  texts_from (Err fault) e h = tt

module _ (lines : List (List ℕ)) (formula : Cnf) (steps : List Step) where
  pub back_from : (r : Result CertificateTexts Memory) → HaveNoEnd lines
      → IfOk r (λ texts. HaveNoEnd lines → AreReadBack formula steps texts) → IfOk r (AreReadBack formula steps)
  back_from (Ok texts) ends h = h ends
  back_from (Err fault) ends h = tt
