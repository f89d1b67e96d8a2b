use Rattle.ck_design.proofs.NotesForm.{in_form}
use Rattle.ck_design.proofs.notes_law.notes_are_in_form.Goals as goal

pub returns : goal.returns
returns c = in_form
