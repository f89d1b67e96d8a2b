use Rattle.ck_design.proofs.NotesWhole.{tight}
use Rattle.ck_design.proofs.notes_law.certificates_are_tight.Goals as goal

pub returns : goal.returns
returns c = tight
