use Rattle.rvf_simple.proofs.Elaborated.{never_refused_by_elaboration}
use Rattle.rvf_simple.proofs.text_law.elaboration_refuses_no_simple_text.Goals as goal

pub returns : goal.returns
returns c a h f it = never_refused_by_elaboration a h f it
