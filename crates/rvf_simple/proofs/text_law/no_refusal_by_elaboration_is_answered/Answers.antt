use Rattle.rvf_simple.proofs.Elaborated.{elaboration_is_no_answer}
use Rattle.rvf_simple.proofs.text_law.no_refusal_by_elaboration_is_answered.Goals as goal

pub returns : goal.returns
returns c a h f answer = elaboration_is_no_answer a h f answer
