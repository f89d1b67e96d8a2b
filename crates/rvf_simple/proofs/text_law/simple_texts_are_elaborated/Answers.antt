use Rattle.rvf_simple.proofs.Elaborated.{simple_is_elaborated}
use Rattle.rvf_simple.proofs.text_law.simple_texts_are_elaborated.Goals as goal

pub returns : goal.returns
returns c a r reads simple few = simple_is_elaborated a r reads simple few
