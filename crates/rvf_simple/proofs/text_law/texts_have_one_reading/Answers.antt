use Rattle.rvf_simple.proofs.Elaborated.{texts_have_one_reading}
use Rattle.rvf_simple.proofs.text_law.texts_have_one_reading.Goals as goal

pub returns : goal.returns
returns c a r s h k = texts_have_one_reading a r s h k
