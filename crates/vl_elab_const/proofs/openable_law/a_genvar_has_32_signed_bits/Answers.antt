use Rattle.vl_elab_const.proofs.Genvars.{genvar_bounded}
use Rattle.vl_elab_const.proofs.openable_law.a_genvar_has_32_signed_bits.Goals as goal

pub returns : goal.returns
returns c = genvar_bounded
