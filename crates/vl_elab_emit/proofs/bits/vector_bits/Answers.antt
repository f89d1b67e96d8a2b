use Rattle.vl_elab_emit.proofs.Several.{several}
use Rattle.vl_elab_emit.proofs.bits.vector_bits.Goals as goal

pub returns-in-len2-up : goal.returns-in-len2-up
returns-in-len2-up c = several c.args.scopes.now c.args.decl.now c.args.all.now c.in-len2-up.len_at_least
