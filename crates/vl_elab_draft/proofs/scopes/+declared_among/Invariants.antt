use Rattle.std.proofs.Common.{length}
use Rattle.vl_elab_draft.proofs.scopes.+declared_among.Given as goal

abbrev pub decreases-declared_among : goal.decreases-declared_among
decreases-declared_among l = length l.scopes.now
