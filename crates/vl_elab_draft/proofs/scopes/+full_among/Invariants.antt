use Rattle.std.proofs.Common.{length}
use Rattle.vl_elab_draft.proofs.scopes.+full_among.Given as goal

abbrev pub decreases-full_among : goal.decreases-full_among
decreases-full_among l = length l.scopes.now
