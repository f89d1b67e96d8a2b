use Rattle.std.proofs.Common.{length}
use Rattle.vl_elab_draft.proofs.scopes.+constant_among.Given as goal

abbrev pub decreases-constant_among : goal.decreases-constant_among
decreases-constant_among l = length l.scopes.now
