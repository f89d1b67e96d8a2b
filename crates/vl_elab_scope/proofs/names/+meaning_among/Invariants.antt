use Rattle.std.proofs.Common.{length}
use Rattle.vl_elab_scope.proofs.names.+meaning_among.Given as goal

abbrev pub decreases-meaning_among : goal.decreases-meaning_among
decreases-meaning_among l = length l.levels.now
