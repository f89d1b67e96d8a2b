use Rattle.std.proofs.Common.{length}
use Rattle.vl_flow_effects.proofs.joined.+in_sequence.Given as goal

abbrev pub decreases-in_sequence : goal.decreases-in_sequence
decreases-in_sequence l = length l.effects.now
