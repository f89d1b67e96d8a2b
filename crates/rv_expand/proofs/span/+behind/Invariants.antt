use Rattle.std.proofs.Common.{length}
use Rattle.rv_expand.proofs.span.+behind.Given as goal

abbrev pub decreases-behind : goal.decreases-behind
decreases-behind l = length l.rest.now
