use Rattle.std.proofs.Common.{subst}
use Rattle.vl_elab_scope.specs.Seen.{AreNamed}
use Rattle.vl_elab_scope.proofs.level.Level.are_named.Goals as goal

pub returns : goal.returns
returns c = subst AreNamed c.self.view_is c.self.invariant
