use Rattle.std.proofs.Common.{take}
use Rattle.std.specs.Prelude.{All}
use Rattle.vl_mean.specs.FlatLaw.{IsDriver}
use Rattle.vl_flow.specs.Analyses.{AreSetsOf}
use Rattle.vl_flow.proofs.drivers.sets_of.Given as goal

abbrev pub invariant-loop-driver : goal.invariant-loop-driver
invariant-loop-driver l =
    All (λ x. IsDriver l.decls x.what) l.drivers → AreSetsOf l.decls (take l.driver-index l.drivers) l.sets
