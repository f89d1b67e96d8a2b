use Rattle.std.proofs.Common.{take}
use Rattle.vl_flow_check.specs.Shares.{AreNameShares}
use Rattle.vl_flow_check.proofs.names.name_shares.Given as goal

abbrev pub invariant-loop-at : goal.invariant-loop-at
invariant-loop-at l = AreNameShares l.decls (take l.at l.drivers) l.shares.items
