use Rattle.std.proofs.Common.{take}
use Rattle.vl_flow_check.specs.Shares.{AreBitShares}
use Rattle.vl_flow_check.proofs.vectors.bit_shares.Given as goal

abbrev pub invariant-loop-at : goal.invariant-loop-at
invariant-loop-at l = AreBitShares l.decls (take l.at l.drivers) l.shares.items
