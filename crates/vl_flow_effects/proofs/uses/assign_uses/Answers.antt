use Rattle.std.proofs.Common.{refl}
use Rattle.fv_bit_sets.specs.Cells.{has}
use Rattle.vl_flow_order.proofs.Naming.{none_named}
use Rattle.vl_flow_effects.proofs.uses.assign_uses.Goals as goal

pub returns : goal.returns
returns c one other = record {
  clocked = refl;
  needs = c.in_ok-needs.ensures one other;
  drives = c.in_ok-drives.ensures one;
  latched = λ x n i at. c.none.ensures x i;
  assigned = record {
    blocking = none_named c.args.decls.now (has c.none-2.result.blocking) c.none-2.ensures.blocking;
    nonblocking = none_named c.args.decls.now (has c.none-2.result.nonblocking) c.none-2.ensures.nonblocking;
  };
}
