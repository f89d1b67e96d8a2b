use Rattle.std.proofs.Common.{refl}
use Rattle.vl_flow_effects.proofs.BothKinds.{all_drives}
use Rattle.vl_flow_effects.proofs.uses.clocked_uses.Goals as goal

pub returns : goal.returns
returns c ds s h are = record {
  clocked = refl;
  needs = h.needs;
  drives = all_drives ds s c.args.effect c.in_ok-drives.drives c.in_ok-drives.ensures h;
  latched = λ x n i at. c.none.ensures x i;
  assigned = record { blocking = are.blocking; nonblocking = are.nonblocking };
}
