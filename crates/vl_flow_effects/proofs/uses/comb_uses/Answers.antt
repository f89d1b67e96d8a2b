use Rattle.std.proofs.Common.{refl}
use Rattle.vl_flow_effects.proofs.BothKinds.{all_drives, latches}
use Rattle.vl_flow_effects.proofs.uses.comb_uses.Goals as goal

pub returns : goal.returns
returns c ds s h are =
    let e = c.args.effect in
    let drives = all_drives ds s e c.in_ok-drives.drives c.in_ok-drives.ensures h in record {
      clocked = refl;
      needs = h.needs;
      drives = drives;
      latched = latches ds s e c.in_ok-drives.drives c.in_ok-latched.latched c.in_ok-latched.ensures drives h;
      assigned = record { blocking = are.blocking; nonblocking = are.nonblocking };
    }
