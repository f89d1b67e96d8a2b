use Rattle.std.proofs.Common.{sym, subst}
use Rattle.vl_flow_effects.specs.Uses.{AreUsesOf}
use Rattle.vl_flow_cells.specs.Sized.{DriverIsSized}
use Rattle.vl_flow_effects.proofs.uses.uses_of.Goals as goal

pub returns-in_ok-assign_uses-in-Assign : goal.returns-in_ok-assign_uses-in-Assign
returns-in_ok-assign_uses-in-Assign c sized =
    let ds = c.args.decls.now in
    let parts = subst (DriverIsSized ds) c.in-Assign.is sized in
    subst (AreUsesOf ds c.in_ok-assign_uses-in-Assign.field-0) (sym c.in-Assign.is)
    (c.in_ok-assign_uses-in-Assign.ensures parts.0 parts.1)

pub returns-in_ok-comb_uses-in-Comb : goal.returns-in_ok-comb_uses-in-Comb
returns-in_ok-comb_uses-in-Comb c sized =
    let ds = c.args.decls.now in
    subst (AreUsesOf ds c.in_ok-comb_uses-in-Comb.field-0) (sym c.in-Comb.is)
    (c.in_ok-comb_uses-in-Comb.ensures ds c.in-Comb.stmt
    (c.in_ok-effect_of-in-Comb.ensures (subst (DriverIsSized ds) c.in-Comb.is sized))
    c.in_ok-assigned-in-Comb.ensures)

pub returns-in_ok-clocked_uses-in-Clocked : goal.returns-in_ok-clocked_uses-in-Clocked
returns-in_ok-clocked_uses-in-Clocked c sized =
    let ds = c.args.decls.now in
    subst (AreUsesOf ds c.in_ok-clocked_uses-in-Clocked.field-0) (sym c.in-Clocked.is)
    (c.in_ok-clocked_uses-in-Clocked.ensures ds c.in-Clocked.stmt
    (c.in_ok-effect_of-in-Clocked.ensures (subst (DriverIsSized ds) c.in-Clocked.is sized))
    c.in_ok-assigned-in-Clocked.ensures)
