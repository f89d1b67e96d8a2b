use Rattle.std.proofs.Common.{subst}
use Rattle.vl_mean.specs.FlatLaw.{IsDriver}
use Rattle.vl_flow_spec.specs.Drivers.{driven_by}
use Rattle.vl_flow_cells.specs.Sized.{DriverIsSized}
use Rattle.vl_flow_cells.proofs.Sizing.{driver_sized}
use Rattle.vl_flow_check.proofs.Drivers.{assign_added, clocked_added, comb_added}
use Rattle.vl_flow_check.proofs.vectors.driver_shares.Goals as goal

pub returns-in_ok-target_shares-in-Assign : goal.returns-in_ok-target_shares-in-Assign
returns-in_ok-target_shares-in-Assign c lawful w =
    let ds = c.args.decls.now in
    let x = c.args.driver.now.what in
    let sized = subst (DriverIsSized ds) c.in-Assign.is (driver_sized ds x lawful) in
    let parts = subst (IsDriver ds) c.in-Assign.is lawful in
    assign_added ds c.args.into.now.items c.target_shares.new.into.items c.args.driver.now.pos x
    c.in-Assign.target c.in-Assign.field-1 c.in-Assign.is (c.in_ok-target_shares-in-Assign.ensures sized.0 parts.0.0)

pub returns-in_ok-block_share-in-Comb : goal.returns-in_ok-block_share-in-Comb
returns-in_ok-block_share-in-Comb c lawful w =
    let ds = c.args.decls.now in
    let x = c.args.driver.now.what in
    comb_added ds c.args.into.now.items c.block_share.new.into.items c.args.driver.now.pos x
    c.in-Comb.field-0 c.in-Comb.is (c.in_ok-block_share-in-Comb.ensures ds (driven_by ds x) w.drives)

pub returns-in_ok-block_share-in-Clocked : goal.returns-in_ok-block_share-in-Clocked
returns-in_ok-block_share-in-Clocked c lawful w =
    let ds = c.args.decls.now in
    let x = c.args.driver.now.what in
    clocked_added ds c.args.into.now.items c.block_share-in-Clocked.new.into.items c.args.driver.now.pos x
    c.in-Clocked.field-0 c.in-Clocked.is (c.in_ok-block_share-in-Clocked.ensures ds (driven_by ds x) w.drives)
