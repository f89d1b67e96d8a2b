use Rattle.std.specs.Prelude.{[], true}
use Rattle.std.proofs.Common.{sym, subst}
use Rattle.vl_mean.specs.declared.driver.DriverKind.{DriverKind}
use Rattle.vl_mean.specs.FlatLaw.{IsDriver, is_net}
use Rattle.vl_lower_assign.specs.Frames.{cells_of}
use Rattle.vl_lower_cell_laws.specs.Cycles.{Settles}
use Rattle.vl_lower_stmt.proofs.Contexts.{sized_target}
use Rattle.vl_lower.proofs.Driving.{assign_settles, block_settles}
use Rattle.vl_lower.proofs.settle.settle.Goals as goal

pub assign-requires-clause-target : goal.assign-requires-clause-target
assign-requires-clause-target c =
    sized_target c.args.layout.decls.now is_net true c.in-Assign.target
    (subst (IsDriver c.args.layout.decls.now) c.in-Assign.is c.requires.driver).0.0

pub returns-in_ok-assign-in-Assign : goal.returns-in_ok-assign-in-Assign
returns-in_ok-assign-in-Assign c =
    let ds = c.args.layout.decls.now in
    let old = c.args.net.now in
    let new = c.assign.new.net in
    let f = cells_of c.args.frame.now in
    let h = cells_of c.assign.new.frame in
    let P : DriverKind → Type 0 = λ x. Settles ds old new f h h.assumed x in
    subst P (sym c.in-Assign.is)
    (assign_settles ds old new f h c.requires.empty [] c.args.driver.now.pos c.in-Assign.target c.in-Assign.expr
    (c.in_ok-assign-in-Assign.ensures [] c.args.driver.now.pos))

pub returns-in_ok-execute-in-Comb : goal.returns-in_ok-execute-in-Comb
returns-in_ok-execute-in-Comb c =
    let ds = c.args.layout.decls.now in
    let old = c.args.net.now in
    let new = c.execute.new.net in
    let f = cells_of c.args.frame.now in
    let h = cells_of c.execute.new.frame in
    let P : DriverKind → Type 0 = λ x. Settles ds old new f h h.assumed x in
    subst P (sym c.in-Comb.is)
    (block_settles ds old new f h c.requires.empty c.in-Comb.stmt c.in_ok-execute-in-Comb.ensures)
