use Rattle.std.specs.Prelude.{None, refl, [], IsSome, true}
use Rattle.std.proofs.Common.{sym, subst}
use Rattle.vl_tree.specs.declared.stmt.AssignKind.TheVariants as a
use Rattle.vl_tree.specs.Expr.{Expr}
use Rattle.vl_tree.specs.Stmt.{assign}
use Rattle.vl_size.specs.Size.{size}
use Rattle.vl_mean.specs.FlatLaw.{is_variable}
use Rattle.vl_mean.specs.Parts.{here}
use Rattle.vl_lower_assign.specs.Frames.{cells_of}
use Rattle.vl_lower_stmt.specs.Executes.{Executes}
use Rattle.vl_lower_stmt.proofs.Contexts.{sized_target}
use Rattle.vl_lower_stmt.proofs.start.write_start.Goals as goal

pub assign-requires-clause-target : goal.assign-requires-clause-target
assign-requires-clause-target c =
    sized_target c.args.layout.decls.now is_variable true c.args.start.now.target c.requires.started.0

pub assign-requires-clause-sized : goal.assign-requires-clause-sized
assign-requires-clause-sized c =
    let P : Expr → Type 0 = λ e. IsSome (size c.args.layout.decls.now e) in
    subst P (sym c.number_of-value.ensures) refl

pub returns : goal.returns
returns c =
    let P : Expr → Type 0 = λ e.
    Executes c.args.layout.decls.now c.args.net.now c.assign.new.net (cells_of c.args.frame.now)
    (cells_of c.assign.new.frame) None (assign [] here c.args.start.now.target a.Nonblocking e) in
    subst P c.number_of-value.ensures (c.in_ok-assign.ensures [] here)
