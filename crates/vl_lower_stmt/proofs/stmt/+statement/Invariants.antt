use Rattle.std.proofs.Common.{◌≡◌, drop, take}
use Rattle.vl_tree.specs.Stmt.{stmts}
use Rattle.vl_tree.specs.StmtView.{arms}
use Rattle.vl_size.specs.Size.{Values}
use Rattle.vl_mean.specs.Execution.{State, otherwise}
use Rattle.vl_mean.specs.FlatLaw.{AreBlocks, flat_scopes}
use Rattle.vl_lower_assign.specs.Frames.{cells_of}
use Rattle.vl_lower_assign.specs.Stored.{otherwise_stored}
use Rattle.vl_lower_stmt.specs.StepsArms.{AreLedTo, ArmsDone, case_test}
use Rattle.vl_lower_stmt.specs.Executes.{ExecutesAll}
use Rattle.vl_lower_stmt.proofs.stmt.+statement.Given as goal

abbrev pub invariant-sequence-loop-stmt : goal.invariant-sequence-loop-stmt
invariant-sequence-loop-stmt l = record {
  left : AreBlocks l.layout.decls.now (stmts (drop l.stmt-index l.all));
  done : ExecutesAll l.layout.decls.now l.fn.net l.net (cells_of l.fn.frame) (cells_of l.frame) l.path
      (stmts (take l.stmt-index l.all));
}

abbrev pub invariant-in_order-loop-arm : goal.invariant-in_order-loop-arm
invariant-in_order-loop-arm l = record {
  left : AreLedTo l.layout.decls.now (arms (drop l.arm-index l.all));
  done : ArmsDone l.layout.decls.now l.fn.net (cells_of l.fn.frame) l.fn.path
      (case_test l.layout.decls.now l.fn.net l.word.kind l.word.context.width l.word.context.signed l.word.node) l.net
      (cells_of l.frame) l.rest (take l.arm-index l.all);
}

-- no default so far
abbrev pub invariant-otherwise-loop-arm : goal.invariant-otherwise-loop-arm
invariant-otherwise-loop-arm l = record {
  left : AreLedTo l.layout.decls.now (arms (drop l.arm-index l.all));
  net : l.net ≡ l.fn.net;
  frame : cells_of l.frame ≡ cells_of l.fn.frame;
  other : (u : State) → otherwise (flat_scopes l.layout.decls.now) (arms (drop l.arm-index l.all)) u
      ≡ otherwise (flat_scopes l.layout.decls.now) (arms l.all) u;
  stores : (u : State) (w : Values)
      → otherwise_stored (flat_scopes l.layout.decls.now) (arms (drop l.arm-index l.all)) u w
      ≡ otherwise_stored (flat_scopes l.layout.decls.now) (arms l.all) u w;
}
