use Rattle.std.proofs.Common.{◌*◌, ◌+◌}
use Rattle.std.specs.Prelude.{drop}
use Rattle.vl_tree.specs.Stmt.{stmts, depth, stmts_depth}
use Rattle.vl_mean.specs.Parts.{all_initial_parts}
use Rattle.vl_elab_emit.specs.Behind.{MayStandBehind, unplaced}
use Rattle.vl_elab_emit.proofs.Standing.{Rest}
use Rattle.vl_elab_emit.proofs.blocks.+initial.Given as goal

abbrev pub invariant-write_all_initial-loop-stmt : goal.invariant-write_all_initial-loop-stmt
invariant-write_all_initial-loop-stmt l = record {
  may : MayStandBehind l.draft (all_initial_parts l.scopes (stmts (drop l.stmt-index l.all)));
  rest : Rest l.fn.draft (unplaced (all_initial_parts l.scopes (stmts l.all))) l.draft
      (unplaced (all_initial_parts l.scopes (stmts (drop l.stmt-index l.all))));
}

abbrev pub decreases-write_initial : goal.decreases-write_initial
decreases-write_initial l = 2 * depth l.stmt.now

abbrev pub decreases-write_all_initial : goal.decreases-write_all_initial
decreases-write_all_initial l = 2 * stmts_depth (stmts l.all.now) + 1
