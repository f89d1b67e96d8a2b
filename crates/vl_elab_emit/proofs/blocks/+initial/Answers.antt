use Rattle.std.proofs.Common.{◌≡◌, ◌≤◌, ◌+◌, [], ◌∷◌, ap, arith}
use Rattle.std.specs.Prelude.{List, drop}
use Rattle.std.proofs.lemmas.Grind.{common_steps}
use Rattle.vl_tree.specs.Stmt.{Stmt, stmts, depth, stmts_depth}
use Rattle.vl_mean.specs.Parts.{all_initial_parts, initial_parts}
use Rattle.vl_elab_emit.specs.Behind.{MayStandBehind, Placed, unplaced}
use Rattle.vl_elab_emit.proofs.Standing.{rest_first, rest_next, rest_last, may_first, may_next}
use Rattle.vl_elab_emit.proofs.Valued.{stmt_depth}
use Rattle.vl_elab_emit.proofs.blocks.+initial.Goals as goal

pub write_all_initial-loop-stmt-init : goal.write_all_initial-loop-stmt-init
write_all_initial-loop-stmt-init t c = record {
  may = c.requires;
  rest = rest_first c.args.draft.now (unplaced (all_initial_parts c.args.scopes.now (stmts c.args.all.now)));
}

pub write_all_initial-write_initial-requires : goal.write_all_initial-write_initial-requires
write_all_initial-write_initial-requires t c =
    let i = c.loop-stmt.stmt-index in
    let x = c.stmt-item.result in
    let front : drop i c.args.all.now ≡ x ∷ drop (i + 1) c.args.all.now = grind (arith, common_steps) in
    let may : MayStandBehind c.loop-stmt.draft (initial_parts c.args.scopes.now x)
    = may_first c.loop-stmt.draft (all_initial_parts c.args.scopes.now (stmts (drop i c.args.all.now)))
    (initial_parts c.args.scopes.now x) (all_initial_parts c.args.scopes.now (stmts (drop (i + 1) c.args.all.now)))
    c.loop-stmt.invariant.may (ap (λ xs. all_initial_parts c.args.scopes.now (stmts xs)) front) in
    let less : depth x ≤ stmts_depth (stmts c.args.all.now)
    = stmt_depth c.args.all.now i x (omega arith) c.stmt-item.is in
    (omega (arith, less), may)

pub write_all_initial-loop-stmt-preserved : goal.write_all_initial-loop-stmt-preserved
write_all_initial-loop-stmt-preserved t c =
    let i = c.loop-stmt.stmt-index in
    let x = c.stmt-item.result in
    let front : drop i c.args.all.now ≡ x ∷ drop (i + 1) c.args.all.now = grind (arith, common_steps) in
    let started : List Stmt → Placed = λ xs. unplaced (all_initial_parts c.args.scopes.now (stmts xs)) in
    record {
      may = may_next c.loop-stmt.draft c.write_initial.new.draft
          (all_initial_parts c.args.scopes.now (stmts (drop i c.args.all.now)))
          (unplaced (initial_parts c.args.scopes.now x))
          (all_initial_parts c.args.scopes.now (stmts (drop (i + 1) c.args.all.now))) c.loop-stmt.invariant.may
          (ap (λ xs. all_initial_parts c.args.scopes.now (stmts xs)) front) c.in_ok-write_initial.ensures;
      rest = rest_next c.args.draft.now (started c.args.all.now) c.loop-stmt.draft c.write_initial.new.draft
          (started (drop i c.args.all.now)) (unplaced (initial_parts c.args.scopes.now x))
          (started (drop (i + 1) c.args.all.now)) c.loop-stmt.invariant.rest (ap started front)
          c.in_ok-write_initial.ensures;
    }

pub write_all_initial-returns : goal.write_all_initial-returns
write_all_initial-returns t c =
    let i = c.loop-stmt.stmt-index in
    let gone : drop i c.args.all.now ≡ [] = grind (arith, common_steps) in
    let started : List Stmt → Placed = λ xs. unplaced (all_initial_parts c.args.scopes.now (stmts xs)) in
    rest_last c.args.draft.now (started c.args.all.now) c.loop-stmt.draft (started (drop i c.args.all.now))
    c.loop-stmt.invariant.rest (ap started gone)
