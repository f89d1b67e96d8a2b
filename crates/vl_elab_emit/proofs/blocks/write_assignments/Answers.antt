use Rattle.std.proofs.Common.{◌≡◌, ◌+◌, [], ◌∷◌, ap, arith}
use Rattle.std.specs.Prelude.{List, drop}
use Rattle.std.proofs.lemmas.Grind.{common_steps}
use Rattle.vl_tree.specs.declared.part.Assignment.{Assignment}
use Rattle.vl_mean.specs.Parts.{assignments, equation}
use Rattle.vl_elab_emit.specs.Behind.{Placed, placed_at}
use Rattle.vl_elab_emit.proofs.Standing.{rest_first, rest_next, rest_last}
use Rattle.vl_elab_emit.proofs.Single.{equation_behind}
use Rattle.vl_elab_emit.proofs.blocks.write_assignments.Goals as goal

pub loop-assignment-init : goal.loop-assignment-init
loop-assignment-init c =
    rest_first c.args.draft.now (placed_at c.args.pos (assignments c.args.scopes.now c.args.all.now))

pub loop-assignment-preserved : goal.loop-assignment-preserved
loop-assignment-preserved c =
    let i = c.loop-assignment.assignment-index in
    let x = c.assignment-item.result in
    let ss = c.args.scopes.now in
    let front : drop i c.args.all.now ≡ x ∷ drop (i + 1) c.args.all.now = grind (arith, common_steps) in
    let placed : List Assignment → Placed = λ xs. placed_at c.args.pos (assignments ss xs) in
    rest_next c.args.draft.now (placed c.args.all.now) c.loop-assignment.draft c.write_equation.new.draft
    (placed (drop i c.args.all.now)) (placed_at c.args.pos (equation ss x.target ss x.value ∷ []))
    (placed (drop (i + 1) c.args.all.now)) c.loop-assignment.invariant (ap placed front)
    (equation_behind c.loop-assignment.draft c.write_equation.new.draft c.args.pos ss x.target ss x.value
    c.in_ok-write_equation.ensures.ok)

pub returns : goal.returns
returns c =
    let ss = c.args.scopes.now in
    let gone : drop c.loop-assignment.assignment-index c.args.all.now ≡ [] = grind (arith, common_steps) in
    let placed : List Assignment → Placed = λ xs. placed_at c.args.pos (assignments ss xs) in
    rest_last c.args.draft.now (placed c.args.all.now) c.loop-assignment.draft
    (placed (drop c.loop-assignment.assignment-index c.args.all.now)) c.loop-assignment.invariant (ap placed gone)
