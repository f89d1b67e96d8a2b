use Rattle.std.specs.Prelude.{ℕ, List, slice_index_or}
use Rattle.std.proofs.Common.{sym, subst}
use Rattle.bb_cuts.specs.declared.cone.Mark.{Mark}
use Rattle.bb_cuts.specs.Variables.{IsTable}
use Rattle.bb_cuts.proofs.Cones.{AreMarked, marked_more}
use Rattle.bb_cuts.proofs.cone.table_of.Goals as goal

pub returns-then-gate-node : goal.returns-then-gate-node
returns-then-gate-node c =
    let graph = c.args.aig.now in
    let leaves = c.args.leaves.now in
    let M : List Mark → Type 0 = λ ms. AreMarked graph leaves ms in
    let N : ℕ → Type 0 = λ node. IsTable graph leaves node c.in-Some.rows in
    subst N c.if-gate-node.true
    (c.in-Some.ensures leaves (subst M (sym c.as_slice.ensures.value) c.loop-gate.invariant))

pub loop-gate-preserved : goal.loop-gate-preserved
loop-gate-preserved c =
    let graph = c.args.aig.now in
    let leaves = c.args.leaves.now in
    let M : List Mark → Type 0 = λ ms. AreMarked graph leaves ms in
    let gate = slice_index_or c.args.cone.now c.loop-gate.gate-index 0 in
    marked_more graph leaves c.loop-gate.marks.items c.push.new.self.items
    (record { node = gate; rows = c.in-Some.rows }) c.in_ok-push.ensures.items c.loop-gate.invariant
    (c.in-Some.ensures leaves (subst M (sym c.as_slice.ensures.value) c.loop-gate.invariant))
