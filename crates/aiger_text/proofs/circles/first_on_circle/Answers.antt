use Rattle.std.proofs.Common.{◌≤◌, length, sym, ◌∙◌, arith}
use Rattle.std.proofs.lemmas.Bool.{false≢true}
use Rattle.aiger_text.proofs.CircleLaws.{none_more, none_at_all}
use Rattle.aiger_text.proofs.circles.first_on_circle.Goals as goal

pub returns-then-branch : goal.returns-then-branch
returns-then-branch c = (
  omega (arith, c.loop-node-test.true),
  c.in_ok-stands_on_circle.ensures.0 c.if-branch.true,
  c.loop-node.invariant,
)

pub loop-node-preserved : goal.loop-node-preserved
loop-node-preserved c =
    none_more c.args.graph.now c.loop-node.node
    (λ k. false≢true (sym c.if-branch.false ∙ c.in_ok-stands_on_circle.ensures.1 k)) c.loop-node.invariant

pub returns : goal.returns
returns c =
    let past : length c.args.graph.now ≤ c.loop-node.node = omega (arith, c.loop-node-test.false) in
    none_at_all c.args.graph.now c.loop-node.node past c.loop-node.invariant
