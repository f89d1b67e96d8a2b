use Rattle.std.proofs.Common.{refl, subst}
use Rattle.std.proofs.lemmas.Bool.{false≢true}
use Rattle.aiger_text.specs.Circles.{AllBelow}
use Rattle.aiger_text.proofs.RowLaws.{row_read}
use Rattle.aiger_text.proofs.CircleLaws.{not_on_circle}
use Rattle.aiger_text.proofs.circles.stands_on_circle.Goals as goal

pub returns-then-all_below : goal.returns-then-all_below
returns-then-all_below c = (
  λ t. absurd (false≢true t),
  λ k. absurd (not_on_circle c.args.graph.now c.args.ranks.now c.as_slice-row.result.now c.args.node
      (c.requires.ordered c.if-ordered.true)
      (row_read c.args.graph.now c.args.node c.as_slice-row.result.now c.index-graph-node.result c.requires.there
      c.as_slice-row.ensures c.index-graph-node.is)
      (subst (AllBelow c.args.ranks.now c.as_slice-row.result.now) c.rank_of.ensures (c.if-all_below.ensures.0 refl))
      k),
)
