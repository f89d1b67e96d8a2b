use Rattle.std.proofs.Common.{refl}
use Rattle.std.proofs.lemmas.Bool.{false≢true}
use Rattle.fv_graph.proofs.AllRows.{more_within, all_within, row_within}
use Rattle.fv_graph.proofs.within.is_within.Goals as goal

pub returns-then-not-is_row_within : goal.returns-then-not-is_row_within
returns-then-not-is_row_within c = (
  λ t. absurd (false≢true t),
  λ w. c.if-not-is_row_within.ensures.1 (row_within c.args.graph.now c.loop-row.row-index c.row-item.result
      c.as_slice.result.now c.loop-row-test.true c.row-item.is c.as_slice.ensures w),
)

pub loop-row-preserved : goal.loop-row-preserved
loop-row-preserved c =
    more_within c.args.graph.now c.loop-row.row-index c.row-item.result c.as_slice.result.now c.loop-row-test.true
    c.row-item.is c.as_slice.ensures (c.if-not-is_row_within.ensures.0 refl) c.loop-row.invariant

pub returns : goal.returns
returns c = (
  λ t. all_within c.args.graph.now c.loop-row.row-index c.loop-row-test.false c.loop-row.invariant,
  λ w. refl,
)
