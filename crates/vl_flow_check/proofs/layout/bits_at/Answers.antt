use Rattle.vl_flow_check.proofs.Layouts.{all_filled, none_filled}
use Rattle.vl_flow_check.proofs.layout.bits_at.Goals as goal

pub returns-then-span : goal.returns-then-span
returns-then-span c =
    none_filled c.args.span c.args.counts c.args.decl.now c.none.result c.if-span.true c.none.ensures

pub returns : goal.returns
returns c =
    let made = c.in_ok-of_cells.ensures in
    all_filled c.args.span c.args.counts c.args.decl.now c.mask_of-mask.result c.in_ok-of_cells.field-0
    c.mask_of-mask.ensures made.inside made.before made.behind
