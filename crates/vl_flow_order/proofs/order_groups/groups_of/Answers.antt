use Rattle.std.proofs.Common.{◌≡◌, arith, length}
use Rattle.vl_flow_order.proofs.Cells.{all_groups, are_groups, no_groups, one_group_more}
use Rattle.vl_flow_order.proofs.order_groups.groups_of.Goals as goal

pub loop-index-init : goal.loop-index-init
loop-index-init c =
    no_groups c.args.decls.now c.new-of_cells.result c.new-ends.result c.new-of_cells.ensures c.new-ends.ensures

pub loop-index-preserved : goal.loop-index-preserved
loop-index-preserved c =
    one_group_more c.args.decls.now c.loop-index.index c.count_at.result c.len.result c.loop-index.of_cells
    c.put_cells.new.of_cells c.loop-index.ends c.push.new.self c.loop-index.invariant c.in_ok-put_cells.ensures
    c.count_at.ensures c.len.ensures c.in_ok-push.ensures.ok

pub invariant_of-result : goal.invariant_of-result
invariant_of-result c = record {
  kept = are_groups c.args.decls.now c.loop-index.index c.loop-index.of_cells c.loop-index.ends c.loop-index.invariant;
}

pub returns : goal.returns
returns c =
    let same : c.loop-index.index ≡ length c.args.decls.now = omega (arith, c.len-index-end.ensures.value) in
    all_groups c.args.decls.now c.loop-index.index _ same c.loop-index.invariant
