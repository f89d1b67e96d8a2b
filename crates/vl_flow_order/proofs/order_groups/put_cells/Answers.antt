use Rattle.std.proofs.Common.{◌≡◌, arith, subst}
use Rattle.vl_flow_order.specs.CellGroups.{PutsCells}
use Rattle.vl_flow_order.proofs.Cells.{no_puts, one_put_more}
use Rattle.vl_flow_order.proofs.order_groups.put_cells.Goals as goal

pub loop-turn-init : goal.loop-turn-init
loop-turn-init c = no_puts c.args.of_cells.now c.args.group

pub loop-turn-preserved : goal.loop-turn-preserved
loop-turn-preserved c =
    one_put_more c.args.of_cells.now c.loop-turn.of_cells c.push.new.self c.args.group c.loop-turn.turn
    c.loop-turn.invariant c.in_ok-push.ensures.ok

pub returns : goal.returns
returns c =
    let same : c.loop-turn.turn ≡ c.args.count = omega arith in
    subst (λ n. PutsCells c.args.of_cells.now c.args.group n c.loop-turn.of_cells) same c.loop-turn.invariant
