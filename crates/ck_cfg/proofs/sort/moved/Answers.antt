use Rattle.std.proofs.Common.{◌∙◌}
use Rattle.ck_cfg.specs.Checks.{moved}
use Rattle.ck_cfg.proofs.Lists.{move_more}
use Rattle.ck_cfg.proofs.sort.moved.Goals as goal

pub loop-name-preserved : goal.loop-name-preserved
loop-name-preserved c =
    move_more c.args.names.now c.loop-name.name-index c.bytes.result.now c.name-item.result c.loop-name.front.items
    c.move_named.new.front.items c.loop-name.rest.items c.move_named.new.rest.items
    (moved c.args.names.now c.into_vec-rest.result.items) c.loop-name-test.true
    (c.bytes.ensures ∙ c.name-item.is) c.loop-name.invariant c.in_ok-move_named.ensures.front
    c.in_ok-move_named.ensures.rest
