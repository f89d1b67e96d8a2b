use Rattle.std.proofs.Common.{◌∙◌, arith, ap}
use Rattle.std.proofs.lemmas.List.{take_all}
use Rattle.vl_flow_order.specs.Numbers.{numbered, places}
use Rattle.vl_flow_order.proofs.Turns.{places_step}
use Rattle.vl_flow_order.proofs.loops.places_of.Goals as goal

pub loop-at-init : goal.loop-at-init
loop-at-init c = c.new-found.ensures

pub loop-at-preserved : goal.loop-at-preserved
loop-at-preserved c =
    places_step c.args.drivers.now c.args.numbers.now c.requires c.loop-at.at c.place_at.result c.loop-at.found
    c.push.new.self c.loop-at-test.true c.place_at.ensures c.loop-at.invariant c.in_ok-push.ensures.ok

pub returns : goal.returns
returns c =
    c.loop-at.invariant
    ∙ ap (λ ns. places (numbered c.args.drivers.now ns)) (take_all c.loop-at.at c.args.numbers.now (omega arith))
