use Rattle.std.proofs.Common.{◌∙◌, ap, arith, get_or}
use Rattle.std.proofs.lemmas.List.{take_all}
use Rattle.std.proofs.lemmas.Option.{slice_get-get_or}
use Rattle.vl_flow_order.specs.Numbers.{settled_of}
use Rattle.vl_flow_order.proofs.Orders.{settled_more}
use Rattle.vl_flow_order.proofs.sequence.settled.Goals as goal

pub keep-requires : goal.keep-requires
keep-requires c =
    let numbers = c.args.numbers.now in
    let at = c.loop-number.number-index in
    c.requires at (get_or numbers at 0) (slice_get-get_or numbers at 0 c.loop-number-test.true)

pub loop-number-init : goal.loop-number-init
loop-number-init c = c.new-kept.ensures

pub loop-number-preserved : goal.loop-number-preserved
loop-number-preserved c =
    settled_more c.args.footprints.now c.args.numbers.now c.loop-number.number-index c.loop-number.kept
    c.keep.new.kept c.loop-number-test.true c.loop-number.invariant c.in_ok-keep.ensures

pub returns : goal.returns
returns c =
    c.loop-number.invariant
    ∙ ap (settled_of c.args.footprints.now) (take_all c.loop-number.number-index c.args.numbers.now (omega arith))
