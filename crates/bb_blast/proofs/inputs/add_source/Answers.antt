use Rattle.bb_blast.proofs.Sources.{adding_bits_next}
use Rattle.bb_blast.proofs.inputs.add_source.Goals as goal

pub loop-bit-preserved : goal.loop-bit-preserved
loop-bit-preserved c =
    adding_bits_next c.args.aig.now c.loop-bit.aig c.add_input.new.aig c.args.places.now c.loop-bit.places
    c.add_input.new.places c.args.source c.loop-bit.bit c.in_ok-lit.lit c.loop-bit.word c.push.new.self
    c.loop-bit.invariant c.in_ok-lit.ensures.inputs c.in_ok-lit.ensures.counted c.in_ok-lit.ensures.lit
    c.in_ok-lit.ensures.placed c.in_ok-push.ensures.ok
