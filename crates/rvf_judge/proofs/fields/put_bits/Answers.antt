use Rattle.rvf_judge.proofs.FieldBits.{bits_step}
use Rattle.rvf_judge.proofs.fields.put_bits.Goals as goal

pub loop-bit-preserved : goal.loop-bit-preserved
loop-bit-preserved c =
    bits_step c.args.channel c.args.cycle c.args.field c.args.lits.now c.loop-bit.made c.push.new.self _ c.loop-bit.bit
    c.args.count c.in_ok-note.note c.loop-bit-test.true c.loop-bit.invariant c.in_ok-note.ensures
    c.in_ok-push.ensures.ok
