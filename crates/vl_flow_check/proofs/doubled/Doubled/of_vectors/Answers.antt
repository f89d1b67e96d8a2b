use Rattle.vl_flow_check.proofs.Lowest.{vectors_told}
use Rattle.vl_flow_check.proofs.doubled.Doubled.of_vectors.Goals as goal

pub returns : goal.returns
returns c =
    vectors_told c.args.decls.now c.args.drivers.now c.in_ok-shares.shares.items c.as_slice.result.now
    c.args.layout.now.all c.in_ok-bits.bits c.in_ok-overlap.overlap c.in_ok-shares.ensures c.as_slice.ensures.value
    c.in_ok-overlap.ensures c.requires.layout.all c.in_ok-bits.ensures
