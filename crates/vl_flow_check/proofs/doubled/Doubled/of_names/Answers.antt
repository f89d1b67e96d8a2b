use Rattle.vl_flow_check.proofs.Lowest.{names_told}
use Rattle.vl_flow_check.proofs.doubled.Doubled.of_names.Goals as goal

pub returns : goal.returns
returns c =
    names_told c.args.decls.now c.args.drivers.now c.in_ok-shares.shares.items c.as_slice.result.now
    c.in_ok-overlap.overlap c.in_ok-shares.ensures c.as_slice.ensures.value c.in_ok-overlap.ensures
