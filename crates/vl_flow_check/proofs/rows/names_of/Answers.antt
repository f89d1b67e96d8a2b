use Rattle.vl_flow_check.specs.Rows.{picked}
use Rattle.vl_flow_check.proofs.Shared.{rows_marked}
use Rattle.vl_flow_check.proofs.rows.names_of.Goals as goal

pub returns : goal.returns
returns c ds drivers w =
    rows_marked ds (picked c.args.which c.args.kind) c.in_ok-rows.rows.items c.as_slice.result.now
    c.in_ok-union_of.field-0 drivers (c.in_ok-rows.ensures ds drivers w) c.as_slice.ensures.value
    c.in_ok-union_of.ensures
