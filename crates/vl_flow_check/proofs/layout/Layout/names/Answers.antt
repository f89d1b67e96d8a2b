use Rattle.vl_flow_check.proofs.NameMarks.{names_marked}
use Rattle.vl_flow_check.proofs.layout.Layout.names.Goals as goal

pub returns : goal.returns
returns c ds drivers K w shows =
    names_marked ds c.args.self.now.groups c.args.bits.now c.args.self.now.all c.in_ok-inside.inside
    c.in_ok-named.field-0 K w.footprints.groups_are w.all shows c.in_ok-inside.ensures c.in_ok-named.ensures
