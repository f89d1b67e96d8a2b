use Rattle.std.specs.Prelude.{◌≡◌, slice_get, Some}
use Rattle.std.proofs.Common.{ap, sym, ◌∙◌}
use Rattle.bb_aig.specs.declared.node.AigNode.TheVariants as n
use Rattle.bb_cuts.proofs.Cones.{gate_table}
use Rattle.bb_cuts.proofs.cone.gate_rows.Goals as goal

pub returns-in_ok-right-in-And : goal.returns-in_ok-right-in-And
returns-in_ok-right-in-And c = λ leaves all x.
    let graph = c.args.aig.now in
    let a = c.in-And.a in
    let b = c.in-And.b in
    let e : slice_get graph c.args.node ≡ Some (n.And a b) = sym c.in-Some.ensures.value ∙ ap Some c.in-And.is in
    gate_table graph leaves c.args.node a b c.in_ok-left-in-And.left c.in_ok-right-in-And.right
    c.both_rows.result c.len.ensures.whole e (c.in_ok-left-in-And.ensures graph leaves all)
    (c.in_ok-right-in-And.ensures graph leaves all) c.both_rows.ensures x
