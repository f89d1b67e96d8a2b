use Rattle.std.proofs.Common.{arith}
use Rattle.vl_flow_check.specs.Layouts.{counts}
use Rattle.vl_flow_check.proofs.Layouts.{all_parts, no_parts, one_part_more}
use Rattle.vl_flow_check.proofs.layout.bits_of_names.Goals as goal

pub loop-place-init : goal.loop-place-init
loop-place-init c = no_parts c.args.decls.now (counts c.args.names) c.new-parts.result.items c.new-parts.ensures.items

pub loop-place-preserved : goal.loop-place-preserved
loop-place-preserved c =
    one_part_more c.args.decls.now (counts c.args.names) c.loop-place.parts.items c.push.new.parts.items
    c.in_ok-bits_of_name.field-0 c.loop-place.place c.loop-place.invariant c.in_ok-bits_of_name.ensures
    c.in_ok-push.ensures

pub returns : goal.returns
returns c =
    all_parts c.args.decls.now (counts c.args.names) c.loop-place.parts.items c.as_slice.result.now
    c.in_ok-union_of.field-0 c.loop-place.place (omega arith) c.loop-place.invariant c.as_slice.ensures.value
    c.in_ok-union_of.ensures
