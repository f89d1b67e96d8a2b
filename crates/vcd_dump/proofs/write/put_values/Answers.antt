use Rattle.std.proofs.Common.{◌++◌}
use Rattle.vcd_dump.specs.Vcd.{text_of, value_lines}
use Rattle.vcd_dump.proofs.WriteLemmas.{values_step}
use Rattle.vcd_dump.proofs.write.put_values.Goals as goal

pub loop-index-preserved : goal.loop-index-preserved
loop-index-preserved c = values_step c.loop-index.out.items c.put_value.new.out.items
    (c.args.out.now.items ++ text_of
    (value_lines 0 c.args.names.now c.args.values.now)) c.loop-index.index c.args.names.now
    c.index-names-index.result c.args.values.now c.loop-index-test.true c.index-names-index.is c.requires
    c.loop-index.invariant c.in_ok-put_value.ensures
