use Rattle.std.proofs.Common.{◌++◌}
use Rattle.vcd_dump.specs.Vcd.{text_of, change_lines}
use Rattle.vcd_dump.proofs.WriteLemmas.{changes_step}
use Rattle.vcd_dump.proofs.write.put_changes.Goals as goal

pub loop-index-preserved : goal.loop-index-preserved
loop-index-preserved c = changes_step c.loop-index.out.items c.put_change.new.out.items
    (c.args.out.now.items ++ text_of
    (change_lines 0 c.args.names.now c.args.before.now c.args.values.now)) c.loop-index.index c.args.names.now
    c.index-names-index.result c.args.before.now c.args.values.now c.loop-index-test.true c.index-names-index.is
    c.requires.before c.requires.values c.loop-index.invariant c.in_ok-put_change.ensures
