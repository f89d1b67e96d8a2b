use Rattle.vl_flow_order.proofs.ReadsReading.{no_readers, one_reader_more, all_readers}
use Rattle.vl_flow_order.proofs.rows.reading_graph.Goals as goal

pub loop-reader-init : goal.loop-reader-init
loop-reader-init c =
    no_readers c.args.groups.now c.args.footprints.now c.in_ok-graph.graph.items c.in_ok-graph.ensures

pub loop-reader-preserved : goal.loop-reader-preserved
loop-reader-preserved c =
    one_reader_more c.args.groups.now c.args.footprints.now c.loop-reader.graph.items c.add_reader.new.graph.items
    c.loop-reader.reader c.loop-reader.invariant c.in_ok-add_reader.ensures

pub returns : goal.returns
returns c =
    all_readers c.args.groups.now c.args.footprints.now c.loop-reader.graph.items c.loop-reader.reader
    c.loop-reader-test.false c.loop-reader.invariant
