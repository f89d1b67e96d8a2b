use Rattle.std.proofs.Common.{arith}
use Rattle.aiger_text.proofs.WriteLaws.{names_step, names_end}
use Rattle.aiger_text.proofs.write.put_names.Goals as goal

pub loop-index-preserved : goal.loop-index-preserved
loop-index-preserved c =
    names_step c.loop-index.out.items c.put_name.new.out.items _ c.loop-index.index c.args.names.now
    c.index-names-index.result (omega arith) c.index-names-index.is c.loop-index.invariant c.in_ok-put_name.ensures

pub returns : goal.returns
returns c =
    names_end c.loop-index.out.items _ c.loop-index.index c.args.names.now (omega arith) c.loop-index.invariant
