use Rattle.std.proofs.Common.{◌∙◌}
use Rattle.ck_induct.proofs.Traced.{dumped}
use Rattle.rvf_judge.proofs.inducting.stepping_dump.Goals as goal

pub vcd-requires : goal.vcd-requires
vcd-requires c =
    (dumped c.args.net.now c.args.names.now 0 c.args.k c.args.witness.now c.in_ok-trace.trace c.nodes.ensures.whole
    c.requires.names).1 c.in_ok-trace.ensures

pub returns : goal.returns
returns c = record {
  trace = c.in_ok-trace.trace;
  shows = c.in_ok-trace.ensures;
  dump_is = c.from_vec.ensures ∙ c.in_ok-bytes.ensures.text;
}
