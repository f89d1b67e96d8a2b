use Rattle.std.proofs.Common.{◌∙◌, subst, sym, ℕ}
use Rattle.bm_decide.specs.Chosen.{ShowsWitness}
use Rattle.bm_decide.specs.Verdicts.{AreBitsOf}
use Rattle.rvf_judge.proofs.Told.{has_dump}
use Rattle.rvf_judge.proofs.dump.dump_of.Goals as goal

pub witness_trace-requires-clause-bits : goal.witness_trace-requires-clause-bits
witness_trace-requires-clause-bits c =
    subst (λ (k : ℕ). AreBitsOf c.args.net.now k c.args.witness.now.bits) (sym c.cycle.ensures)
    c.requires.found.once.bits

pub witness_trace-requires-clause-chooses : goal.witness_trace-requires-clause-chooses
witness_trace-requires-clause-chooses c = c.requires.found.once.chooses

pub vcd-requires : goal.vcd-requires
vcd-requires c =
    has_dump c.args.net.now c.args.names.now c.cycle.result c.args.witness.now c.in_ok-trace.trace
    c.nodes.ensures.whole c.requires.names c.in_ok-trace.ensures

pub returns : goal.returns
returns c = record {
  trace = c.in_ok-trace.trace;
  shows = subst (λ (k : ℕ). ShowsWitness c.args.net.now c.args.names.now k c.args.witness.now c.in_ok-trace.trace)
      c.cycle.ensures c.in_ok-trace.ensures;
  dump_is = c.from_vec.ensures ∙ c.in_ok-bytes.ensures.text;
}
