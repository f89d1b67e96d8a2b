-- Where nothing is chosen all is 0, which has every width.
use Rattle.std.specs.Prelude.{[]}
use Rattle.std.proofs.lemmas.Nat.{pow_pos}
use Rattle.wn_net.specs.Net.{Netlist}
use Rattle.wn_run.specs.Runs.{AreChoicesOf}
use Rattle.tr_replay.specs.Traces.{choices_of}

pub none_is_chosen : (net : Netlist)
    → AreChoicesOf net (choices_of (record { each_cycle = []; once = []; regs = []; words = [] }))
none_is_chosen net = record {
  each_cycle = λ k i h. pow_pos _;
  once = λ i h. pow_pos _;
  regs = λ i h. pow_pos _;
  words = λ m i h. pow_pos _;
}
