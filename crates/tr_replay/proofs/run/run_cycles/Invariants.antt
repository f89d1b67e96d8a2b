use Rattle.std.proofs.Common.{◌≡◌, length}
use Rattle.wn_run.specs.Runs.{state_at, inputs_at, start_of}
use Rattle.tr_replay.specs.Traces.{choices_of, cycle_of, first_cycles}
use Rattle.tr_replay.proofs.run.run_cycles.Given as goal

abbrev pub invariant-loop-k : goal.invariant-loop-k
invariant-loop-k l = record {
  state : l.state ≡ state_at l.net (inputs_at l.net (choices_of l.chosen)) (start_of l.net (choices_of l.chosen)) l.k;
  room : length l.values.items ≡ length l.net.nodes;
  made : l.made ≡ first_cycles l.net l.names.list (cycle_of l.net (choices_of l.chosen)) l.k;
}
