use Rattle.std.proofs.Common.{◌≡◌, ◌++◌, length, take, drop}
use Rattle.std.specs.Prelude.{slice_index}
use Rattle.wn_run.specs.Runs.{inputs_from, reset_at}
use Rattle.base_tests.proofs.running.put_inputs.Given as goal

abbrev pub invariant-loop-index : goal.invariant-loop-index
invariant-loop-index l = record {
  room : length l.inputs ≡ length l.net.inputs;
  rest : take l.index l.inputs
      ++ inputs_from (slice_index l.each) (slice_index l.once) (reset_at l.cycle) l.index (drop l.index l.net.inputs)
      ≡ inputs_from (slice_index l.each) (slice_index l.once) (reset_at l.cycle) 0 l.net.inputs;
}
