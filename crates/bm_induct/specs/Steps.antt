-- Meaning: The trace of a step run (rule of this project).
use Rattle.std.specs.Prelude.{ℕ, ◌+◌}
use Rattle.std.specs.List.{flat_map}
use Rattle.fv_text.specs.declared.trace.Trace.{Trace}
use Rattle.wn_net.specs.declared.names.Names.{Names}
use Rattle.wn_net.specs.Net.{Netlist}
use Rattle.wn_run.specs.Runs.{Choices}
use Rattle.bm_induct.specs.StepRuns.{step_cycle}
use Rattle.tr_replay.specs.Traces.{first_cycles, names_of}

-- The trace of the step run with these choices, in its cycles 0 to k: all names in the order of their declarations, in
-- place of a memory its words, with their values in each cycle.
abbrev pub step_trace_of : Netlist → Names → Choices → ℕ → Trace
step_trace_of net names ch k = record {
  names = flat_map (names_of net) names.list;
  cycles = first_cycles net names.list (step_cycle net ch) (k + 1);
}
