-- Between functions: The dumps of witnesses of the two halves of an induction, said of the net (rule of this project).
use Rattle.std.specs.Prelude.{◌≡◌, ℕ, List}
use Rattle.fv_text.specs.declared.trace.Trace.{Trace}
use Rattle.wn_net.specs.declared.names.Names.{Names}
use Rattle.wn_net.specs.Net.{Netlist}
use Rattle.bm_decide.specs.declared.verdict.Witness.{Witness}
use Rattle.ck_induct.specs.Traces.{IsFailing, ShowsStepRun}
use Rattle.vcd_dump.specs.Vcd.{vcd_text}

-- the text is the dump of the trace of a run that fails
pub record DumpsFailing (net : Netlist) (names : Names) (bad k : ℕ) (dump : List ℕ) : Type 0 where
  pub trace : Trace
  pub failing : IsFailing net names bad k trace
  pub dump_is : dump ≡ vcd_text trace

-- and of the step run with the numbers of a witness
pub record DumpsStepping (net : Netlist) (names : Names) (k : ℕ) (x : Witness) (dump : List ℕ) : Type 0 where
  pub trace : Trace
  pub shows : ShowsStepRun net names k x trace
  pub dump_is : dump ≡ vcd_text trace
