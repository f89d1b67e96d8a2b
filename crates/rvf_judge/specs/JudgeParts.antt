-- Between functions: What functions promise one another: the dump of a witness, said of the net, and what is read of
-- the texts of a certificate (rule of this project).
use Rattle.std.specs.Prelude.{◌≡◌, ℕ, List, Ok}
use Rattle.cnf_form.specs.Cnf.{Cnf}
use Rattle.cnf_text.specs.Dimacs.{formula_of}
use Rattle.lrat_check.specs.declared.step.Step.{Step}
use Rattle.lrat_check.specs.Texts.{AreShort, steps_of}
use Rattle.fv_text.specs.declared.trace.Trace.{Trace}
use Rattle.rv_table.specs.declared.retire.Opts.{Opts}
use Rattle.wn_net.specs.declared.names.Names.{Names}
use Rattle.wn_net.specs.Net.{Netlist}
use Rattle.rvfi_port.specs.declared.port.Port.{Port}
use Rattle.ck_ask.specs.declared.question.Question.{Question}
use Rattle.ck_ask.specs.Questions.{question_cycle}
use Rattle.bm_decide.specs.declared.verdict.Witness.{Witness}
use Rattle.bm_decide.specs.Verdicts.{Gives, IsOnce}
use Rattle.bm_decide.specs.Chosen.{ShowsWitness}
use Rattle.vcd_dump.specs.Vcd.{vcd_text}
use Rattle.rvf_judge.specs.Judged.{Fits}
use Rattle.rvf_judge.specs.declared.judged.CertificateTexts.{CertificateTexts}

-- the witness is one of the question for some port
pub record FoundSomehow (net : Netlist) (q : Question) (x : Witness) : Type 0 where
  pub port : Port
  pub opts : Opts
  pub once : IsOnce net (question_cycle q) (Gives net port q opts) x

-- the text is the dump of a run with the numbers of a witness, up to the question's cycle
pub record IsDump (net : Netlist) (names : Names) (q : Question) (x : Witness) (dump : List ℕ) : Type 0 where
  pub trace : Trace
  pub shows : ShowsWitness net names (question_cycle q) x trace
  pub dump_is : dump ≡ vcd_text trace

-- the texts are read as the formula and the steps, where these are within the limits of the formats
pub record AreReadBack (formula : Cnf) (meant : List Step) (texts : CertificateTexts) : Type 0 where
  pub clauses : Fits formula → formula_of texts.clauses ≡ Ok formula
  pub steps : AreShort meant → steps_of texts.steps ≡ Ok meant
