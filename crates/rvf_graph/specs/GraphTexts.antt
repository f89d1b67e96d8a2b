-- Meaning: What the text of a question's graph says of the runs of a design. AIGER (Biere, 2007); the rest is a rule of
-- this project.
use Rattle.std.specs.Prelude.{◌≡◌, ◌↔◌, ℕ, ◌-◌, ◌==◌, Bool, true, List, length, map}
use Rattle.std.specs.Int.{bit_at}
use Rattle.std.specs.List.{AllByRecursion}
use Rattle.rv_table.specs.declared.retire.Opts.{Opts}
use Rattle.vl_size.specs.Size.{Values}
use Rattle.vl_mean.specs.Parts.{Part}
use Rattle.vl_mean.specs.Runs.{IsRun}
use Rattle.vl_mean_flat.specs.Flattened.{decls_of}
use Rattle.bb_aig.specs.declared.node.AigNode.{AigNode}
use Rattle.bb_aig.specs.Graph.{inputs_of, of_list}
use Rattle.aiger_text.specs.Profile.{IsOfProfile, IsOutput}
use Rattle.aiger_text.specs.Said.{Said}
use Rattle.aiger_text.specs.Written.{aag_text}
use Rattle.rvfi_port.specs.declared.port.Wants.{Wants}
use Rattle.ck_ask.specs.Questions.{question_cycle}
use Rattle.ck_ask.specs.declared.question.Question.{Question}
use Rattle.ck_design.specs.Findings.{IsFound}
use Rattle.ck_design.specs.NotesForm.{IsChosenBit, NamedBit}
use Rattle.ck_design.specs.Retirements.{values_at}
use Rattle.rvf_graph.specs.BitNames.{bit_name}
use Rattle.rvf_graph.specs.declared.text.GraphText.{GraphText}

-- the bit of a name in its cycle of a run
abbrev pub bit_in : List Values → NamedBit → Bool
bit_in run b = bit_at (values_at run b.cycle b.name) b.bit == 1

abbrev pub bits_in : List Values → List NamedBit → List Bool
bits_in run bits = map (bit_in run) bits

-- The text is that of a graph whose inputs are named by bits that are chosen in runs of the design up to the question's
-- cycle; so many inputs and gates does it have. For each such run its output, where the inputs have the values that the
-- named bits have in the run, is 1 exactly where the run gives what is sought. And each list of values of the inputs is
-- that of some run.
pub record TellsRuns (ps : List Part) (channels : ℕ) (wants : Wants) (q : Question) (opts : Opts) (t : GraphText)
    : Type 0 where
  pub bits : List NamedBit
  pub chosen : AllByRecursion (IsChosenBit (decls_of ps) (question_cycle q)) bits
  pub graph : List AigNode
  pub root : ℕ
  pub text_is : t.text ≡ aag_text graph root (map bit_name bits)
  pub named : length bits ≡ inputs_of graph
  pub inputs_are : t.inputs ≡ inputs_of graph
  pub gates_are : t.gates ≡ length graph - 1 - inputs_of graph
  pub said : Said
  pub profile : IsOfProfile t.text said
  pub inputs_said : length said.inputs ≡ length bits
  pub output : (run : List Values) (value : Bool) → IsRun ps (question_cycle q) run
      → IsOutput said (of_list (bits_in run bits)) value
      → (value ≡ true) ↔ IsFound ps channels wants q opts run
  pub run : (inputs : List Bool) → length inputs ≡ length bits
      → (run : List Values) × IsRun ps (question_cycle q) run × (bits_in run bits ≡ inputs)
