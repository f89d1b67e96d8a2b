-- Between functions: The graph of a net's runs, and its text (rule of this project).
use Rattle.std.specs.Prelude.{◌≡◌, ◌↔◌, ℕ, ◌-◌, ◌<◌, Bool, true, List, length, map}
use Rattle.wn_net.specs.declared.names.Names.{Names}
use Rattle.wn_net.specs.Net.{Netlist}
use Rattle.wn_run.specs.Runs.{Choices, AreChoicesOf}
use Rattle.bb_aig.specs.Graph.{IsLit, inputs_of, lit_at}
use Rattle.bb_blast.specs.declared.blasted.Blasted.{Blasted}
use Rattle.bb_blast.specs.Choice.{numbers_of}
use Rattle.bm_unroll.specs.declared.frames.Frames.{Frames}
use Rattle.bm_unroll.specs.Frames.{Chooses, chosen}
use Rattle.bm_decide.specs.declared.verdict.ChoiceBits.{ChoiceBits}
use Rattle.bm_decide.specs.Verdicts.{AreBitsOf}
use Rattle.aiger_text.specs.Profile.{SaysGraph}
use Rattle.aiger_text.specs.Written.{aag_text}
use Rattle.ck_design.specs.Notes.{choice_notes}
use Rattle.ck_design.specs.NotesForm.{bit_named}
use Rattle.rvf_graph.specs.BitNames.{bit_name}
use Rattle.rvf_graph.specs.declared.graph.RunGraph.{RunGraph}
use Rattle.rvf_graph.specs.declared.text.GraphText.{GraphText}

abbrev pub run_graph_of : Frames → Blasted → RunGraph
run_graph_of f b = record {
  bits = record { sources = f.sources; widths = f.widths; places = b.places };
  graph = b.graph;
  root = b.root;
}

-- some run has choices whose bits these values of so many inputs are
pub record HasChoice (net : Netlist) (bits : ChoiceBits) (inputs : ℕ) (x : ℕ → Bool) : Type 0 where
  pub values : ℕ → Bool
  pub same : (i : ℕ) → i < inputs → values i ≡ x i
  pub chooses : Chooses net bits.sources (numbers_of bits.widths values)

-- The inputs of the graph are the bits of choices of the net's runs: all values of them are those of some run, and each
-- run has some. The root is true at these exactly where the run is bad.
pub record IsGraphOfRuns (net : Netlist) (cycle : ℕ) (IsBad : Choices → Type 0) (r : RunGraph) : Type 0 where
  pub bits : AreBitsOf net cycle r.bits
  pub literal : IsLit r.graph r.root
  pub count : inputs_of r.graph ≡ length r.bits.places
  pub some : (x : ℕ → Bool) → HasChoice net r.bits (inputs_of r.graph) x
  pub complete : (ch : Choices) → AreChoicesOf net ch
      → (x : ℕ → Bool) × (numbers_of r.bits.widths x ≡ map (chosen ch) r.bits.sources)
  pub output : (x : ℕ → Bool) (ch : Choices) → AreChoicesOf net ch
      → map (chosen ch) r.bits.sources ≡ numbers_of r.bits.widths x → (lit_at r.graph x r.root ≡ true) ↔ IsBad ch

-- the text of the graph, with a name for each bit that is placed
pub record IsTextOf (names : Names) (r : RunGraph) (t : GraphText) : Type 0 where
  pub text_is : t.text ≡ aag_text r.graph r.root (map (λ note. bit_name (bit_named note)) (choice_notes names r.bits))
  pub says : SaysGraph t.text r.graph r.root
  pub inputs_are : t.inputs ≡ inputs_of r.graph
  pub gates_are : t.gates ≡ length r.graph - 1 - inputs_of r.graph
