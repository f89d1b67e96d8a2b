-- Between functions: The choices that the bits of a witness are those of (rule of this project).
use Rattle.std.specs.Prelude.{◌≡◌, ℕ, Bool, false, List, length, map, slice_index_or}
use Rattle.std.specs.List.{AllByRecursion}
use Rattle.fv_text.specs.declared.trace.Trace.{Trace}
use Rattle.wn_net.specs.declared.names.Names.{Names}
use Rattle.wn_net.specs.Width.{IsWidth}
use Rattle.wn_net.specs.Net.{Netlist, IsNet}
use Rattle.wn_run.specs.Runs.{Choices, AreChoicesOf}
use Rattle.cnf_form.specs.Cnf.{value_of}
use Rattle.bb_blast.specs.Choice.{all_places}
use Rattle.bb_clauses.specs.Models.{read_at}
use Rattle.bm_unroll.specs.declared.frames.Source.{Source}
use Rattle.bm_unroll.specs.Frames.{AreDistinct, Chooses, chosen}
use Rattle.bm_decide.specs.declared.verdict.ChoiceBits.{ChoiceBits}
use Rattle.bm_decide.specs.declared.verdict.Witness.{Witness}
use Rattle.bm_decide.specs.Verdicts.{AreBitsOf}
use Rattle.tr_replay.specs.Traces.{trace_of}

-- a bit of a list; past the end 0
abbrev pub bit_in : List Bool → ℕ → Bool
bit_in bits i = slice_index_or bits i false

-- no two sources are one, and the bits of each, from 1 to 128, are the variables behind those of the source before it
pub record AreReadable (bits : ChoiceBits) : Type 0 where
  pub distinct : AreDistinct bits.sources
  pub each : length bits.widths ≡ length bits.sources
  pub widths : AllByRecursion IsWidth bits.widths
  pub places : bits.places ≡ all_places 0 0 bits.widths

-- the numbers of a witness's sources
abbrev pub numbers_read : Witness → List ℕ
numbers_read x = read_at x.bits.places x.bits.widths (value_of x.values)

-- each source has its number, and what is no source has 0
pub record HaveNumbers (sources : List Source) (numbers : List ℕ) (ch : Choices) : Type 0 where
  pub same : map (chosen ch) sources ≡ numbers
  pub others : (x : Source) → AllByRecursion (λ y. y ≡ x → ⊥) sources → chosen ch x ≡ 0

-- ---- what holds of them

-- the bits of a net's runs may be read
abbrev pub BitsAreReadable : Type 0
BitsAreReadable =
    (net : Netlist) (cycle : ℕ) (bits : ChoiceBits) → IsNet net → AreBitsOf net cycle bits → AreReadable bits

-- numbers that some run has at its sources, with 0 at all else, are choices of the net
abbrev pub ReadChoicesAreTheNets : Type 0
ReadChoicesAreTheNets =
    (net : Netlist) (cycle : ℕ) (x : Witness) (ch : Choices) → AreBitsOf net cycle x.bits
    → Chooses net x.bits.sources (numbers_read x) → HaveNumbers x.bits.sources (numbers_read x) ch
    → AreChoicesOf net ch

-- a trace is that of a run with the numbers of a witness, up to a cycle
pub record ShowsWitness (net : Netlist) (names : Names) (cycle : ℕ) (x : Witness) (trace : Trace) : Type 0 where
  pub ch : Choices
  pub of_net : AreChoicesOf net ch
  pub same : map (chosen ch) x.bits.sources ≡ numbers_read x
  pub shown : trace ≡ trace_of net names ch cycle
