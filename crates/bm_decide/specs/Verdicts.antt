-- Between functions: What a verdict on clauses of runs says of the runs of a net, and what one on a question says (rule
-- of this project).
use Rattle.std.specs.Prelude.{◌≡◌, ℕ, ◌<◌, ◌^◌, Bool, true, false, List, [], length, map, slice_index_or}
use Rattle.std.specs.List.{AllByRecursion}
use Rattle.rv_table.specs.declared.retire.Opts.{Opts}
use Rattle.wn_net.specs.Net.{Netlist}
use Rattle.wn_run.specs.Runs.{Choices, AreChoicesOf, IsAssumed, cycle_at, inputs_at, start_of}
use Rattle.cnf_form.specs.Cnf.{Cnf, formula_true, value_of}
use Rattle.lrat_check.specs.declared.step.Step.{Step}
use Rattle.lrat_check.specs.Steps.{Refutes, Valid, AreSteps}
use Rattle.lrat_check.specs.Resolved.{Resolved, derived}
use Rattle.lrat_check.specs.Texts.{AreShort}
use Rattle.sat_search.specs.Found.{EndsEmpty}
use Rattle.bb_blast.specs.Choice.{all_places}
use Rattle.bb_clauses.specs.Models.{read_at}
use Rattle.bm_unroll.specs.Frames.{AreDistinct, Chooses, IsChoice, chosen, source_width}
use Rattle.bm_decide.specs.Runs.{ModelsAreRuns, values_in}
use Rattle.rvfi_port.specs.declared.port.Port.{Port}
use Rattle.rvfi_port.specs.Channels.{nodes_of}
use Rattle.ck_ask.specs.Asked.{given_in}
use Rattle.ck_ask.specs.Questions.{question_channel, question_cycle}
use Rattle.ck_ask.specs.declared.question.Question.{Question}
use Rattle.bm_decide.specs.declared.verdict.ChoiceBits.{ChoiceBits}
use Rattle.bm_decide.specs.declared.verdict.Certificate.{Certificate}
use Rattle.bm_decide.specs.declared.verdict.Witness.{Witness}
use Rattle.bm_decide.specs.declared.verdict.Verdict.{Verdict}
use Rattle.bm_decide.specs.declared.verdict.Verdict.TheVariants as v

-- each source is a choice of the net's runs up to the cycle, none stands twice, and each bit of it has its variable
pub record AreBitsOf (net : Netlist) (cycle : ℕ) (bits : ChoiceBits) : Type 0 where
  pub sources : AllByRecursion (IsChoice net cycle) bits.sources
  pub distinct : AreDistinct bits.sources
  pub widths : bits.widths ≡ map (source_width net) bits.sources
  pub places : bits.places ≡ all_places 0 0 bits.widths

-- ---- of runs up to a cycle, of which some are bad

-- values are those of the choices of a bad run
pub record IsOnce (net : Netlist) (cycle : ℕ) (IsBad : Choices → Type 0) (x : Witness) : Type 0 where
  pub bits : AreBitsOf net cycle x.bits
  pub chooses : Chooses net x.bits.sources (read_at x.bits.places x.bits.widths (value_of x.values))
  pub bad : (ch : Choices) → AreChoicesOf net ch
      → map (chosen ch) x.bits.sources ≡ read_at x.bits.places x.bits.widths (value_of x.values) → IsBad ch

module _ (net : Netlist) (cycle : ℕ) (IsBad : Choices → Type 0) (shown : Choices → List ℕ) where
  -- The models of the clauses before the last are the runs of the net, with what is shown of them; the last clause is
  -- that the run is bad.
  abbrev pub AreOfRuns : Certificate → Type 0
  AreOfRuns c =
      ModelsAreRuns net IsBad shown c.bits.sources (read_at c.bits.places c.bits.widths) c.fields c.formula

  -- No run is bad, and steps, of which more is known, refute the clauses of one that would be; none stands behind the
  -- empty clause, and their numbers are short where few variables are.
  pub record IsNever (more : Cnf → List Step → Type 0) (c : Certificate) : Type 0 where
    pub bits : AreBitsOf net cycle c.bits
    pub tight : AreOfRuns c
    pub never : (ch : Choices) → AreChoicesOf net ch → IsBad ch → ⊥
    pub refuted : (id : ℕ) × Refutes c.formula.clauses c.steps id × EndsEmpty c.steps id
    pub unsatisfiable : (values : ℕ → Bool) → formula_true values c.formula.clauses ≡ false
    pub known : more c.formula c.steps
    pub steps : AreSteps c.steps
    pub short : c.formula.vars < 10 ^ 18 → AreShort c.steps

  -- as many clauses as the budget follow from those of a bad run, none of them empty
  pub record IsSpent (budget : ℕ) (c : Certificate) : Type 0 where
    pub bits : AreBitsOf net cycle c.bits
    pub tight : AreOfRuns c
    pub valid : Valid c.formula.clauses c.steps
    pub resolved : Resolved c.formula.clauses c.steps
    pub count : length (derived c.formula.clauses c.steps) ≡ budget
    pub few : budget < 3 ^ c.formula.vars
    pub steps : AreSteps c.steps
    pub short : c.formula.vars < 10 ^ 18 → AreShort c.steps

  abbrev pub IsSettled : (Cnf → List Step → Type 0) → ℕ → Verdict → Type 0
  IsSettled more budget (v.Never c) = IsNever more c
  IsSettled more budget (v.Once x) = IsOnce net cycle IsBad x
  IsSettled more budget (v.Spent c) = IsSpent budget c

-- ---- of a question

-- the run with these choices meets its assumptions up to the question's cycle, and gives what is sought
abbrev pub Gives : Netlist → Port → Question → Opts → Choices → Type 0
Gives net port q opts ch =
    IsAssumed net (inputs_at net ch) (start_of net ch) (question_cycle q)
    × (given_in net (cycle_at net (inputs_at net ch) (start_of net ch)) port q opts ≡ true)

-- the nodes of the fields of the question's channel
abbrev pub field_nodes : Port → Question → List ℕ
field_nodes port q = slice_index_or (map nodes_of port.channels) (question_channel q) []

-- the numbers of these in the question's cycle
abbrev pub fields_in : Netlist → Port → Question → Choices → List ℕ
fields_in net port q = values_in net (question_cycle q) (field_nodes port q)

-- the runs are those up to the question's cycle, and those that give what is sought are the bad ones
abbrev pub IsVerdict : (Cnf → List Step → Type 0) → Netlist → Port → Question → Opts → ℕ → Verdict → Type 0
IsVerdict more net port q opts budget verdict =
    IsSettled net (question_cycle q) (Gives net port q opts) (fields_in net port q) more budget verdict
