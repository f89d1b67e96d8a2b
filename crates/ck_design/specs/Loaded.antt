-- Between functions: When a net with its names and its port is that of a design, and that what is found in its runs is
-- found in those of the design (rule of this project).
use Rattle.std.specs.Prelude.{◌≡◌, ℕ, ◌+◌, ◌≤◌, List, [], ◌∷◌, None, length, map}
use Rattle.std.specs.List.{AllByRecursion}
use Rattle.rv_table.specs.declared.retire.Opts.{Opts}
use Rattle.vl_size.specs.Size.{Values}
use Rattle.vl_mean.specs.Parts.{Part}
use Rattle.vl_mean.specs.Runs.{Agrees}
use Rattle.vl_lower_spec.specs.Evaluations.{IsLowered, run_of}
use Rattle.vl_lower_spec.specs.Maps.{map_of}
use Rattle.wn_net.specs.declared.names.Names.{Names}
use Rattle.wn_net.specs.Value.{Given}
use Rattle.wn_net.specs.Net.{Netlist, IsNet, value_at}
use Rattle.wn_net.specs.Given.{IsGiven}
use Rattle.wn_net.specs.Changes.{AddsNodes}
use Rattle.wn_run.specs.Runs.{Choices, AreChoicesOf}
use Rattle.rvfi_port.specs.declared.field.Field.{Field}
use Rattle.rvfi_port.specs.declared.port.Channel.{Channel}
use Rattle.rvfi_port.specs.declared.port.Port.{Port}
use Rattle.rvfi_port.specs.declared.port.Wants.{Wants}
use Rattle.rvfi_port.specs.Channels.{IsPortOf, nodes_of}
use Rattle.rvfi_port.specs.Fields.{channel_fields, field_name, wanted_fields}
use Rattle.rvfi_port.specs.Outputs.{refusal}
use Rattle.rvfi_port.specs.Ports.{ArePortNodes}
use Rattle.ck_ask.specs.Questions.{question_cycle, question_first}
use Rattle.ck_ask.specs.declared.question.Question.{Question}
use Rattle.ck_gen.specs.Retirements.{probe_at, retired_from}
use Rattle.bm_decide.specs.Verdicts.{Gives}
use Rattle.ck_design.specs.Retirements as design
use Rattle.ck_design.specs.Findings.{IsFound}
use Rattle.ck_design.specs.Retirements.{field_in, probe_in}

-- the nodes of channels, from one on, have the numbers of its fields
abbrev pub HaveFields : Netlist → Given → Values → ℕ → List Channel → Type 0
HaveFields net g v channel [] = Unit {0}
HaveFields net g v channel (c ∷ cs) =
    (map (value_at net g) (nodes_of c) ≡ map (field_in v channel) channel_fields)
    × HaveFields net g v (channel + 1) cs

-- In a cycle a port shows what the map shows: the fields of each channel, what it retires, and what is probed.
pub record ShowsMap (net : Netlist) (g : Given) (channels : ℕ) (wants : Wants) (port : Port) (v : Values)
    : Type 0 where
  pub fields : HaveFields net g v 0 port.channels
  pub retired : (cycle : ℕ) → retired_from net g cycle 0 port.channels ≡ design.retired_from v cycle 0 channels
  pub probe : probe_at net g port ≡ probe_in v wants

-- maps that agree on all declared names but the clock agree on the field's name
abbrev pub IsDeclared : List Part → Field → Type 0
IsDeclared ps field = (u v : Values) → Agrees ps u v → u (field_name field) ≡ v (field_name field)

-- The net is that of the design, and its port has the nodes of the fields that are wanted, which are outputs of the
-- design.
pub record IsLoaded (ps : List Part) (net : Netlist) (names : Names) (channels : ℕ) (wants : Wants) (port : Port)
    : Type 0 where
  pub lowered : IsLowered ps net names
  pub nodes : ArePortNodes net port
  pub many : length port.channels ≡ channels
  pub declared : AllByRecursion (IsDeclared ps) (wanted_fields wants)
  pub shows : (g : Given) → IsGiven net g → ShowsMap net g channels wants port (map_of net names g)

-- ---- laws

-- a net that is lowered, with the nodes of a port that isn't refused, is loaded
abbrev pub BoundNetsAreLoaded : Type 0
BoundNetsAreLoaded =
    (ps : List Part) (old new : Netlist) (names : Names) (channels : ℕ) (wants : Wants) (port : Port)
    → IsLowered ps old names → IsNet old → IsNet new → AddsNodes old new
    → IsPortOf old new names channels wants port → refusal names channels wants ≡ None
    → IsLoaded ps new names channels wants port

-- the run of the design with the choices of a run of its net that gives what is sought gives it too
abbrev pub FindingsAreTheDesigns : Type 0
FindingsAreTheDesigns =
    (ps : List Part) (net : Netlist) (names : Names) (channels : ℕ) (wants : Wants) (port : Port) (q : Question)
    (opts : Opts) (ch : Choices) → IsLoaded ps net names channels wants port → IsNet net → AreChoicesOf net ch
    → question_first q ≤ question_cycle q → Gives net port q opts ch
    → IsFound ps channels wants q opts (run_of net names ch (question_cycle q))

-- where a run of the design gives what is sought, a run of its net does
pub record HasFinding (net : Netlist) (port : Port) (q : Question) (opts : Opts) : Type 0 where
  pub choices : Choices
  pub of : AreChoicesOf net choices
  pub gives : Gives net port q opts choices

abbrev pub FindingsAreTheNets : Type 0
FindingsAreTheNets =
    (ps : List Part) (net : Netlist) (names : Names) (channels : ℕ) (wants : Wants) (port : Port) (q : Question)
    (opts : Opts) (run : List Values) → IsLoaded ps net names channels wants port → IsNet net
    → question_first q ≤ question_cycle q → IsFound ps channels wants q opts run → HasFinding net port q opts
