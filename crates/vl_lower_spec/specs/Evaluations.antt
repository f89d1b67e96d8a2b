-- Meaning: When a net is that of a design without hierarchy: its evaluations are the maps that the design allows, one
-- for each choice of inputs and state, and its steps, starts and assumptions are the design's. Rule of this project;
-- what a design allows is `Runs` of vl_mean.
use Rattle.std.specs.Prelude.{
  ◌≡◌,
  ℕ,
  zero,
  suc,
  ◌↔◌,
  List,
  [],
  ◌∷◌,
  slice_get,
  slice_index,
  Some,
}
use Rattle.vl_size.specs.Size.{Values}
use Rattle.vl_size.specs.Table.{AreApart, AreDifferent}
use Rattle.vl_mean.specs.Parts.{Part}
use Rattle.vl_mean_flat.specs.Flattened.{decls_of}
use Rattle.vl_mean.specs.Runs.{Agrees, Each, HasReset, Holds, Init, IsAssumed, IsRun, KeepsOnce, Next, PartAssumes}
use Rattle.wn_net.specs.declared.names.Names.{Names}
use Rattle.wn_net.specs.declared.parts.Input.{Input}
use Rattle.wn_net.specs.declared.parts.InputKind.{InputKind}
use Rattle.wn_net.specs.declared.parts.InputKind.TheVariants as kind
use Rattle.wn_net.specs.declared.parts.State.{State}
use Rattle.wn_net.specs.Value.{Given}
use Rattle.wn_net.specs.Net.{Netlist, IsNet}
use Rattle.wn_net.specs.Given.{IsGiven}
use Rattle.wn_net.specs.Names.{AreNamesOf, HaveAll, ShowNames}
use Rattle.wn_net.specs.Next.{next_state}
use Rattle.wn_run.specs.Runs.{Choices, AreChoicesOf, IsMet, cycle_at, inputs_at, start_of}
use Rattle.vl_lower_spec.specs.Maps.{AreEntriesOf, given_of, listed, map_of, state_of}
use Rattle.vl_lower_spec.specs.Spots.{AreSources}

-- the state is one in which a run may begin
pub record IsStart (net : Netlist) (s : State) : Type 0 where
  pub choices : Choices
  pub of : AreChoicesOf net choices
  pub same : s ≡ start_of net choices

-- an input that is a reset has this number, and one that is chosen once the same in both cycles
abbrev pub ResetIs : InputKind → ℕ → ℕ → Type 0
ResetIs kind.Reset x y = x ≡ y
ResetIs k x y = Unit {0}

abbrev pub OnceIs : InputKind → ℕ → ℕ → Type 0
OnceIs kind.Once x y = x ≡ y
OnceIs k x y = Unit {0}

abbrev pub HaveReset : Netlist → ℕ → List ℕ → Type 0
HaveReset net y numbers =
    (i : ℕ) (x : Input) → slice_get net.inputs i ≡ Some x → ResetIs x.kind (slice_index numbers i) y

abbrev pub KeepOnce : Netlist → List ℕ → List ℕ → Type 0
KeepOnce net numbers later =
    (i : ℕ) (x : Input) → slice_get net.inputs i ≡ Some x → OnceIs x.kind (slice_index later i) (slice_index numbers i)

pub record IsLowered (ps : List Part) (net : Netlist) (names : Names) : Type 0 where
  -- each declared name has its entry, or each word of a memory that isn't kept as one; each input, register and memory
  -- has one too, and its bits are the named ones
  pub entries : AreEntriesOf (listed ps) names.list
  pub named : AreNamesOf net names
  pub all : HaveAll net names
  pub shown : (g : Given) → IsGiven net g → ShowNames net names g
  -- what these are bits of is free in a map; declared names differ, and none is that of a word of a memory
  pub sources : AreSources (decls_of ps) ps net names
  pub different : AreDifferent (decls_of ps)
  pub apart : AreApart (decls_of ps)
  -- each evaluation's map is one that the design allows, from whose names the numbers come back
  pub holds : (g : Given) → IsGiven net g → Holds ps (map_of net names g)
  pub back : (g : Given) → IsGiven net g → given_of names (map_of net names g) ≡ g
  -- and each map that the design allows is an evaluation's
  pub given : (v : Values) → Holds ps v → IsGiven net (given_of names v)
  pub whole : (v : Values) → Holds ps v → Agrees ps (map_of net names (given_of names v)) v
  pub steps : (v u : Values) → Holds ps v → Holds ps u
      → Next ps v u ↔ (state_of names u ≡ next_state net (given_of names v))
  pub starts : (v : Values) → Holds ps v → Init ps v ↔ IsStart net (state_of names v)
  pub resets : (v : Values) (y : ℕ) → Holds ps v → HasReset ps y v ↔ HaveReset net y (given_of names v).inputs
  pub once : (v u : Values) → Holds ps v → Holds ps u
      → KeepsOnce ps v u ↔ KeepOnce net (given_of names v).inputs (given_of names u).inputs
  pub assumes : (v : Values) → Holds ps v → Each (PartAssumes v) ps ↔ IsMet net (given_of names v)

-- ---- runs

-- the maps of n cycles from cycle k on
abbrev pub maps_from : Netlist → Names → (ℕ → Given) → ℕ → ℕ → List Values
maps_from net names cycle k zero = []
maps_from net names cycle k (suc n) = map_of net names (cycle k) ∷ maps_from net names cycle (suc k) n

-- the maps of cycles 0 to d of the net's run with these choices
abbrev pub run_of : Netlist → Names → Choices → ℕ → List Values
run_of net names ch d = maps_from net names (cycle_at net (inputs_at net ch) (start_of net ch)) 0 (suc d)

-- each run of the net is one of the design
abbrev pub RunsAreAllowed : Type 0
RunsAreAllowed =
    (ps : List Part) (net : Netlist) (names : Names) → IsLowered ps net names → IsNet net
    → (ch : Choices) → AreChoicesOf net ch → (d : ℕ) → IsRun ps d (run_of net names ch d)

-- the numbers of the run's cycles are those of choices of the net
pub record IsEvaluated (net : Netlist) (names : Names) (run : List Values) : Type 0 where
  pub choices : Choices
  pub of : AreChoicesOf net choices
  pub same : (k : ℕ) (v : Values) → slice_get run k ≡ Some v
      → cycle_at net (inputs_at net choices) (start_of net choices) k ≡ given_of names v

-- and each run that the design allows is one of the net
abbrev pub RunsAreEvaluated : Type 0
RunsAreEvaluated =
    (ps : List Part) (net : Netlist) (names : Names) → IsLowered ps net names → IsNet net
    → (d : ℕ) (run : List Values) → IsRun ps d run → IsEvaluated net names run

-- a run meets its assumptions where those of its evaluations are met
abbrev pub AssumptionsAreMet : Type 0
AssumptionsAreMet =
    (ps : List Part) (net : Netlist) (names : Names) → IsLowered ps net names
    → (run : List Values) → Each (Holds ps) run
    → IsAssumed ps run ↔ Each (λ v. IsMet net (given_of names v)) run
