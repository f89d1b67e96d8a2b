-- Between functions: What the steps of lowering promise of a net and its names: they name what is free in a map of the
-- design, in each cycle the named numbers are those that the drivers settle, and the next state is that of a next map.
-- Rule of this project.
use Rattle.std.specs.Prelude.{◌≡◌, ℕ, ◌↔◌, List, All, Bool, false, not}
use Rattle.vl_size.specs.declared.decl.Class.{Class}
use Rattle.vl_size.specs.declared.decl.Class.TheVariants as class
use Rattle.vl_size.specs.declared.decl.Decl.{Decl}
use Rattle.vl_size.specs.Size.{Values}
use Rattle.vl_size.specs.Table.{AreApart, AreDifferent, IsShaped}
use Rattle.vl_mean.specs.declared.driver.Driver.{Driver}
use Rattle.vl_mean.specs.declared.driver.Start.{Start}
use Rattle.vl_mean.specs.FlatLaw.{IsLawful}
use Rattle.vl_mean.specs.FlatParts.{parts_of}
use Rattle.vl_mean.specs.Parts.{Part}
use Rattle.vl_mean.specs.Runs.{Agrees, ChoosesAlike, Each, EachBit, EachDeclared, HasReset, Init, InRange, KeepsOnce}
use Rattle.vl_mean.specs.Runs.{Next, OnlyIf, PartAssumes, is_driven}
use Rattle.vl_mean.specs.Targets.{bit_of}
use Rattle.vl_flow_spec.specs.Refusals.{HasNoRefusal}
use Rattle.vl_flow_spec.specs.Sequence.{IsSequence}
use Rattle.vl_lower_spec.specs.Evaluations.{HaveReset, IsLowered, IsStart, KeepOnce}
use Rattle.vl_lower_spec.specs.Maps.{AreEntriesOf, given_of, listed, map_of, state_of}
use Rattle.vl_lower_spec.specs.Spots.{AreSources}
use Rattle.wn_net.specs.declared.names.Names.{Names}
use Rattle.wn_net.specs.Value.{Given}
use Rattle.wn_net.specs.Net.{Netlist}
use Rattle.wn_net.specs.Given.{IsGiven}
use Rattle.wn_net.specs.Names.{AreNamesOf, HaveAll, ShowNames}
use Rattle.wn_net.specs.Next.{next_state}
use Rattle.wn_run.specs.Runs.{IsMet}
use Rattle.vl_lower_spec.specs.Settled.{settled}

-- each name but the clock has a number of its width, or numbers, a memory
abbrev pub AreRanged : List Decl → Values → Type 0
AreRanged ds v = Each (λ d. InRange v d d.class) ds

-- a bit that is kept over the clock's edge: of a variable, where no combinational block drives it
abbrev pub is_kept : List Part → Class → List ℕ → ℕ → Bool
is_kept ps class.Variable text k = not (is_driven ps text k)
is_kept ps c text k = false

-- the maps have these bits in common
abbrev pub AreKeptAlike : List Part → Values → Values → Type 0
AreKeptAlike ps u w = EachDeclared (λ d. EachBit
    (λ text k. OnlyIf (is_kept ps d.class text k) (bit_of (u text) k ≡ bit_of (w text) k)) d) ps

-- The named bits of inputs, registers and memories are those that are free in a map, those of registers and memories
-- the ones that are kept; and what a run begins with and how inputs change is the design's.
pub record NameWhatIsFree (ds : List Decl) (ps : List Part) (net : Netlist) (names : Names) : Type 0 where
  pub fits : (v : Values) → AreRanged ds v → IsGiven net (given_of names v)
  pub free : (u v : Values) → AreRanged ds u → AreRanged ds v
      → ChoosesAlike ps u v ↔ (given_of names u ≡ given_of names v)
  pub kept : (u v : Values) → AreRanged ds u → AreRanged ds v
      → AreKeptAlike ps u v ↔ (state_of names u ≡ state_of names v)
  pub begins : (v : Values) → AreRanged ds v → Init ps v ↔ IsStart net (state_of names v)
  pub resets : (v : Values) (y : ℕ) → AreRanged ds v → HasReset ps y v ↔ HaveReset net y (given_of names v).inputs
  pub once : (v u : Values) → AreRanged ds v → AreRanged ds u
      → KeepsOnce ps v u ↔ KeepOnce net (given_of names v).inputs (given_of names u).inputs

-- In a cycle the names have the numbers that the drivers settle, from a map with what is free in the cycle.
pub record AreSettledNames (ds : List Decl) (ps : List Part) (drivers : List Driver) (sequence : List ℕ)
    (net : Netlist) (names : Names) (g : Given) : Type 0 where
  pub first : Values
  pub ranged : AreRanged ds first
  pub same : given_of names first ≡ g
  pub names_are : Agrees ps (map_of net names g) (settled ds drivers sequence first)

-- The state behind a cycle is that of a map that may come next.
pub record HasNextMap (ds : List Decl) (ps : List Part) (net : Netlist) (names : Names) (g : Given) : Type 0 where
  pub next : Values
  pub ranged : AreRanged ds next
  pub same : next_state net g ≡ state_of names next
  pub may_come : Next ps (map_of net names g) next

pub record IsBuilt (ds : List Decl) (drivers : List Driver) (starts : List Start) (sequence : List ℕ) (net : Netlist)
    (names : Names) : Type 0 where
  pub entries : AreEntriesOf (listed (parts_of ds drivers starts)) names.list
  pub named : AreNamesOf net names
  pub all : HaveAll net names
  pub shown : (g : Given) → IsGiven net g → ShowNames net names g
  pub sources : AreSources ds (parts_of ds drivers starts) net names
  pub free : NameWhatIsFree ds (parts_of ds drivers starts) net names
  pub settles : (g : Given) → IsGiven net g
      → AreSettledNames ds (parts_of ds drivers starts) drivers sequence net names g
  pub steps : (g : Given) → IsGiven net g → HasNextMap ds (parts_of ds drivers starts) net names g
  pub assumes : (g : Given) → IsGiven net g
      → Each (PartAssumes (map_of net names g)) (parts_of ds drivers starts) ↔ IsMet net g

-- ---- the law: such a net is that of the design

abbrev pub BuiltNetsAreLowered : Type 0
BuiltNetsAreLowered =
    (ds : List Decl) (drivers : List Driver) (starts : List Start) (sequence : List ℕ) (net : Netlist)
    (names : Names) → All IsShaped ds → AreDifferent ds → AreApart ds → IsLawful ds drivers starts
    → HasNoRefusal ds drivers → IsSequence ds drivers sequence
    → IsBuilt ds drivers starts sequence net names → IsLowered (parts_of ds drivers starts) net names
