-- Meaning: What a run of a design is chosen by, and that there is one run for each choice (rule of this project).
use Rattle.std.specs.Prelude.{◌≡◌, ℕ, ◌≤◌, Bool, true, false, not, ◌&&◌, ◌==◌, List, is_none}
use Rattle.vl_size.specs.declared.decl.Class.{Class}
use Rattle.vl_size.specs.declared.decl.Class.TheVariants as class
use Rattle.vl_size.specs.Size.{Values}
use Rattle.vl_mean.specs.Parts.{Part}
use Rattle.vl_mean.specs.Runs.{Agrees, EachBit, EachDeclared, IsRun, OnlyIf, initial_writes, is_driven, last_value}
use Rattle.vl_mean.specs.Targets.{bit_of}
use Rattle.wn_net.specs.declared.names.Names.{Names}
use Rattle.wn_net.specs.Net.{Netlist, IsNet}
use Rattle.vl_lower_spec.specs.Evaluations.{IsLowered}
use Rattle.ck_design.specs.Retirements.{values_at}

-- Whether a bit of a name of a class is chosen in a cycle: of inputs of the top module, and of names that are free in
-- each cycle, in any one; of names that are free once, in the first one; and in the first one each bit of a variable
-- that no combinational block drives and that has no value at first.
abbrev pub is_free : List Part → Class → List ℕ → ℕ → ℕ → Bool
is_free ps class.Input text k cycle = true
is_free ps class.EachCycle text k cycle = true
is_free ps class.Once text k cycle = cycle == 0
is_free ps class.Variable text k cycle =
    (cycle == 0 && not (is_driven ps text k)) && is_none (last_value (initial_writes ps) text k)
is_free ps class.Reset text k cycle = false
is_free ps class.Net text k cycle = false
is_free ps class.Clock text k cycle = false

-- in the cycle the maps have the chosen bits in common
abbrev pub ChooseAlike : List Part → ℕ → Values → Values → Type 0
ChooseAlike ps cycle u v = EachDeclared (λ d. EachBit (λ text k.
    OnlyIf (is_free ps d.class text k cycle) (bit_of (u text) k ≡ bit_of (v text) k)) d) ps

-- a run up to a cycle, by the chosen bits of a list of maps
pub record IsRunBy (ps : List Part) (d : ℕ) (chosen run : List Values) : Type 0 where
  pub is_run : IsRun ps d run
  pub by : (cycle : ℕ) → cycle ≤ d → ChooseAlike ps cycle (values_at run cycle) (values_at chosen cycle)

-- there is one, and any other has the same numbers of all declared names in each cycle
pub record HasOneRun (ps : List Part) (d : ℕ) (chosen : List Values) : Type 0 where
  pub run : List Values
  pub is : IsRunBy ps d chosen run
  pub one : (other : List Values) → IsRunBy ps d chosen other → (cycle : ℕ) → cycle ≤ d
      → Agrees ps (values_at other cycle) (values_at run cycle)

-- the design of a net has one run for each list of maps
abbrev pub EachChoiceHasOneRun : Type 0
EachChoiceHasOneRun =
    (ps : List Part) (net : Netlist) (names : Names) (d : ℕ) (chosen : List Values) → IsLowered ps net names → IsNet net
    → HasOneRun ps d chosen
