-- Meaning: What is asked of a configuration. Rules of this project.
use Rattle.std.specs.Prelude.{◌≡◌, ℕ, ◌≤◌, Bool, true, List}
use Rattle.std.specs.List.{list_any}
use Rattle.ck_cfg.specs.declared.config.Config.{Config}
use Rattle.ck_cfg.specs.Checks.{checks_of, is_named}
use Rattle.rvf_case.specs.declared.asking.Asking.{Asking as RunAsking}
use Rattle.rvf_case.specs.declared.asking.Asking.TheVariants as run

-- each of its checks, each target of these, each check of Zba and Zbs beside them, each check of one cycle in runs of
-- every length, by so many steps; or the one check of a name
pub data Asking : Type 0 where
  Checks : Asking
  Targets : Asking
  Zb : Asking
  Lengths : ℕ → Asking
  One : List ℕ → Asking

-- as a call was given it
abbrev pub asking_seen : RunAsking → Asking
asking_seen run.Checks = Checks
asking_seen run.Targets = Targets
asking_seen run.Zb = Zb
asking_seen (run.Lengths steps) = Lengths steps.number
asking_seen (run.One name) = One name.now

-- a number of steps is from 1 to 100
abbrev pub InRange : Asking → Type 0
InRange (Lengths steps) = (1 ≤ steps) × (steps ≤ 100)
InRange asked = Unit {0}

-- a check of the configuration has the name
abbrev pub has_check : List ℕ → Config → Bool
has_check name c = list_any (is_named name) (checks_of c)

-- where one check is asked for, the configuration has it
abbrev pub IsThere : Asking → Config → Type 0
IsThere (One name) c = has_check name c ≡ true
IsThere asked c = Unit {0}
