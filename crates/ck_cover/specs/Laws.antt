-- Between functions: What holds of targets. Rule of this project.
use Rattle.std.specs.Prelude.{◌≡◌, ℕ, ◌<◌, ◌≤◌, true, List, Option, Some, None}
use Rattle.std.specs.List.{AllByRecursion}
use Rattle.ck_cfg.specs.declared.kind.CheckKind.{CheckKind}
use Rattle.ck_cfg.specs.declared.kind.CheckKind.TheVariants.{Insn}
use Rattle.ck_cfg.specs.declared.check.Check.{Check}
use Rattle.ck_cfg.specs.Kind.{is_kind}
use Rattle.ck_cfg.specs.Lawful.{IsCheck}
use Rattle.rv_table.specs.declared.row.RowId.{RowId}
use Rattle.ck_cover.specs.declared.target.Target.{Target}
use Rattle.ck_cover.specs.Targets.{greatest, targets_of}

-- at most the number that is there
abbrev pub IsAtMost : ℕ → Option ℕ → Type 0
IsAtMost n None = ⊥
IsAtMost n (Some m) = n ≤ m

-- a kind that has a check has a greatest cycle, and no check of the kind has a greater one
abbrev pub EachCheckHasItsTarget : Type 0
EachCheckHasItsTarget =
    (kind : CheckKind) (checks : List Check)
    → AllByRecursion (λ c. is_kind c.kind kind ≡ true → IsAtMost c.cycle (greatest kind checks)) checks

-- a row is there in a target of insn alone
abbrev pub IsOfInsn : CheckKind → Option RowId → Type 0
IsOfInsn kind None = Unit {0}
IsOfInsn kind (Some row) = kind ≡ Insn

-- a target that may be asked of one of so many channels
pub record IsTarget (channels : ℕ) (t : Target) : Type 0 where
  pub kind : IsOfInsn t.kind t.row
  pub channel : t.channel < channels
  pub most : t.cycle ≤ 100

-- the targets of checks of so many channels are such
abbrev pub TargetsAreLawful : Type 0
TargetsAreLawful =
    (channels : ℕ) (checks : List Check) → AllByRecursion (IsCheck channels) checks
    → AllByRecursion (IsTarget channels) (targets_of checks)
