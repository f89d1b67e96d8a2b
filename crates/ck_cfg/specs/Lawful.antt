-- Between functions: What each check of a configuration keeps, for all that is built on checks. Rule of this project.
use Rattle.std.specs.Prelude.{ℕ, ◌≡◌, ◌≤◌, ◌<◌, Option, Some, None}
use Rattle.std.specs.List.{AllByRecursion}
use Rattle.rv_table.specs.declared.row.RowId.{RowId}
use Rattle.ck_cfg.specs.declared.kind.CheckKind.{CheckKind}
use Rattle.ck_cfg.specs.declared.kind.CheckKind.TheVariants.{Insn, Ill, Reg, PcFwd, PcBwd, Causal, Unique, Liveness}
use Rattle.ck_cfg.specs.declared.kind.CheckKind.TheVariants.{Imem, Dmem}
use Rattle.ck_cfg.specs.declared.config.Config.{Config}
use Rattle.ck_cfg.specs.declared.check.Check.{Check}
use Rattle.ck_cfg.specs.Checks.{checks_of}

-- there is a row
abbrev pub HasRow : Option RowId → Type 0
HasRow (Some row) = Unit {0}
HasRow None = ⊥

-- a row is there exactly where the kind is insn
abbrev pub RowFits : CheckKind → Option RowId → Type 0
RowFits Insn row = HasRow row
RowFits Ill row = row ≡ None
RowFits Reg row = row ≡ None
RowFits PcFwd row = row ≡ None
RowFits PcBwd row = row ≡ None
RowFits Causal row = row ≡ None
RowFits Unique row = row ≡ None
RowFits Liveness row = row ≡ None
RowFits Imem row = row ≡ None
RowFits Dmem row = row ≡ None

-- the first cycle that a check of this kind may have: these look at no cycle with a reset
abbrev pub least_cycle : CheckKind → ℕ
least_cycle Insn = 1
least_cycle Ill = 1
least_cycle Reg = 0
least_cycle PcFwd = 0
least_cycle PcBwd = 0
least_cycle Causal = 0
least_cycle Unique = 0
least_cycle Liveness = 0
least_cycle Imem = 1
least_cycle Dmem = 0

-- the cycles are in order and within 100, and the row is there where it has to be
pub record IsLawful (c : Check) : Type 0 where
  pub row : RowFits c.kind c.row
  pub start : c.start ≤ c.trig
  pub trig : c.trig ≤ c.cycle
  pub least : least_cycle c.kind ≤ c.cycle
  pub most : c.cycle ≤ 100

-- a lawful check of one of so many channels
pub record IsCheck (channels : ℕ) (c : Check) : Type 0 where
  pub lawful : IsLawful c
  pub channel : c.channel < channels

-- each check of the configuration is lawful, and of one of its channels
abbrev pub HasLawfulChecks : Config → Type 0
HasLawfulChecks c = AllByRecursion (IsCheck c.nret) (checks_of c)
