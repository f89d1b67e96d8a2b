-- Meaning: The property of a check (documentation of riscv-formal, in this project's profile). Orders are whole
-- numbers: no retirement has an order behind 2 ^ 64 - 1.
use Rattle.std.specs.Prelude.{ℕ, ◌+◌, ◌-◌, ◌/◌, ◌%◌, ◌^◌, ◌==◌, nat_lt}
use Rattle.std.specs.Prelude.{Bool, true, not, ◌&&◌, ◌||◌, List}
use Rattle.std.specs.Prelude.{Option, Some, None, if◌then◌else◌}
use Rattle.std.specs.List.{list_all}
use Rattle.rv_table.specs.declared.retire.Retire.{Retire}
use Rattle.rv_table.specs.declared.retire.Opts.{Opts}
use Rattle.rv_table.specs.declared.row.RowId.{RowId}
use Rattle.rv_table.specs.Agree.{agrees, has, byte}
use Rattle.rv_table.specs.Effect.{effect}
use Rattle.rv_table.specs.Matching.{matches}
use Rattle.ck_cfg.specs.declared.check.Check.{Check}
use Rattle.ck_cfg.specs.declared.kind.CheckKind.{CheckKind}
use Rattle.ck_cfg.specs.declared.kind.CheckKind.TheVariants as kind
use Rattle.ck_spec.specs.declared.retired.Retired.{Retired}
use Rattle.ck_spec.specs.declared.retired.Probe.{Probe}
use Rattle.ck_spec.specs.Lists.{is_at, found_at, counts, last_earlier, any_earlier, has_next, where_found}

-- where the one holds, the other has to
abbrev pub implies : Bool → Bool → Bool
implies a b = if a then b else true

-- ---- of the retirement that the check is about, alone

-- a word of the row does what the row does
abbrev pub does_as_row : Option RowId → Opts → Retire → Bool
does_as_row None opts r = true
does_as_row (Some row) opts r = implies (matches row r.insn) (agrees r (effect row r opts))

-- 16 zero bits are no instruction: they trap, and write no register and no memory
abbrev pub traps_zeros : Retire → Bool
traps_zeros r = implies (r.insn % 2 ^ 16 == 0) (r.trap && r.rd_addr == 0 && r.mem_wmask == 0)

-- the half words of the instruction that lie at the probed address are the probed one
abbrev pub has_probed_halves : Probe → Retire → Bool
has_probed_halves probe r =
    implies (r.pc_rdata == probe.imem_addr) (r.insn % 2 ^ 16 == probe.imem_data)
    && implies (r.insn % 4 == 3 && (r.pc_rdata + 2) % 2 ^ 32 == probe.imem_addr) (r.insn / 2 ^ 16 == probe.imem_data)

-- ---- of it and the earlier ones

-- it has a higher order, and reads the register that the other one writes
abbrev pub reads_early : Retire → Retire → Bool
reads_early e r = nat_lt r.order e.order && (e.rs1_addr == r.rd_addr || e.rs2_addr == r.rd_addr)

module _ (check : Check) (rs : List Retired) where
  -- the register was last written with this number, by one of a lower order; x0 is no register
  abbrev pub was_written : ℕ → ℕ → ℕ → Bool
  was_written order register value = register == 0 || where_found
      (last_earlier check (λ e. nat_lt e.order order && e.rd_addr == register) rs) (λ e. e.rd_wdata == value)

  abbrev pub reads_what_was_written : Retire → Bool
  reads_what_was_written r = was_written r.order r.rs1_addr r.rs1_rdata && was_written r.order r.rs2_addr r.rs2_rdata

  -- it is where the one of the order before it went on, but for an interrupt
  abbrev pub goes_on : Retire → Bool
  goes_on r = r.intr || where_found
      (last_earlier check (λ e. r.order == e.order + 1) rs) (λ e. e.pc_wdata == r.pc_rdata)

  -- the one of the order behind it, where that is no interrupt, is where it went on
  abbrev pub is_gone_on_from : Retire → Bool
  is_gone_on_from r = where_found
      (last_earlier check (λ e. not e.intr && e.order == r.order + 1) rs) (λ e. e.pc_rdata == r.pc_wdata)

  -- none of a higher order has read the register that it writes
  abbrev pub writes_before_reads : Retire → Bool
  writes_before_reads r = r.rd_addr == 0 || not (any_earlier check (λ e. reads_early e r) rs)

  -- the byte that it reads was last written so
  abbrev pub byte_was_written : Retire → ℕ → Bool
  byte_was_written r i = implies (has r.mem_rmask i) (where_found
      (last_earlier check (λ e. e.mem_addr == r.mem_addr && has e.mem_wmask i) rs)
      (λ e. byte i e.mem_wdata == byte i r.mem_rdata))

  abbrev pub loads_what_was_stored : Probe → Retire → Bool
  loads_what_was_stored probe r = implies (r.mem_addr == probe.dmem_addr)
      (byte_was_written r 0 && byte_was_written r 1 && byte_was_written r 2 && byte_was_written r 3)

  -- ---- of the one at the trigger, and all others

  -- its order is that of no other
  abbrev pub has_own_order : Retire → Bool
  has_own_order r = list_all (λ e. implies (counts check e && e.retire.order == r.order) (is_at check check.trig e)) rs

  -- the order behind it is there, but behind a halt and the last order
  abbrev pub is_followed : Retire → Bool
  is_followed r = r.halt || r.order == 2 ^ 64 - 1 || has_next check r.order rs

  -- the property, of the retirement that the check is about
  abbrev pub holds_at : Probe → Opts → Retire → CheckKind → Bool
  holds_at probe opts r kind.Insn = does_as_row check.row opts r
  holds_at probe opts r kind.Ill = traps_zeros r
  holds_at probe opts r kind.Reg = reads_what_was_written r
  holds_at probe opts r kind.PcFwd = goes_on r
  holds_at probe opts r kind.PcBwd = is_gone_on_from r
  holds_at probe opts r kind.Causal = writes_before_reads r
  holds_at probe opts r kind.Unique = has_own_order r
  holds_at probe opts r kind.Liveness = is_followed r
  holds_at probe opts r kind.Imem = has_probed_halves probe r
  holds_at probe opts r kind.Dmem = loads_what_was_stored probe r

-- the cycle of that retirement: the trigger's, or that of the check
abbrev pub cycle_of : Check → CheckKind → ℕ
cycle_of check kind.Unique = check.trig
cycle_of check kind.Liveness = check.trig
cycle_of check kind = check.cycle

-- the property of a check: it holds where the retirement that it is about isn't there
abbrev pub property : Check → List Retired → Probe → Opts → Bool
property check rs probe opts = where_found (found_at check (cycle_of check check.kind) rs)
    (λ r. holds_at check rs probe opts r check.kind)
