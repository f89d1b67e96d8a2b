-- Between functions: What a check keeps of each retirement, and what it asks of those that were kept (rule of this
-- project).
use Rattle.std.specs.Prelude.{ℕ, ◌==◌, Bool, true, not, ◌&&◌, ◌||◌, List, map, reverse}
use Rattle.fv_bits.specs.Bits.{bit, part}
use Rattle.rv_table.specs.declared.retire.Retire.{Retire}
use Rattle.wn_net.specs.Value.{Given}
use Rattle.wn_net.specs.Net.{Netlist, value_at}
use Rattle.rvfi_port.specs.declared.port.Channel.{Channel}
use Rattle.rvfi_port.specs.Channels.{retire_at}
use Rattle.ck_cfg.specs.declared.kind.CheckKind.{CheckKind}
use Rattle.ck_cfg.specs.declared.kind.CheckKind.TheVariants as kinds
use Rattle.ck_history.specs.Entries.{Entry}
use Rattle.ck_history.specs.declared.sought.Sought.{Sought}
use Rattle.ck_history.specs.declared.sought.KeyTest.TheVariants as key
use Rattle.ck_history.specs.declared.sought.SmallTest.TheVariants as small
use Rattle.ck_history.specs.declared.sought.WordTest.TheVariants as datum
use Rattle.ck_history.specs.Searches.{first_agrees}

abbrev pub entry : ℕ → ℕ → ℕ → ℕ → Entry
entry there key small word = record { there = there; key = key; small = small; word = word }

-- what is kept of a retirement; the number says whether it is one
abbrev pub kept : CheckKind → ℕ → Retire → Entry
kept kinds.Reg there r = entry there r.order r.rd_addr r.rd_wdata
kept kinds.PcFwd there r = entry there r.order 0 r.pc_wdata
kept kinds.PcBwd there r = entry there r.order (bit r.intr) r.pc_rdata
kept kinds.Causal there r = entry there r.order r.rs1_addr r.rs2_addr
kept kinds.Liveness there r = entry there r.order (bit r.halt) r.pc_rdata
kept kinds.Dmem there r = entry there r.mem_addr r.mem_wmask r.mem_wdata
kept other there r = entry there r.order 0 r.pc_rdata

-- of each channel in a cycle, the highest channel first
abbrev pub kept_in : CheckKind → Netlist → Given → List Channel → List Entry
kept_in kind net g cs = reverse (map (λ c. kept kind (value_at net g c.valid) (retire_at net g c)) cs)

-- ---- what is sought

abbrev pub sought_write : Sought
sought_write = record { key = key.Below; small = small.Same; word = datum.Whole }

abbrev pub sought_before : Sought
sought_before = record { key = key.Before; small = small.Any; word = datum.Whole }

abbrev pub sought_behind : Sought
sought_behind = record { key = key.Behind; small = small.Zero; word = datum.Whole }

abbrev pub sought_reader : Sought
sought_reader = record { key = key.Above; small = small.OneOfTwo; word = datum.Never }

abbrev pub sought_same : Sought
sought_same = record { key = key.Same; small = small.Any; word = datum.Never }

abbrev pub sought_next : Sought
sought_next = record { key = key.Behind; small = small.Any; word = datum.Never }

abbrev pub sought_store : ℕ → Sought
sought_store i = record { key = key.Same; small = small.Bit i; word = datum.Byte i }

-- ---- the properties, over the entries that were kept, the last one first

module _ (there : ℕ) (r : Retire) (es : List Entry) where
  abbrev pub read_as_written : ℕ → ℕ → Bool
  read_as_written register value =
      register == 0 || first_agrees sought_write (entry there r.order register value) es

  abbrev pub both_as_written : Bool
  both_as_written = read_as_written r.rs1_addr r.rs1_rdata && read_as_written r.rs2_addr r.rs2_rdata

  abbrev pub goes_on_so : Bool
  goes_on_so = r.intr || first_agrees sought_before (entry there r.order r.rd_addr r.pc_rdata) es

  abbrev pub gone_on_so : Bool
  gone_on_so = first_agrees sought_behind (entry there r.order r.rd_addr r.pc_wdata) es

  abbrev pub not_read_early : Bool
  not_read_early = r.rd_addr == 0 || first_agrees sought_reader (entry there r.order r.rd_addr r.rd_wdata) es

  abbrev pub byte_as_stored : ℕ → Bool
  byte_as_stored i =
      not (part i 1 r.mem_rmask == 1) || first_agrees (sought_store i) (entry there r.mem_addr r.rd_addr r.mem_rdata) es

  abbrev pub all_as_stored : Bool
  all_as_stored = (byte_as_stored 0 && byte_as_stored 1) && (byte_as_stored 2 && byte_as_stored 3)

  abbrev pub loaded_as_stored : ℕ → Bool
  loaded_as_stored address = not (r.mem_addr == address) || all_as_stored

  -- by kind, of the kinds that are about earlier retirements
  abbrev pub holds_over : ℕ → CheckKind → Bool
  holds_over address kinds.Reg = both_as_written
  holds_over address kinds.PcFwd = goes_on_so
  holds_over address kinds.PcBwd = gone_on_so
  holds_over address kinds.Causal = not_read_early
  holds_over address kinds.Dmem = loaded_as_stored address
  holds_over address other = true

-- a check of this kind is about the retirement in its last cycle and those before it
abbrev pub LooksBack : CheckKind → Type 0
LooksBack kinds.Reg = Unit {0}
LooksBack kinds.PcFwd = Unit {0}
LooksBack kinds.PcBwd = Unit {0}
LooksBack kinds.Causal = Unit {0}
LooksBack kinds.Dmem = Unit {0}
LooksBack other = ⊥
