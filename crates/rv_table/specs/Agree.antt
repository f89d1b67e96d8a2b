-- Meaning: When a retirement agrees with an effect: rule of this project, after the documentation of the RISC-V Formal
-- Interface.
use Rattle.std.specs.Prelude.{ℕ, ◌+◌, ◌*◌, Bool, not, ◌&&◌, ◌||◌, ◌==◌, if◌then◌else◌}
use Rattle.rv_table.specs.declared.retire.Retire.{Retire}
use Rattle.rv_table.specs.declared.retire.Effect.{Effect}
use Rattle.rv_table.specs.Fields.{field}

-- a source that is read is the given one, and a given x0 is 0
abbrev pub source_agrees : ℕ → ℕ → ℕ → Bool
source_agrees wanted address value = (wanted == 0 || wanted == address) && (not (address == 0) || value == 0)

-- the mask has the byte of this index
abbrev pub has : ℕ → ℕ → Bool
has mask index = field index index mask == 1

-- the byte of this index, the lowest first
abbrev pub byte : ℕ → ℕ → ℕ
byte index w = field (8 * index + 7) (8 * index) w

-- a byte that is written beyond the instruction's own was read too, and keeps its value
abbrev pub keeps : Retire → ℕ → Bool
keeps r index = has r.mem_rmask index && byte index r.mem_wdata == byte index r.mem_rdata

-- a byte of the instruction is written with its value
abbrev pub written_agrees : Retire → Effect → ℕ → Bool
written_agrees r e index =
    if has e.wmask index then has r.mem_wmask index && byte index r.mem_wdata == byte index e.wdata
    else (not (has r.mem_wmask index) || keeps r index)

-- and a byte that is to be read is
abbrev pub byte_agrees : Retire → Effect → ℕ → Bool
byte_agrees r e index = written_agrees r e index && (not (has e.rmask index) || has r.mem_rmask index)

-- the four bytes of a word
abbrev pub bytes_agree : Retire → Effect → Bool
bytes_agree r e = byte_agrees r e 0 && (byte_agrees r e 1 && (byte_agrees r e 2 && byte_agrees r e 3))

-- the address counts where memory is reached
abbrev pub address_agrees : Retire → Effect → Bool
address_agrees r e = (e.rmask == 0 && e.wmask == 0) || r.mem_addr == e.mem_addr

-- rd, where it goes on, and memory
abbrev pub results_agree : Retire → Effect → Bool
results_agree r e = r.rd_addr == e.rd_addr && (r.rd_wdata == e.rd_wdata
    && (r.pc_wdata == e.pc_wdata && (address_agrees r e && bytes_agree r e)))

-- both are true, or both are false
abbrev pub same : Bool → Bool → Bool
same a b = if a then b else not b

-- under a trap only the sources and the trap itself count
unfoldable pub agrees : Retire → Effect → Bool
agrees r e =
    source_agrees e.rs1_addr r.rs1_addr r.rs1_rdata && (source_agrees e.rs2_addr r.rs2_addr r.rs2_rdata
    && (same r.trap e.trap && (e.trap || results_agree r e)))
