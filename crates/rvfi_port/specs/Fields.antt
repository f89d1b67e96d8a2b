-- Meaning: The outputs of a design that show its retirements, and those that show what a run is probed by: names and
-- widths, in their order (RISC-V Formal Interface, in this project's profile, which leaves out `rvfi_mode` and
-- `rvfi_ixl`).
use Rattle.std.specs.Prelude.{ℕ, Bool, true, false, List, [], ◌∷◌, ◌++◌, if◌then◌else◌, codes}
use Rattle.rvfi_port.specs.declared.field.Field.{Field}
use Rattle.rvfi_port.specs.declared.field.Field.TheVariants as f
use Rattle.rvfi_port.specs.declared.port.Wants.{Wants}

abbrev pub field_name : Field → List ℕ
field_name f.Valid = codes "rvfi_valid"
field_name f.Order = codes "rvfi_order"
field_name f.Insn = codes "rvfi_insn"
field_name f.Trap = codes "rvfi_trap"
field_name f.Halt = codes "rvfi_halt"
field_name f.Intr = codes "rvfi_intr"
field_name f.Rs1Addr = codes "rvfi_rs1_addr"
field_name f.Rs2Addr = codes "rvfi_rs2_addr"
field_name f.Rs1Rdata = codes "rvfi_rs1_rdata"
field_name f.Rs2Rdata = codes "rvfi_rs2_rdata"
field_name f.RdAddr = codes "rvfi_rd_addr"
field_name f.RdWdata = codes "rvfi_rd_wdata"
field_name f.PcRdata = codes "rvfi_pc_rdata"
field_name f.PcWdata = codes "rvfi_pc_wdata"
field_name f.MemAddr = codes "rvfi_mem_addr"
field_name f.MemRmask = codes "rvfi_mem_rmask"
field_name f.MemWmask = codes "rvfi_mem_wmask"
field_name f.MemRdata = codes "rvfi_mem_rdata"
field_name f.MemWdata = codes "rvfi_mem_wdata"
field_name f.ImemAddr = codes "imem_addr"
field_name f.ImemData = codes "imem_data"
field_name f.DmemAddr = codes "dmem_addr"

-- in bits, for one channel
abbrev pub field_width : Field → ℕ
field_width f.Valid = 1
field_width f.Order = 64
field_width f.Trap = 1
field_width f.Halt = 1
field_width f.Intr = 1
field_width f.Rs1Addr = 5
field_width f.Rs2Addr = 5
field_width f.RdAddr = 5
field_width f.MemRmask = 4
field_width f.MemWmask = 4
field_width f.ImemData = 16
field_width field = 32

-- the fields of a channel
abbrev pub channel_fields : List Field
channel_fields =
    f.Valid ∷ f.Order ∷ f.Insn ∷ f.Trap ∷ f.Halt ∷ f.Intr ∷ f.Rs1Addr ∷ f.Rs2Addr ∷ f.Rs1Rdata ∷
    f.Rs2Rdata ∷ f.RdAddr ∷ f.RdWdata ∷ f.PcRdata ∷ f.PcWdata ∷ f.MemAddr ∷ f.MemRmask ∷
    f.MemWmask ∷ f.MemRdata ∷ f.MemWdata ∷ []

-- and what is probed, once for all channels
abbrev pub probed_fields : Wants → List Field
probed_fields wants =
    (if wants.imem then f.ImemAddr ∷ f.ImemData ∷ [] else []) ++ (if wants.dmem then f.DmemAddr ∷ [] else [])

abbrev pub wanted_fields : Wants → List Field
wanted_fields wants = channel_fields ++ probed_fields wants

-- a field that each channel has
abbrev pub is_per_channel : Field → Bool
is_per_channel f.ImemAddr = false
is_per_channel f.ImemData = false
is_per_channel f.DmemAddr = false
is_per_channel x = true
