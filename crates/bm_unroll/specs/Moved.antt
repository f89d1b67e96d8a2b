-- Between functions: The state in the next cycle as nodes (rule of this project).
use Rattle.std.specs.Prelude.{◌≡◌, ℕ, ◌<◌, List, length, map, slice_index}
use Rattle.wn_net.specs.declared.parts.State.{State}
use Rattle.wn_net.specs.declared.parts.MemWrite.{MemWrite}
use Rattle.wn_net.specs.Next.{next_mems}
use Rattle.wn_net.specs.Net.{Netlist}

-- the state in the next cycle, by the value of each node
abbrev pub moved : Netlist → List ℕ → State → State
moved net vs state = record {
  regs = map (λ r. slice_index vs r.next) net.regs;
  mems = next_mems vs net.mems state.mems;
}

-- a write by what stands for its nodes
abbrev pub copied : List ℕ → MemWrite → MemWrite
copied table w = record {
  enable = slice_index table w.enable;
  addr = slice_index table w.addr;
  mask = slice_index table w.mask;
  value = slice_index table w.value;
}

-- a write that fits words of a width, by the widths of the nodes
pub record IsTableWrite (ws : List ℕ) (width : ℕ) (w : MemWrite) : Type 0 where
  pub enable : (w.enable < length ws) × (slice_index ws w.enable ≡ 1)
  pub addr : w.addr < length ws
  pub mask : (w.mask < length ws) × (slice_index ws w.mask ≡ width)
  pub value : (w.value < length ws) × (slice_index ws w.value ≡ width)
