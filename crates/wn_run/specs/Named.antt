-- Between functions: Numbers of nodes below a bound (rule of this project).
use Rattle.std.specs.Prelude.{ℕ, ◌<◌, List, [], length, map, slice_index, slice_index_or}
use Rattle.wn_net.specs.declared.parts.Reg.{Reg}
use Rattle.wn_net.specs.declared.parts.Mem.{Mem}
use Rattle.wn_net.specs.declared.parts.MemWrite.{MemWrite}

-- each of the list
abbrev pub AreBelow : List ℕ → ℕ → Type 0
AreBelow ids n = (k : ℕ) → k < length ids → slice_index ids k < n

-- the next nodes of registers
abbrev pub AreRegsBelow : List Reg → ℕ → Type 0
AreRegsBelow regs n = AreBelow (map (λ r. r.next) regs) n

-- the nodes of writes
pub record AreWritesBelow (writes : List MemWrite) (n : ℕ) : Type 0 where
  pub enable : AreBelow (map (λ w. w.enable) writes) n
  pub addr : AreBelow (map (λ w. w.addr) writes) n
  pub mask : AreBelow (map (λ w. w.mask) writes) n
  pub value : AreBelow (map (λ w. w.value) writes) n

-- those of all memories
abbrev pub AreMemsBelow : List Mem → ℕ → Type 0
AreMemsBelow mems n =
    (k : ℕ) → k < length mems → AreWritesBelow (slice_index_or (map (λ m. m.writes) mems) k []) n
