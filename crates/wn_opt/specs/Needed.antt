-- Meaning: The nodes, registers and memories of a net on which some nodes rest (rule of this project).
use Rattle.std.specs.Prelude.{◌≡◌, ℕ, List, [], ◌∷◌, Some, slice_get}
use Rattle.wn_net.specs.declared.node.Node.{Node}
use Rattle.wn_net.specs.declared.node.Node.TheVariants as n
use Rattle.wn_net.specs.declared.parts.Reg.{Reg}
use Rattle.wn_net.specs.declared.parts.Mem.{Mem}
use Rattle.wn_net.specs.declared.parts.MemWrite.{MemWrite}
use Rattle.wn_net.specs.Net.{Netlist}

-- one of the list
abbrev pub IsIn : {A : Type 0} → List A → A → Type 0
IsIn xs x = (k : ℕ) × (slice_get xs k ≡ Some x)

-- the nodes that a node reads
abbrev pub operands : Node → List ℕ
operands (n.Konst word) = []
operands (n.Input i) = []
operands (n.Reg i) = []
operands (n.Read m a) = a ∷ []
operands (n.Not a) = a ∷ []
operands (n.And a b) = a ∷ b ∷ []
operands (n.Or a b) = a ∷ b ∷ []
operands (n.Xor a b) = a ∷ b ∷ []
operands (n.Add a b) = a ∷ b ∷ []
operands (n.Sub a b) = a ∷ b ∷ []
operands (n.Mul a b) = a ∷ b ∷ []
operands (n.Eq a b) = a ∷ b ∷ []
operands (n.Ult a b) = a ∷ b ∷ []
operands (n.Slt a b) = a ∷ b ∷ []
operands (n.Shl a b) = a ∷ b ∷ []
operands (n.Lshr a b) = a ∷ b ∷ []
operands (n.Ashr a b) = a ∷ b ∷ []
operands (n.Concat a b) = a ∷ b ∷ []
operands (n.Mux c a b) = c ∷ a ∷ b ∷ []
operands (n.Slice a at w) = a ∷ []
operands (n.Zext a w) = a ∷ []
operands (n.Sext a w) = a ∷ []

-- the nodes of a write
abbrev pub write_nodes : MemWrite → List ℕ
write_nodes w = w.enable ∷ w.addr ∷ w.mask ∷ w.value ∷ []

-- A node is needed where it is a root, an operand of a needed node, the next value of a needed register, or a node of
-- a write of a needed memory; a register or a memory is needed where a needed node reads it. Nothing else is.
pub data IsNeeded (net : Netlist) (roots : List ℕ) : ℕ → Type 0 where
  root : (id : ℕ) → IsIn roots id → IsNeeded net roots id
  operand : (user id : ℕ) (x : Node) → IsNeeded net roots user → slice_get net.nodes user ≡ Some x
      → IsIn (operands x) id → IsNeeded net roots id
  next : (user i : ℕ) (r : Reg) → IsNeeded net roots user → slice_get net.nodes user ≡ Some (n.Reg i)
      → slice_get net.regs i ≡ Some r → IsNeeded net roots r.next
  write : (user m a id : ℕ) (mem : Mem) (w : MemWrite) → IsNeeded net roots user
      → slice_get net.nodes user ≡ Some (n.Read m a) → slice_get net.mems m ≡ Some mem → IsIn mem.writes w
      → IsIn (write_nodes w) id → IsNeeded net roots id

-- a needed node reads the register
abbrev pub IsNeededReg : Netlist → List ℕ → ℕ → Type 0
IsNeededReg net roots i = (user : ℕ) × IsNeeded net roots user × (slice_get net.nodes user ≡ Some (n.Reg i))

-- a needed node reads the memory
abbrev pub IsNeededMem : Netlist → List ℕ → ℕ → Type 0
IsNeededMem net roots m =
    (user : ℕ) × (a : ℕ) × IsNeeded net roots user × (slice_get net.nodes user ≡ Some (n.Read m a))
