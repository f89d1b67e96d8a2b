-- Between functions: Nodes that were found to be needed (rule of this project).
use Rattle.std.specs.Prelude.{◌≡◌, ◌↔◌, ℕ, ◌+◌, ◌<◌, Bool, true, false, List, [], ◌∷◌, Some}
use Rattle.std.specs.Prelude.{length, slice_get}
use Rattle.wn_net.specs.declared.node.Node.{Node}
use Rattle.wn_net.specs.declared.node.Node.TheVariants as n
use Rattle.wn_net.specs.declared.parts.Reg.{Reg}
use Rattle.wn_net.specs.declared.parts.Mem.{Mem}
use Rattle.wn_net.specs.declared.parts.MemWrite.{MemWrite}
use Rattle.wn_net.specs.Net.{Netlist, IsNet}
use Rattle.wn_net.specs.Changes.{IsBegun}
use Rattle.wn_opt.specs.declared.marks.Marks.{Marks}
use Rattle.wn_opt.specs.Needed.{IsIn, operands, write_nodes, IsNeeded, IsNeededReg, IsNeededMem}

-- ---- marks

abbrev pub IsSet : List Bool → ℕ → Type 0
IsSet bs i = slice_get bs i ≡ Some true

-- how many are not set
abbrev pub unset : List Bool → ℕ
unset [] = 0
unset (true ∷ bs) = unset bs
unset (false ∷ bs) = unset bs + 1

-- each node of each of these writes is in the list
abbrev pub AreWritesIn : List ℕ → List MemWrite → Type 0
AreWritesIn list ws = (w : MemWrite) (id : ℕ) → IsIn ws w → IsIn (write_nodes w) id → IsIn list id

-- What holds while needed nodes are looked for: those that are marked are listed, and needed, and so are marked
-- registers and memories; of a marked memory all nodes of writes are listed.
pub record Walks (net : Netlist) (roots : List ℕ) (m : Marks) : Type 0 where
  pub whole : IsNet net
  pub there : (id : ℕ) → IsNeeded net roots id → id < length net.nodes
  pub each_node : length m.nodes.items ≡ length net.nodes
  pub each_reg : length m.regs.items ≡ length net.regs
  pub each_mem : length m.mems.items ≡ length net.mems
  pub count : length m.list.items + unset m.nodes.items ≡ length net.nodes
  pub needed : (id : ℕ) → IsIn m.list.items id → IsNeeded net roots id
  pub listed : (id : ℕ) → IsSet m.nodes.items id → IsIn m.list.items id
  pub marked : (id : ℕ) → IsIn m.list.items id → IsSet m.nodes.items id
  pub regs : (i : ℕ) → IsSet m.regs.items i → IsNeededReg net roots i
  pub mems : (k : ℕ) → IsSet m.mems.items k → IsNeededMem net roots k
  pub written : (k : ℕ) (x : Mem) → IsSet m.mems.items k → slice_get net.mems k ≡ Some x
      → AreWritesIn m.list.items x.writes

-- nothing is taken back
pub record IsMore (old new : Marks) : Type 0 where
  pub list : IsBegun old.list.items new.list.items
  pub regs : (i : ℕ) → IsSet old.regs.items i → IsSet new.regs.items i
  pub mems : (k : ℕ) → IsSet old.mems.items k → IsSet new.mems.items k

-- these are needed
abbrev pub AreNeeded : Netlist → List ℕ → List ℕ → Type 0
AreNeeded net roots ids = (id : ℕ) → IsIn ids id → IsNeeded net roots id

-- all nodes of these writes are needed
abbrev pub AreWritesNeeded : Netlist → List ℕ → List MemWrite → Type 0
AreWritesNeeded net roots ws = (w : MemWrite) → IsIn ws w → AreNeeded net roots (write_nodes w)

-- each of these is in the list
abbrev pub AreIn : List ℕ → List ℕ → Type 0
AreIn list ids = (id : ℕ) → IsIn ids id → IsIn list id

-- more is found
pub record Goes (net : Netlist) (roots : List ℕ) (old new : Marks) : Type 0 where
  pub walks : Walks net roots new
  pub more : IsMore old new

-- all that a needed node makes needed is marked
pub record IsFollowed (net : Netlist) (m : Marks) (x : Node) : Type 0 where
  pub operands : (id : ℕ) → IsIn (operands x) id → IsIn m.list.items id
  pub next : (i : ℕ) (r : Reg) → x ≡ n.Reg i → slice_get net.regs i ≡ Some r → IsIn m.list.items r.next
  pub reg : (i : ℕ) → x ≡ n.Reg i → IsSet m.regs.items i
  pub mem : (k a : ℕ) → x ≡ n.Read k a → IsSet m.mems.items k

-- the needed nodes, registers and memories are marked, and no others
pub record AreNeeds (net : Netlist) (roots : List ℕ) (m : Marks) : Type 0 where
  pub each_node : length m.nodes.items ≡ length net.nodes
  pub each_reg : length m.regs.items ≡ length net.regs
  pub each_mem : length m.mems.items ≡ length net.mems
  pub nodes : (id : ℕ) → IsSet m.nodes.items id ↔ IsNeeded net roots id
  pub regs : (i : ℕ) → IsSet m.regs.items i ↔ IsNeededReg net roots i
  pub mems : (k : ℕ) → IsSet m.mems.items k ↔ IsNeededMem net roots k

-- the operands of marked nodes are marked
abbrev pub AreClosed : Netlist → List Bool → Type 0
AreClosed net marks =
    (user a : ℕ) (x : Node) → IsSet marks user → slice_get net.nodes user ≡ Some x → IsIn (operands x) a
    → IsSet marks a
