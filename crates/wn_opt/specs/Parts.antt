-- Between functions: A part of a net that is being made (rule of this project).
use Rattle.std.specs.Prelude.{◌≡◌, ℕ, ◌+◌, ◌<◌, ◌≤◌, Bool, false, List, [], ◌++◌, Some, Option}
use Rattle.std.specs.Prelude.{length, map, take, slice_get}
use Rattle.wn_net.specs.declared.node.Node.{Node}
use Rattle.wn_net.specs.declared.node.Node.TheVariants as n
use Rattle.wn_net.specs.declared.parts.Input.{Input}
use Rattle.wn_net.specs.declared.parts.Reg.{Reg}
use Rattle.wn_net.specs.declared.parts.Mem.{Mem}
use Rattle.wn_net.specs.declared.parts.MemWrite.{MemWrite}
use Rattle.wn_net.specs.Net.{Netlist, IsNodeOf, IsWriteOf, width_at}
use Rattle.wn_opt.specs.Needed.{IsIn, operands, write_nodes}
use Rattle.wn_opt.specs.Cone.{IsPlace, HasPlace, place, places_of, renamed, renamed_write}
use Rattle.wn_opt.specs.Marks.{IsSet}

-- ---- inputs, registers and memories

abbrev pub without_writes : Mem → Mem
without_writes m = record m { writes = [] }

abbrev pub with_next_node : ℕ → Reg → Reg
with_next_node next r = record r { next = next }

-- The first inputs, registers and memories of a net are there: the node of each input and of each register, which is
-- its own next value, and the memories without writes.
pub record HasParts (net part : Netlist) (inputs regs mems : ℕ) : Type 0 where
  pub nodes_each : length part.nodes ≡ inputs + regs
  pub input_nodes : (i : ℕ) → i < inputs → slice_get part.nodes i ≡ Some (n.Input i)
  pub reg_nodes : (i : ℕ) → i < regs → slice_get part.nodes (length net.inputs + i) ≡ Some (n.Reg i)
  pub input_widths : (i : ℕ) (x : Input) → i < inputs → slice_get net.inputs i ≡ Some x → IsNodeOf part x.width i
  pub reg_widths : (i : ℕ) (r : Reg) → i < regs → slice_get net.regs i ≡ Some r
      → IsNodeOf part r.width (length net.inputs + i)
  pub inputs_are : part.inputs ≡ take inputs net.inputs
  pub regs_each : length part.regs ≡ regs
  pub regs_are : (i : ℕ) (r : Reg) → i < regs → slice_get net.regs i ≡ Some r
      → slice_get part.regs i ≡ Some (with_next_node (length net.inputs + i) r)
  pub mems_are : part.mems ≡ map without_writes (take mems net.mems)
  pub assumes_are : part.assumes ≡ []

-- the node of each input and of each register is there with its width, and each memory has its width
pub record IsFront (net part : Netlist) : Type 0 where
  pub input_nodes : (i : ℕ) → i < length net.inputs → slice_get part.nodes i ≡ Some (n.Input i)
  pub reg_nodes : (i : ℕ) → i < length net.regs → slice_get part.nodes (length net.inputs + i) ≡ Some (n.Reg i)
  pub input_widths : (i : ℕ) (x : Input) → slice_get net.inputs i ≡ Some x → IsNodeOf part x.width i
  pub reg_widths : (i : ℕ) (r : Reg) → slice_get net.regs i ≡ Some r → IsNodeOf part r.width (length net.inputs + i)
  pub mem_widths : map (λ m. m.width) part.mems ≡ map (λ m. m.width) net.mems

-- what of it stays while nodes are added
pub record IsFrame (net part : Netlist) : Type 0 where
  pub input_nodes : (i : ℕ) → i < length net.inputs → slice_get part.nodes i ≡ Some (n.Input i)
  pub reg_nodes : (i : ℕ) → i < length net.regs → slice_get part.nodes (length net.inputs + i) ≡ Some (n.Reg i)
  pub input_widths : (i : ℕ) (x : Input) → slice_get net.inputs i ≡ Some x → IsNodeOf part x.width i
  pub reg_widths : (i : ℕ) (r : Reg) → slice_get net.regs i ≡ Some r → IsNodeOf part r.width (length net.inputs + i)
  pub inputs : part.inputs ≡ net.inputs
  pub regs_each : length part.regs ≡ length net.regs
  pub regs : (i : ℕ) (r : Reg) → slice_get net.regs i ≡ Some r
      → slice_get part.regs i ≡ Some (with_next_node (length net.inputs + i) r)
  pub mems : part.mems ≡ map without_writes net.mems
  pub assumes : part.assumes ≡ []

-- ---- nodes

-- nodes may be added behind the others, and nothing else is changed
pub record AddsBehind (old new : Netlist) : Type 0 where
  pub front : (at : ℕ) (x : Node) → slice_get old.nodes at ≡ Some x → slice_get new.nodes at ≡ Some x
  pub widths : (width at : ℕ) → IsNodeOf old width at → IsNodeOf new width at
  pub inputs : new.inputs ≡ old.inputs
  pub regs : new.regs ≡ old.regs
  pub mems : new.mems ≡ old.mems
  pub assumes : new.assumes ≡ old.assumes

-- no node has a new number
abbrev pub HasNoPlaces : List (Option ℕ) → Type 0
HasNoPlaces table = (id : ℕ) → HasPlace table id → ⊥

-- Of the first so many nodes the marked ones have new numbers. Those that have new numbers are marked, and stand under
-- them, with their widths; what they read has new numbers too; behind the nodes of inputs and registers stand no others.
pub record AreCopiedTo (net : Netlist) (marks : List Bool) (part : Netlist) (table : List (Option ℕ))
    (count : ℕ) : Type 0 where
  pub marked : (id : ℕ) → HasPlace table id → IsSet marks id
  pub placed : (id : ℕ) → id < count → IsSet marks id → HasPlace table id
  pub nodes : (id at : ℕ) (x : Node) → IsPlace table id at → slice_get net.nodes id ≡ Some x
      → slice_get part.nodes at ≡ Some (renamed table x)
  pub widths : (id at : ℕ) → IsPlace table id at → IsNodeOf part (width_at net id) at
  pub others : (at : ℕ) → length net.inputs + length net.regs ≤ at → at < length part.nodes
      → (id : ℕ) × IsPlace table id at
  pub closed : (user at a : ℕ) (x : Node) → IsPlace table user at → slice_get net.nodes user ≡ Some x
      → IsIn (operands x) a → HasPlace table a

-- of all nodes
abbrev pub AreCopied : Netlist → List Bool → Netlist → List (Option ℕ) → Type 0
AreCopied net marks part table = AreCopiedTo net marks part table (length table)

-- each of these has a new number
abbrev pub ArePlaced : List (Option ℕ) → List ℕ → Type 0
ArePlaced table ids = (id : ℕ) → IsIn ids id → HasPlace table id

abbrev pub AreBelow : List ℕ → ℕ → Type 0
AreBelow ids count = (id : ℕ) → IsIn ids id → id < count

-- ---- next values, writes and assumptions

-- all but registers, memories and assumptions is as before
pub record HasSameNodes (old new : Netlist) : Type 0 where
  pub nodes : new.nodes ≡ old.nodes
  pub inputs : new.inputs ≡ old.inputs
  pub widths : (id : ℕ) → id < length old.nodes → width_at new id ≡ width_at old id

-- each register is there, with some next node
abbrev pub HasRegs : Netlist → Netlist → Type 0
HasRegs net part =
    (i : ℕ) (r : Reg) → slice_get net.regs i ≡ Some r
    → (next : ℕ) × (slice_get part.regs i ≡ Some (with_next_node next r))

-- the marked ones of the first registers have their next nodes, and the others are as before
pub record HasNexts (net : Netlist) (marks : List Bool) (table : List (Option ℕ)) (old new : Netlist)
    (count : ℕ) : Type 0 where
  pub same : HasSameNodes old new
  pub mems : new.mems ≡ old.mems
  pub assumes : new.assumes ≡ old.assumes
  pub each : length new.regs ≡ length old.regs
  pub regs : (i : ℕ) (r : Reg) → i < count → IsSet marks i → slice_get net.regs i ≡ Some r
      → slice_get new.regs i ≡ Some (with_next_node (place table r.next) r)
  pub kept : (i : ℕ) → (i < count → IsSet marks i → ⊥) → slice_get new.regs i ≡ slice_get old.regs i

-- the next node of each marked register has a new number
abbrev pub AreNextsPlaced : Netlist → List Bool → List (Option ℕ) → Type 0
AreNextsPlaced net marks table =
    (i : ℕ) (r : Reg) → IsSet marks i → slice_get net.regs i ≡ Some r → HasPlace table r.next

-- writes are added to a memory
pub record AddsWrites (old new : Netlist) (m : ℕ) (ws : List MemWrite) : Type 0 where
  pub same : HasSameNodes old new
  pub regs : new.regs ≡ old.regs
  pub assumes : new.assumes ≡ old.assumes
  pub each : length new.mems ≡ length old.mems
  pub here : (x : Mem) → slice_get old.mems m ≡ Some x
      → slice_get new.mems m ≡ Some (record x { writes = x.writes ++ ws })
  pub others : (k : ℕ) → (k ≡ m → ⊥) → slice_get new.mems k ≡ slice_get old.mems k

-- writes fit behind the new nodes
abbrev pub AreWritesFit : Netlist → ℕ → List (Option ℕ) → List MemWrite → Type 0
AreWritesFit part width table ws = (w : MemWrite) → IsIn ws w → IsWriteOf part width (renamed_write table w)

-- what writes name has a new number
abbrev pub AreWritesPlaced : List (Option ℕ) → List MemWrite → Type 0
AreWritesPlaced table ws = (w : MemWrite) → IsIn ws w → ArePlaced table (write_nodes w)

-- and so for those of each marked memory
abbrev pub AreMemsPlaced : Netlist → List Bool → List (Option ℕ) → Type 0
AreMemsPlaced net marks table =
    (m : ℕ) (x : Mem) → IsSet marks m → slice_get net.mems m ≡ Some x → AreWritesPlaced table x.writes

-- each marked memory is there, without writes
abbrev pub AreBare : Netlist → List Bool → Netlist → Type 0
AreBare net marks part =
    (m : ℕ) (x : Mem) → IsSet marks m → slice_get net.mems m ≡ Some x → slice_get part.mems m ≡ Some (without_writes x)

-- the marked ones of the first memories have their writes, and the others are as before
pub record HasWrites (net : Netlist) (marks : List Bool) (table : List (Option ℕ)) (old new : Netlist)
    (count : ℕ) : Type 0 where
  pub same : HasSameNodes old new
  pub regs : new.regs ≡ old.regs
  pub assumes : new.assumes ≡ old.assumes
  pub each : length new.mems ≡ length old.mems
  pub mems : (m : ℕ) (x : Mem) → m < count → IsSet marks m → slice_get net.mems m ≡ Some x
      → slice_get new.mems m ≡ Some (record x { writes = map (renamed_write table) x.writes })
  pub kept : (m : ℕ) → (m < count → IsSet marks m → ⊥) → slice_get new.mems m ≡ slice_get old.mems m

-- of the first so many marks those are set that are set in the first list and not in the second
pub record AreFresh (marks before fresh : List Bool) (count : ℕ) : Type 0 where
  pub each : length fresh ≡ count
  pub set : (i : ℕ) → IsSet fresh i → IsSet marks i × (slice_get before i ≡ Some false)
  pub found : (i : ℕ) → i < count → IsSet marks i → slice_get before i ≡ Some false → IsSet fresh i

-- the kept ones of the first assumptions are there
pub record HasAssumes (net : Netlist) (table : List (Option ℕ)) (old new : Netlist) (count : ℕ) : Type 0 where
  pub same : HasSameNodes old new
  pub regs : new.regs ≡ old.regs
  pub mems : new.mems ≡ old.mems
  pub assumes : new.assumes ≡ old.assumes ++ places_of table (take count net.assumes)
