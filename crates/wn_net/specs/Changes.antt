-- Meaning: What a call may do to a net (rule of this project).
use Rattle.std.specs.Prelude.{
  ◌≡◌,
  ℕ,
  zero,
  suc,
  ◌<◌,
  ◌≤◌,
  List,
  [],
  ◌∷◌,
  ◌++◌,
  length,
  take,
  map,
  slice_index,
}
use Rattle.wn_net.specs.declared.node.Node.{Node}
use Rattle.wn_net.specs.declared.node.Node.TheVariants as n
use Rattle.wn_net.specs.declared.parts.Reg.{Reg}
use Rattle.wn_net.specs.declared.parts.Mem.{Mem}
use Rattle.wn_net.specs.declared.parts.MemWrite.{MemWrite}
use Rattle.wn_net.specs.declared.parts.Input.{Input}
use Rattle.wn_net.specs.Width.{width}
use Rattle.wn_net.specs.Value.{Given, value}
use Rattle.wn_net.specs.Given.{IsGiven}
use Rattle.wn_net.specs.Net.{Netlist, IsNodeOf, shape_of, widths_of, values_of, width_at, value_at}

-- the second list begins with the first
abbrev pub IsBegun : {A : Type 0} → List A → List A → Type 0
IsBegun xs ys = take (length xs) ys ≡ xs

-- Each node that was there has its width and its values, and the numbers of the old net's cycles are numbers of the
-- new one's.
pub record Keeps (old new : Netlist) : Type 0 where
  pub longer : length old.nodes ≤ length new.nodes
  pub widths : (id : ℕ) → id < length old.nodes → width_at new id ≡ width_at old id
  pub values : (g : Given) (id : ℕ) → id < length old.nodes → value_at new g id ≡ value_at old g id
  pub given : (g : Given) → IsGiven old g → IsGiven new g

-- Nothing goes: nodes, inputs and assumptions are added behind those that were there, and each register and memory
-- that was there has its width and its start. Next nodes and writes may have changed.
pub record Grows (old new : Netlist) : Type 0 where
  pub nodes : IsBegun old.nodes new.nodes
  pub inputs : IsBegun old.inputs new.inputs
  pub assumes : IsBegun old.assumes new.assumes
  pub reg_widths : IsBegun (map (λ r. r.width) old.regs) (map (λ r. r.width) new.regs)
  pub reg_starts : IsBegun (map (λ r. r.init) old.regs) (map (λ r. r.init) new.regs)
  pub mem_widths : IsBegun (map (λ m. m.width) old.mems) (map (λ m. m.width) new.mems)
  pub mem_words : IsBegun (map (λ m. m.words) old.mems) (map (λ m. m.words) new.mems)
  pub mem_starts : IsBegun (map (λ m. m.init) old.mems) (map (λ m. m.init) new.mems)
  pub widths : (id : ℕ) → id < length old.nodes → width_at new id ≡ width_at old id
  pub values : (g : Given) (id : ℕ) → id < length old.nodes → value_at new g id ≡ value_at old g id

-- nodes and registers are added, each old register has its next node, and nothing else is changed
pub record AddsRegs (old new : Netlist) : Type 0 where
  pub nodes : IsBegun old.nodes new.nodes
  pub regs : IsBegun old.regs new.regs
  pub mems : new.mems ≡ old.mems
  pub inputs : new.inputs ≡ old.inputs
  pub assumes : new.assumes ≡ old.assumes
  pub widths : (id : ℕ) → id < length old.nodes → width_at new id ≡ width_at old id
  pub values : (g : Given) (id : ℕ) → id < length old.nodes → value_at new g id ≡ value_at old g id

-- nodes are added, and nothing else is changed
pub record AddsNodes (old new : Netlist) : Type 0 where
  pub nodes : IsBegun old.nodes new.nodes
  pub regs : new.regs ≡ old.regs
  pub mems : new.mems ≡ old.mems
  pub inputs : new.inputs ≡ old.inputs
  pub assumes : new.assumes ≡ old.assumes
  pub keeps : Keeps old new

-- exactly this node is added, with this number, width and meaning
pub record Builds (old new : Netlist) (node : Node) (bits : ℕ) (meaning : Given → ℕ) (id : ℕ) : Type 0 where
  pub last : id ≡ length old.nodes
  pub nodes : new.nodes ≡ old.nodes ++ node ∷ []
  pub width : width_at new id ≡ bits
  pub value : (g : Given) → value_at new g id ≡ meaning g
  pub adds : AddsNodes old new

-- The node is there with this width, and has this number in each cycle of the old net: what a function that adds
-- several nodes promises of the one that it answers.
pub record Shows (old new : Netlist) (bits : ℕ) (meaning : Given → ℕ) (id : ℕ) : Type 0 where
  pub node : IsNodeOf new bits id
  pub value : (g : Given) → IsGiven old g → value_at new g id ≡ meaning g

-- the width and the value that a node has behind those of the net
abbrev pub width_in : Netlist → Node → ℕ
width_in net node = width (shape_of net) (widths_of net) node

abbrev pub value_in : Netlist → Given → Node → ℕ
value_in net g node = value g (widths_of net) (values_of net g) node

-- the first nodes and registers of a net, and all else of it
abbrev pub cut_to : ℕ → ℕ → Netlist → Netlist
cut_to nodes regs net = record net { nodes = take nodes net.nodes; regs = take regs net.regs }

abbrev pub with_node : Netlist → Node → Netlist
with_node net node = record net { nodes = net.nodes ++ node ∷ [] }

-- an input is added, and the node that reads it, with this number
pub record BuildsInput (old new : Netlist) (input : Input) (id : ℕ) : Type 0 where
  pub last : id ≡ length old.nodes
  pub nodes : new.nodes ≡ old.nodes ++ n.Input (length old.inputs) ∷ []
  pub inputs : new.inputs ≡ old.inputs ++ input ∷ []
  pub regs : new.regs ≡ old.regs
  pub mems : new.mems ≡ old.mems
  pub assumes : new.assumes ≡ old.assumes
  pub width : width_at new id ≡ input.width
  pub value : (g : Given) → value_at new g id ≡ slice_index g.inputs (length old.inputs)
  pub grows : Grows old new

-- a register is added, and the node that reads it, with this number
pub record BuildsReg (old new : Netlist) (reg : Reg) (id : ℕ) : Type 0 where
  pub last : id ≡ length old.nodes
  pub nodes : new.nodes ≡ old.nodes ++ n.Reg (length old.regs) ∷ []
  pub regs : new.regs ≡ old.regs ++ reg ∷ []
  pub inputs : new.inputs ≡ old.inputs
  pub mems : new.mems ≡ old.mems
  pub assumes : new.assumes ≡ old.assumes
  pub width : width_at new id ≡ reg.width
  pub value : (g : Given) → value_at new g id ≡ slice_index g.state.regs (length old.regs)
  pub grows : Grows old new

-- a memory is added
abbrev pub with_mem : Netlist → Mem → Netlist
with_mem net m = record net { mems = net.mems ++ m ∷ [] }

-- the register at the place has another next value
abbrev pub with_next : ℕ → ℕ → List Reg → List Reg
with_next i next [] = []
with_next zero next (r ∷ rs) = record r { next = next } ∷ rs
with_next (suc i) next (r ∷ rs) = r ∷ with_next i next rs

-- the memory at the place has one more write behind the others
abbrev pub with_write : ℕ → MemWrite → List Mem → List Mem
with_write i w [] = []
with_write zero w (m ∷ ms) = record m { writes = m.writes ++ w ∷ [] } ∷ ms
with_write (suc i) w (m ∷ ms) = m ∷ with_write i w ms

-- the widths of a register and of the words of a memory
abbrev pub reg_width : Netlist → ℕ → ℕ
reg_width net i = slice_index (shape_of net).regs i

abbrev pub mem_width : Netlist → ℕ → ℕ
mem_width net m = slice_index (shape_of net).mems m
