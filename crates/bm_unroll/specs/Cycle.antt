-- Between functions: One cycle of a net as nodes of another net, the frames (rule of this project).
use Rattle.std.specs.Prelude.{◌≡◌, ℕ, List, map}
use Rattle.wn_net.specs.declared.node.Node.{Node}
use Rattle.wn_net.specs.declared.parts.State.{State}
use Rattle.wn_net.specs.Width.{Shape, width, IsFitting}
use Rattle.wn_net.specs.Value.{Given, value}
use Rattle.wn_net.specs.Given.{IsGiven, given}
use Rattle.wn_net.specs.Net.{Netlist, IsNode, AreNodes, shape_of, width_at, value_at}
use Rattle.wn_mem.specs.Words.{numbers_of}
use Rattle.bm_unroll.specs.Memories.{AreMemories, memory_numbers, memory_width}
use Rattle.bm_unroll.specs.declared.state.StateNodes.{StateNodes}

abbrev pub widths_at : Netlist → List ℕ → List ℕ
widths_at net ids = map (width_at net) ids

-- nodes are there for the registers and for the words of the memories
pub record AreStateNodes (net : Netlist) (state : StateNodes) : Type 0 where
  pub regs : AreNodes net state.regs
  pub mems : AreMemories net state.mems

-- the shape of a net for which these nodes stand
abbrev pub shape_by : Netlist → List ℕ → StateNodes → Shape
shape_by net inputs state = record {
  inputs = widths_at net inputs;
  regs = widths_at net state.regs;
  mems = map (memory_width net) state.mems;
}

-- the numbers of the state for which these nodes stand
abbrev pub state_by : Netlist → Given → StateNodes → State
state_by net g state =
    record { regs = numbers_of net g state.regs; mems = map (memory_numbers net g) state.mems }

-- and those of the cycle
abbrev pub given_by : Netlist → Given → List ℕ → StateNodes → Given
given_by net g inputs state = given (numbers_of net g inputs) (state_by net g state)

-- these nodes of the frames are there, and have the widths of the inputs, the registers and the memories of a net
pub record StandFor (frames net : Netlist) (inputs : List ℕ) (state : StateNodes) : Type 0 where
  pub inputs_there : AreNodes frames inputs
  pub state_there : AreStateNodes frames state
  pub shape : shape_of net ≡ shape_by frames inputs state

-- what stands for inputs, state and the nodes before is there, and the node fits
pub record IsCopyable (net : Netlist) (inputs : List ℕ) (state : StateNodes) (table : List ℕ) (node : Node) : Type
    0 where
  pub inputs_there : AreNodes net inputs
  pub state_there : AreStateNodes net state
  pub table_there : AreNodes net table
  pub fits : IsFitting (shape_by net inputs state) (widths_at net table) node

-- a node stands for a node of the cycle, behind those of a table
pub record Copies (old new : Netlist) (inputs : List ℕ) (state : StateNodes) (table : List ℕ) (node : Node) (id :
    ℕ) : Type 0 where
  pub there : IsNode new id
  pub bits : width_at new id ≡ width (shape_by old inputs state) (widths_at old table) node
  pub number : (g : Given) → IsGiven old g
      → value_at new g id ≡ value (given_by old g inputs state) (widths_at old table) (numbers_of old g table) node
