-- Meaning: Nets: nodes over inputs, registers and memories (rule of this project).
use Rattle.std.specs.Prelude.{◌≡◌, ℕ, ◌<◌, ◌≤◌, ◌^◌, List, [], map, length, slice_index}
use Rattle.std.specs.List.{AllByRecursion}
use Rattle.wn_net.specs.declared.node.Node.{Node}
use Rattle.wn_net.specs.declared.parts.Reg.{Reg}
use Rattle.wn_net.specs.declared.parts.Init.{Init}
use Rattle.wn_net.specs.declared.parts.Init.TheVariants.{Free, Known}
use Rattle.wn_net.specs.declared.parts.Mem.{Mem}
use Rattle.wn_net.specs.declared.parts.MemWrite.{MemWrite}
use Rattle.wn_net.specs.declared.parts.Input.{Input}
use Rattle.wn_net.specs.Width.{Shape, IsWidth, AreFitting, widths}
use Rattle.wn_net.specs.Value.{Given, values}

pub record Netlist : Type 0 where
  pub nodes : List Node
  pub regs : List Reg
  pub mems : List Mem
  pub inputs : List Input
  pub assumes : List ℕ

abbrev pub shape_of : Netlist → Shape
shape_of net = record {
  inputs = map (λ i. i.width) net.inputs;
  regs = map (λ r. r.width) net.regs;
  mems = map (λ m. m.width) net.mems;
}

-- the width of each node
abbrev pub widths_of : Netlist → List ℕ
widths_of net = widths (shape_of net) [] net.nodes

-- a contract knows it by laws alone, and a proof by its body where it says so
unfoldable pub width_at : Netlist → ℕ → ℕ
width_at net id = slice_index (widths_of net) id

-- the value of each node in a cycle
abbrev pub values_of : Netlist → Given → List ℕ
values_of net g = values (shape_of net) g [] [] net.nodes

unfoldable pub value_at : Netlist → Given → ℕ → ℕ
value_at net g id = slice_index (values_of net g) id

-- The condition that a number is one of this net: it names a node that is there.
abbrev pub IsNode : Netlist → ℕ → Type 0
IsNode net id = id < length net.nodes

-- and that the node has a width
abbrev pub IsNodeOf : Netlist → ℕ → ℕ → Type 0
IsNodeOf net width id = IsNode net id × (width_at net id ≡ width)

abbrev pub AreNodes : Netlist → List ℕ → Type 0
AreNodes net ids = AllByRecursion (IsNode net) ids

abbrev pub AreNodesOf : Netlist → ℕ → List ℕ → Type 0
AreNodesOf net width ids = AllByRecursion (IsNodeOf net width) ids

-- each with its own width, as (width, number)
abbrev pub AreNodesWith : Netlist → List (ℕ × ℕ) → Type 0
AreNodesWith net ids = AllByRecursion (λ p. IsNodeOf net p.0 p.1) ids

-- a known number has the width
abbrev pub IsInitOf : ℕ → Init → Type 0
IsInitOf width Free = Unit {0}
IsInitOf width (Known number) = number < 2 ^ width

pub record IsRegOf (net : Netlist) (r : Reg) : Type 0 where
  pub width : IsWidth r.width
  pub init : IsInitOf r.width r.init
  pub next : IsNodeOf net r.width r.next

-- a write to a memory with words of a width
pub record IsWriteOf (net : Netlist) (width : ℕ) (w : MemWrite) : Type 0 where
  pub enable : IsNodeOf net 1 w.enable
  pub addr : IsNode net w.addr
  pub mask : IsNodeOf net width w.mask
  pub value : IsNodeOf net width w.value

pub record IsMemOf (net : Netlist) (m : Mem) : Type 0 where
  pub width : IsWidth m.width
  pub words : 1 ≤ m.words
  pub each : length m.init ≡ m.words
  pub init : AllByRecursion (IsInitOf m.width) m.init
  pub writes : AllByRecursion (IsWriteOf net m.width) m.writes

-- what holds of each net
pub record IsNet (net : Netlist) : Type 0 where
  pub nodes : AreFitting (shape_of net) [] net.nodes
  pub regs : AllByRecursion (IsRegOf net) net.regs
  pub mems : AllByRecursion (IsMemOf net) net.mems
  pub inputs : AllByRecursion (λ i. IsWidth i.width) net.inputs
  pub assumes : AreNodes net net.assumes
  pub few_regs : length net.regs < 2 ^ 32
  pub few_mems : length net.mems < 2 ^ 32
  pub few_inputs : length net.inputs < 2 ^ 32

-- what a net keeps beside what it shows: the width of each node
pub record IsKept (net : Netlist) (stored : List ℕ) : Type 0 where
  pub whole : IsNet net
  pub widths : stored ≡ widths_of net
