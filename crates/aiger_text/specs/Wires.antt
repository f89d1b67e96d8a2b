-- Between functions: The output and the gates of a text by nodes in place of variables: node 0 is false, behind it
-- stand the inputs and then the gates, in the order of lines. Rule of this project.
use Rattle.std.specs.Prelude.{
  ◌≡◌,
  ℕ,
  ◌+◌,
  ◌-◌,
  ◌*◌,
  ◌/◌,
  ◌%◌,
  ◌<◌,
  ◌^◌,
  Bool,
  false,
  ◌&&◌,
  nat_eq,
  nat_lt,
  ◌==◌,
  if◌then◌else◌,
  List,
  [],
  ◌∷◌,
  ◌++◌,
  length,
  map,
  slice_get,
}
use Rattle.std.specs.Prelude.{position, option_map, Option, Some, None}
use Rattle.bb_aig.specs.declared.node.AigNode.{AigNode}
use Rattle.bb_aig.specs.declared.node.AigNode.TheVariants as n
use Rattle.bb_aig.specs.Graph.{is_negated, turned, inputs_of, IsLit, lit_at}
use Rattle.fv_graph.specs.Graph.{IsWithin}
use Rattle.aiger_text.specs.declared.fault.AagFault.{AagFault}
use Rattle.aiger_text.specs.declared.fault.AagFault.TheVariants.{Undefined, Loop}
use Rattle.aiger_text.specs.declared.gate.Gate.{Gate}
use Rattle.aiger_text.specs.declared.wires.Wire.{Wire}
use Rattle.aiger_text.specs.Faults.{OrMemory}
use Rattle.aiger_text.specs.Circles.{IsFirstOnCircle}
use Rattle.aiger_text.specs.Header.{if_some}
use Rattle.aiger_text.specs.Said.{Said, variable, variables}

-- a literal, by the node of its variable: the first of these variables is node 1. None where it isn't among them
abbrev pub wire_end : List ℕ → ℕ → Option ℕ
wire_end vs literal =
    if variable literal == 0 then Some (literal % 2)
    else option_map (λ i. 2 * (i + 1) + literal % 2) (position (nat_eq (variable literal)) vs)

-- the operands of a gate
abbrev pub wire_of : List ℕ → Gate → Option Wire
wire_of vs g =
    if_some (wire_end vs g.left) (λ left. if_some (wire_end vs g.right)
    (λ right. Some (record { line = g.line; left = left; right = right })))

-- an answer that isn't for want of memory names this line
abbrev pub IsUndefined : Option ℕ → AagFault → Type 0
IsUndefined place e = OrMemory e ((line : ℕ) × (e ≡ Undefined line) × (place ≡ Some line))

pub record IsWired (said : Said) (inputs root : ℕ) (wires : List Wire) : Type 0 where
  pub count : inputs ≡ length said.inputs
  pub root_is : wire_end (variables said) said.output.literal ≡ Some root
  pub wires_are : map (λ w. Some w) wires ≡ map (wire_of (variables said)) said.gates
  pub few : length (variables said) < 2 ^ 32

-- ---- gates that use one another, by their numbers from 0

abbrev pub gate_target : ℕ → ℕ → List ℕ
gate_target inputs lit = if nat_lt inputs (lit / 2) then (lit / 2 - inputs - 1) ∷ [] else []

-- the gates that a gate uses
abbrev pub row_of : ℕ → Wire → List ℕ
row_of inputs w = gate_target inputs w.left ++ gate_target inputs w.right

abbrev pub successors : ℕ → List Wire → List (List ℕ)
successors inputs wires = map (row_of inputs) wires

-- the operands are nodes of so few
abbrev pub IsFew : Wire → Type 0
IsFew w = (w.left < 2 ^ 33) × (w.right < 2 ^ 33)

-- all literals are of nodes, of which there are few
pub record AreNodes (inputs root : ℕ) (wires : List Wire) : Type 0 where
  pub few : inputs + length wires < 2 ^ 32
  pub root_there : root / 2 < inputs + 1 + length wires
  pub left_there : (k : ℕ) (w : Wire) → slice_get wires k ≡ Some w → w.left / 2 < inputs + 1 + length wires
  pub right_there : (k : ℕ) (w : Wire) → slice_get wires k ≡ Some w → w.right / 2 < inputs + 1 + length wires
  pub within : IsWithin (successors inputs wires)

-- an answer that isn't for want of memory names the line of the first gate on a circle
abbrev pub IsLooped : ℕ → List Wire → AagFault → Type 0
IsLooped inputs wires e = OrMemory e ((k : ℕ) × (w : Wire) × IsFirstOnCircle (successors inputs wires) (Some k)
    × (slice_get wires k ≡ Some w) × (e ≡ Loop w.line))

-- ---- values

abbrev pub wire_value : (ℕ → Bool) → ℕ → Bool
wire_value u lit = turned (is_negated lit) (u (lit / 2))

-- values of nodes, where the inputs have these values
pub record MeetsWires (inputs : ℕ) (wires : List Wire) (x u : ℕ → Bool) : Type 0 where
  pub constant : u 0 ≡ false
  pub given : (k : ℕ) → k < inputs → u (k + 1) ≡ x k
  pub gates : (k : ℕ) (w : Wire) → slice_get wires k ≡ Some w
      → u (inputs + 1 + k) ≡ (wire_value u w.left && wire_value u w.right)

-- a graph whose literal has the value of the root
pub record IsBuilt (inputs root : ℕ) (wires : List Wire) (graph : List AigNode) (lit : ℕ) : Type 0 where
  pub count : inputs_of graph ≡ inputs
  pub first : (k : ℕ) → k < inputs → slice_get graph (k + 1) ≡ Some (n.Input k)
  pub nodes : length graph ≡ 1 + inputs + length wires
  pub literal : IsLit graph lit
  pub some : (x : ℕ → Bool) → (u : ℕ → Bool) × MeetsWires inputs wires x u
  pub same : (x u : ℕ → Bool) → MeetsWires inputs wires x u → wire_value u root ≡ lit_at graph x lit
