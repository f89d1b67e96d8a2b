-- Meaning: And-inverter graphs: lists of nodes and their values. Literals are numbered as in the AIGER format (Biere,
-- 2007): 2 * n for node n, and 2 * n + 1 for its complement; node 0 is false.
use Rattle.std.specs.Prelude.{
  ◌≡◌,
  ℕ,
  ◌+◌,
  ◌-◌,
  ◌*◌,
  ◌/◌,
  ◌%◌,
  ◌<◌,
  ◌≤◌,
  ◌^◌,
  ◌==◌,
  Bool,
  true,
  false,
  not,
  ◌&&◌,
}
use Rattle.std.specs.Prelude.{if◌then◌else◌, List, [], ◌∷◌, ◌++◌, length, slice_index_or}
use Rattle.bb_aig.specs.declared.node.AigNode.{AigNode}
use Rattle.bb_aig.specs.declared.node.AigNode.TheVariants as n

-- ---- values

-- an odd literal is negated
abbrev pub is_negated : ℕ → Bool
is_negated lit = lit % 2 == 1

-- the other value where the test holds
abbrev pub turned : Bool → Bool → Bool
turned true b = not b
turned false b = b

-- the value of a literal, by the values of the nodes
abbrev pub literal : List Bool → ℕ → Bool
literal vs lit = turned (is_negated lit) (slice_index_or vs (lit / 2) false)

-- the other literal of the node
abbrev pub complement : ℕ → ℕ
complement lit = if is_negated lit then lit - 1 else lit + 1

-- the value of a node, by those of the inputs and of the nodes before it
abbrev pub value : (ℕ → Bool) → List Bool → AigNode → Bool
value x vs n.False = false
value x vs (n.Input i) = x i
value x vs (n.And a b) = literal vs a && literal vs b

-- the values of nodes, behind those of the nodes before them
abbrev pub values : (ℕ → Bool) → List Bool → List AigNode → List Bool
values x vs [] = vs
values x vs (g ∷ gs) = values x (vs ++ value x vs g ∷ []) gs

-- the value of each node, where the inputs have these values
abbrev pub values_of : List AigNode → (ℕ → Bool) → List Bool
values_of graph x = values x [] graph

-- the value of a literal there
abbrev pub lit_at : List AigNode → (ℕ → Bool) → ℕ → Bool
lit_at graph x lit = literal (values_of graph x) lit

-- the values of a list of inputs; false past the last
abbrev pub of_list : List Bool → ℕ → Bool
of_list inputs i = slice_index_or inputs i false

-- ---- graphs

-- a literal of a node that is there
abbrev pub IsLit : List AigNode → ℕ → Type 0
IsLit graph lit = lit < 2 * length graph

-- behind so many nodes, so many inputs among them: an input has the next number, and what a gate reads is there
abbrev pub IsFitting : ℕ → ℕ → AigNode → Type 0
IsFitting count inputs n.False = count ≡ 0
IsFitting count inputs (n.Input i) = i ≡ inputs
IsFitting count inputs (n.And a b) = (a < 2 * count) × (b < 2 * count)

abbrev pub inputs_after : ℕ → AigNode → ℕ
inputs_after inputs n.False = inputs
inputs_after inputs (n.Input i) = inputs + 1
inputs_after inputs (n.And a b) = inputs

abbrev pub AreFitting : ℕ → ℕ → List AigNode → Type 0
AreFitting count inputs [] = Unit {0}
AreFitting count inputs (g ∷ gs) = IsFitting count inputs g × AreFitting (count + 1) (inputs_after inputs g) gs

-- the first node is false
abbrev pub Begins : List AigNode → Type 0
Begins [] = ⊥
Begins (g ∷ gs) = g ≡ n.False

-- what holds of each graph
pub record IsGraph (graph : List AigNode) : Type 0 where
  pub begins : Begins graph
  pub fitting : AreFitting 0 0 graph

-- how many inputs there are, so many of them before these nodes
abbrev pub count_inputs : ℕ → List AigNode → ℕ
count_inputs inputs [] = inputs
count_inputs inputs (g ∷ gs) = count_inputs (inputs_after inputs g) gs

abbrev pub inputs_of : List AigNode → ℕ
inputs_of graph = count_inputs 0 graph

-- exactly this node is added, with this literal: each literal that was there keeps its value
pub record Adds (old new : List AigNode) (node : AigNode) (lit : ℕ) : Type 0 where
  pub nodes : new ≡ old ++ node ∷ []
  pub place : lit ≡ 2 * length old
  pub kept : (x : ℕ → Bool) (other : ℕ) → IsLit old other → lit_at new x other ≡ lit_at old x other
  pub value : (x : ℕ → Bool) → lit_at new x lit ≡ value x (values_of old x) node

-- what a graph keeps beside its nodes: the number of inputs
pub record IsKept (graph : List AigNode) (stored : ℕ) : Type 0 where
  pub whole : IsGraph graph
  pub counted : stored ≡ inputs_of graph
  pub few : length graph ≤ 2 ^ 62
