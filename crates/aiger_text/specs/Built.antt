-- Between functions: What the graph has while it is built, node by node of the text. Rule of this project.
use Rattle.std.specs.Prelude.{
  ◌≡◌,
  ℕ,
  ◌+◌,
  ◌*◌,
  ◌/◌,
  ◌%◌,
  ◌<◌,
  ◌≤◌,
  ◌⊎◌,
  Bool,
  false,
  ◌&&◌,
  List,
  length,
  slice_get,
  slice_index,
  Some,
}
use Rattle.bb_aig.specs.declared.node.AigNode.{AigNode}
use Rattle.bb_aig.specs.declared.node.AigNode.TheVariants as n
use Rattle.bb_aig.specs.Graph.{inputs_of, IsLit, lit_at}
use Rattle.aiger_text.specs.declared.wires.Wire.{Wire}

-- the literal in the graph of a literal of the text, by those of the text's nodes
abbrev pub moved : List ℕ → ℕ → ℕ
moved lits lit = slice_index lits (lit / 2) + lit % 2

-- an even literal of the graph
abbrev pub IsPlaced : List AigNode → ℕ → Type 0
IsPlaced graph lit = IsLit graph lit × (lit % 2 ≡ 0)

-- node 0 and so many inputs, of so many nodes
pub record Begins (inputs nodes : ℕ) (graph : List AigNode) (lits : List ℕ) : Type 0 where
  pub size : length lits ≡ nodes
  pub long : length graph ≡ inputs + 1
  pub count : inputs_of graph ≡ inputs
  pub first : (k : ℕ) → k < inputs → slice_get graph (k + 1) ≡ Some (n.Input k)
  pub placed : (i : ℕ) → i ≤ inputs → IsPlaced graph (slice_index lits i)
  pub constant : (x : ℕ → Bool) → lit_at graph x (slice_index lits 0) ≡ false
  pub given : (x : ℕ → Bool) (k : ℕ) → k < inputs → lit_at graph x (slice_index lits (k + 1)) ≡ x k

-- an input, or one of the first gates of the order
abbrev pub IsDone : ℕ → List ℕ → ℕ → ℕ → Type 0
IsDone inputs order a i = (i ≤ inputs)
    ⊎ ((b k : ℕ) × (b < a) × (slice_get order b ≡ Some k) × (i ≡ inputs + 1 + k))

-- the inputs and the first gates of the order
pub record Builds (inputs : ℕ) (wires : List Wire) (order : List ℕ) (a : ℕ) (graph : List AigNode) (lits : List ℕ)
    : Type 0 where
  pub size : length lits ≡ inputs + 1 + length wires
  pub long : length graph ≡ inputs + 1 + a
  pub count : inputs_of graph ≡ inputs
  pub first : (k : ℕ) → k < inputs → slice_get graph (k + 1) ≡ Some (n.Input k)
  pub placed : (i : ℕ) → IsDone inputs order a i → IsPlaced graph (slice_index lits i)
  pub constant : (x : ℕ → Bool) → lit_at graph x (slice_index lits 0) ≡ false
  pub given : (x : ℕ → Bool) (k : ℕ) → k < inputs → lit_at graph x (slice_index lits (k + 1)) ≡ x k
  -- of each of these gates, the operands stand before it, and it has the value of both
  pub used : (b k : ℕ) (w : Wire) → b < a → slice_get order b ≡ Some k → slice_get wires k ≡ Some w
      → IsDone inputs order b (w.left / 2) × IsDone inputs order b (w.right / 2)
  pub both : (x : ℕ → Bool) (b k : ℕ) (w : Wire) → b < a → slice_get order b ≡ Some k → slice_get wires k ≡ Some w
      → lit_at graph x (slice_index lits (inputs + 1 + k))
      ≡ (lit_at graph x (moved lits w.left) && lit_at graph x (moved lits w.right))
