-- Between functions: Nodes that lead to others, an order of them in which each stands behind those that it leads to,
-- and circles. Rule of this project.
use Rattle.std.specs.Prelude.{◌≡◌, ℕ, ◌<◌, ◌==◌, List, [], ◌∷◌, length, Bool, true, false}
use Rattle.std.specs.Prelude.{◌||◌}
use Rattle.std.specs.Prelude.{Option, Some, None, slice_get}

abbrev pub or_empty : Option (List ℕ) → List ℕ
or_empty None = []
or_empty (Some targets) = targets

-- where a node leads
abbrev pub targets : List (List ℕ) → ℕ → List ℕ
targets graph i = or_empty (slice_get graph i)

-- one of its targets is j
abbrev pub Leads : List (List ℕ) → ℕ → ℕ → Type 0
Leads graph i j = (k : ℕ) × (slice_get (targets graph i) k ≡ Some j)

abbrev pub has_node : List ℕ → ℕ → Bool
has_node [] i = false
has_node (j ∷ js) i = (i == j) || has_node js i

-- each node leads to nodes of the graph
abbrev pub IsWithin : List (List ℕ) → Type 0
IsWithin graph = (i j : ℕ) → Leads graph i j → j < length graph

-- each node stands once, behind all that it leads to
pub record IsOrder (graph : List (List ℕ)) (order : List ℕ) : Type 0 where
  pub only : (a i : ℕ) → slice_get order a ≡ Some i → i < length graph
  pub all : (i : ℕ) → i < length graph → has_node order i ≡ true
  pub once : (a b i : ℕ) → slice_get order a ≡ Some i → slice_get order b ≡ Some i → a ≡ b
  pub behind : (a b i j : ℕ) → slice_get order a ≡ Some i → slice_get order b ≡ Some j → Leads graph i j
      → b < a

-- each leads to the next one
abbrev pub IsChain : List (List ℕ) → ℕ → List ℕ → Type 0
IsChain graph i [] = Unit {0}
IsChain graph i (j ∷ js) = Leads graph i j × IsChain graph j js

abbrev pub last_node : ℕ → List ℕ → ℕ
last_node i [] = i
last_node i (j ∷ js) = last_node j js

-- each leads to the next one, and the last one to the first
abbrev pub IsCircle : List (List ℕ) → List ℕ → Type 0
IsCircle graph [] = ⊥
IsCircle graph (i ∷ is) = IsChain graph i is × Leads graph (last_node i is) i

-- no node stands twice
abbrev pub StandOnce : List ℕ → Type 0
StandOnce nodes = (a b i : ℕ) → slice_get nodes a ≡ Some i → slice_get nodes b ≡ Some i → a ≡ b

-- a circle that has each of its nodes once
abbrev pub IsSimpleCircle : List (List ℕ) → List ℕ → Type 0
IsSimpleCircle graph nodes = IsCircle graph nodes × StandOnce nodes
