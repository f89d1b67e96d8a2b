-- Between functions: Graphs to which edges are added. Rule of this project.
use Rattle.std.specs.Prelude.{◌≡◌, ℕ, List, length}
use Rattle.std.proofs.Common.{◌⊎◌}
use Rattle.fv_graph.specs.Graph.{Leads}

pub record HasNoEdges (count : ℕ) (graph : List (List ℕ)) : Type 0 where
  pub size : length graph ≡ count
  pub none : (i j : ℕ) → Leads graph i j → ⊥

-- one edge more
pub record AddsEdge (before : List (List ℕ)) (i j : ℕ) (after : List (List ℕ)) : Type 0 where
  pub size : length after ≡ length before
  pub kept : (a b : ℕ) → Leads before a b → Leads after a b
  pub added : Leads after i j
  pub only : (a b : ℕ) → Leads after a b → Leads before a b ⊎ ((a ≡ i) × (b ≡ j))

-- edges that are added have the property
pub record Grows (P : ℕ → ℕ → Type 0) (before after : List (List ℕ)) : Type 0 where
  pub size : length after ≡ length before
  pub kept : (a b : ℕ) → Leads before a b → Leads after a b
  pub only : (a b : ℕ) → Leads after a b → Leads before a b ⊎ P a b
