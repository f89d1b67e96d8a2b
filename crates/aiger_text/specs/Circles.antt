-- Between functions: Which nodes stand on a circle. Rule of this project.
use Rattle.std.specs.Prelude.{◌≡◌, ℕ, ◌+◌, ◌<◌, ◌≤◌, ◌⊎◌, Bool, true, false, if◌then◌else◌, List, [], ◌∷◌, ◌++◌}
use Rattle.std.specs.Prelude.{length, slice_get, slice_index_or, All, Option, Some, None}
use Rattle.fv_graph.specs.Graph.{Leads, IsChain, IsCircle, last_node}

-- the node leads to itself, over others or at once
abbrev pub IsOnCircle : List (List ℕ) → ℕ → Type 0
IsOnCircle graph i = (rest : List ℕ) × IsCircle graph (i ∷ rest)

-- the first node on a circle; None where there is none
abbrev pub IsFirstOnCircle : List (List ℕ) → Option ℕ → Type 0
IsFirstOnCircle graph None = (i : ℕ) → IsOnCircle graph i → ⊥
IsFirstOnCircle graph (Some j) =
    (j < length graph) × IsOnCircle graph j × ((i : ℕ) → i < j → IsOnCircle graph i → ⊥)

-- ---- numbers that do not rise from a node to those that it leads to

abbrev pub rank : List ℕ → ℕ → ℕ
rank ranks i = slice_index_or ranks i 0

abbrev pub NoneRises : List (List ℕ) → List ℕ → Type 0
NoneRises graph ranks = (i j : ℕ) → Leads graph i j → rank ranks j ≤ rank ranks i

-- no target of this row has a higher one, and each has a lower one
abbrev pub NoneAbove : List ℕ → List ℕ → ℕ → Type 0
NoneAbove ranks row most = All (λ j. rank ranks j ≤ most) row

abbrev pub AllBelow : List ℕ → List ℕ → ℕ → Type 0
AllBelow ranks row above = All (λ j. rank ranks j < above) row

-- ---- a search for the goal among all that it leads to

abbrev pub is_found : List Bool → ℕ → Bool
is_found found i = slice_index_or found i false

-- how many nodes weren't found
abbrev pub unfound : List Bool → ℕ
unfound [] = 0
unfound (true ∷ bs) = unfound bs
unfound (false ∷ bs) = unfound bs + 1

-- a node is added to those that wait, if it wasn't found
abbrev pub waiting_with : List Bool → List ℕ → ℕ → List ℕ
waiting_with found waiting i = if is_found found i then waiting else waiting ++ i ∷ []

-- the goal leads to the node
abbrev pub IsReached : List (List ℕ) → ℕ → ℕ → Type 0
IsReached graph goal i = (is : List ℕ) × IsChain graph goal is × (last_node goal is ≡ i)

abbrev pub Waits : List ℕ → ℕ → Type 0
Waits waiting i = (a : ℕ) × (slice_get waiting a ≡ Some i)

-- the goal was found, and each node that was found waits, or all that it leads to was found, and is not the goal
pub record Searches (graph : List (List ℕ)) (goal : ℕ) (found : List Bool) (waiting : List ℕ) : Type 0 where
  pub size : length found ≡ length graph
  pub start : is_found found goal ≡ true
  pub reached : (i : ℕ) → Waits waiting i → (i < length graph) × IsReached graph goal i
  pub followed : (i : ℕ) → is_found found i ≡ true
      → Waits waiting i ⊎ ((j : ℕ) → Leads graph i j → (is_found found j ≡ true) × (j ≡ goal → ⊥))

-- the targets of a row were found, none of which is the goal
pub record Follows (row : List ℕ) (goal : ℕ) (found : List Bool) (waiting : List ℕ) (new_found : List Bool)
    (new_waiting : List ℕ) : Type 0 where
  pub size : length new_found ≡ length found
  pub kept : (i : ℕ) → is_found found i ≡ true → is_found new_found i ≡ true
  pub still : (i : ℕ) → Waits waiting i → Waits new_waiting i
  pub found_new : (i : ℕ) → is_found new_found i ≡ true → (is_found found i ≡ true) ⊎ Waits new_waiting i
  pub waits_new : (i : ℕ) → Waits new_waiting i → Waits waiting i ⊎ Waits row i
  pub all : (i : ℕ) → Waits row i → (is_found new_found i ≡ true) × (i ≡ goal → ⊥)
  pub count : unfound new_found + length new_waiting ≡ unfound found + length waiting
