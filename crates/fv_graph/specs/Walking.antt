-- Between functions: What a walk over a graph keeps: a path, each node of which leads to the next one, and the nodes
-- that are done, each behind all that it leads to. Rule of this project.
use Rattle.std.specs.Prelude.{◌≡◌, ℕ, suc, ◌+◌, ◌-◌, ◌<◌, ◌==◌, List, [], ◌∷◌, length}
use Rattle.std.specs.Prelude.{true}
use Rattle.std.specs.Prelude.{Option, Some, None, slice_get, if◌then◌else◌}
use Rattle.std.proofs.Common.{◌⊎◌}
use Rattle.fv_graph.specs.declared.state.Progress.{Progress}
use Rattle.fv_graph.specs.declared.state.Progress.TheVariants as p
use Rattle.fv_graph.specs.declared.state.Step.{Step}
use Rattle.fv_graph.specs.Graph.{targets, Leads, has_node, IsSimpleCircle}

pub record Walks (graph : List (List ℕ)) (progress : List Progress) (path : List Step) (done : List ℕ)
    : Type 0 where
  pub size : length progress ≡ length graph
  -- the nodes that are done
  pub finished : (i : ℕ) → slice_get progress i ≡ Some p.Done → has_node done i ≡ true
  pub listed : (a i : ℕ) → slice_get done a ≡ Some i → slice_get progress i ≡ Some p.Done
  pub once : (a b i : ℕ) → slice_get done a ≡ Some i → slice_get done b ≡ Some i → a ≡ b
  pub closed : (a i j : ℕ) → slice_get done a ≡ Some i → Leads graph i j
      → (b : ℕ) × (b < a) × (slice_get done b ≡ Some j)
  -- those on the path
  pub standing : (a : ℕ) (s : Step) → slice_get path a ≡ Some s → slice_get progress s.node ≡ Some p.Open
  pub opened : (i : ℕ) → slice_get progress i ≡ Some p.Open
      → (a : ℕ) × (s : Step) × (slice_get path a ≡ Some s) × (s.node ≡ i)
  pub apart : (a b : ℕ) (s t : Step) → slice_get path a ≡ Some s → slice_get path b ≡ Some t
      → s.node ≡ t.node
      → a ≡ b
  -- of a node on the path, what it leads to before its next target is done, or stands next on the path
  pub passed : (a : ℕ) (s : Step) (k j : ℕ) → slice_get path a ≡ Some s → k < s.next
      → slice_get (targets graph s.node) k ≡ Some j
      → (has_node done j ≡ true) ⊎ ((t : Step) × (slice_get path (suc a) ≡ Some t) × (t.node ≡ j))
  pub follows : (a : ℕ) (s t : Step) → slice_get path a ≡ Some s → slice_get path (suc a) ≡ Some t
      → Leads graph s.node t.node

-- ---- the nodes of a path

abbrev pub nodes_of : List Step → List ℕ
nodes_of [] = []
nodes_of (s ∷ path) = s.node ∷ nodes_of path

-- from a node on
abbrev pub nodes_from : List Step → ℕ → List ℕ
nodes_from [] i = []
nodes_from (s ∷ path) i = if s.node == i then nodes_of (s ∷ path) else nodes_from path i

-- ---- how much is left to do

abbrev pub waiting : List Progress → List (List ℕ) → ℕ
waiting [] rows = 0
waiting (x ∷ xs) [] = 0
waiting (p.New ∷ xs) (r ∷ rows) = length r + 1 + waiting xs rows
waiting (x ∷ xs) (r ∷ rows) = waiting xs rows

abbrev pub remaining : List (List ℕ) → List Step → ℕ
remaining graph [] = 0
remaining graph (s ∷ path) = length (targets graph s.node) - s.next + 1 + remaining graph path

abbrev pub work : List (List ℕ) → List Progress → List Step → ℕ
work graph progress path = waiting progress graph + remaining graph path

-- no node is new again
abbrev pub AreFewer : List Progress → List Progress → Type 0
AreFewer before after = (i : ℕ) → slice_get after i ≡ Some p.New → slice_get before i ≡ Some p.New

-- What a turn comes to: it walks on with less to do, or the path is closed from a node on.
abbrev pub Turned : List (List ℕ) → List Progress → List Step → List Progress → List Step → List ℕ
    → Option ℕ → Type 0
Turned graph before trail progress path done None =
    Walks graph progress path done × (work graph progress path < work graph before trail) × AreFewer before progress
Turned graph before trail progress path done (Some i) = IsSimpleCircle graph (nodes_from path i)

-- What comes of a node that was new: it isn't any more, and the path is empty again, or it is closed from a node on.
abbrev pub Came : List (List ℕ) → List Progress → ℕ → List Progress → List Step → List ℕ → Option ℕ
    → Type 0
Came graph before node progress path done None =
    Walks graph progress path done × (path ≡ []) × AreFewer before progress
    × (slice_get progress node ≡ Some p.New → ⊥)
Came graph before node progress path done (Some i) = IsSimpleCircle graph (nodes_from path i)
