-- Between functions: What a walk over a graph comes to. Rule of this project.
use Rattle.std.specs.Prelude.{ℕ, List}
use Rattle.fv_graph.specs.declared.walked.Walked.{Walked}
use Rattle.fv_graph.specs.declared.walked.Walked.TheVariants.{Order, Circle}
use Rattle.fv_graph.specs.Graph.{IsOrder, IsSimpleCircle}

abbrev pub ComesOf : List (List ℕ) → Walked → Type 0
ComesOf graph (Order order) = IsOrder graph order
ComesOf graph (Circle circle) = IsSimpleCircle graph circle
