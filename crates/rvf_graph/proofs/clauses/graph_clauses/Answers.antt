use Rattle.rvf_graph.proofs.GraphLaws.{made_said}
use Rattle.rvf_graph.proofs.clauses.graph_clauses.Goals as goal

pub returns : goal.returns
returns c =
    let read = c.in_ok-aig.ensures.answers in (
      read.0,
      read.1,
      made_said read.0 _ _ c.in_ok-made.ensures.whole read.2 c.in_ok-made.made c.in_ok-made.ensures,
    )
