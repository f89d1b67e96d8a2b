-- A graph has fewer inputs than nodes.
use Rattle.std.proofs.Common.{◌<◌, List, [], ◌∷◌, length, sym, subst, arith}
use Rattle.bb_aig.specs.declared.node.AigNode.{AigNode}
use Rattle.bb_aig.specs.declared.node.AigNode.TheVariants as n
use Rattle.bb_aig.specs.Graph.{inputs_of, IsGraph}
use Rattle.bb_aig.proofs.Values.{inputs_le}

pub some_node : (graph : List AigNode) → IsGraph graph → 0 < length graph
some_node [] g = absurd g.begins
some_node (h ∷ gs) g = omega arith

pub inputs_below : (graph : List AigNode) → IsGraph graph → inputs_of graph < length graph
inputs_below [] g = absurd g.begins
inputs_below (h ∷ gs) g =
    let k = inputs_le gs in
    let b : inputs_of (n.False ∷ gs) < length (n.False ∷ gs) = omega (arith, k) in
    subst (λ f. inputs_of (f ∷ gs) < length (f ∷ gs)) (sym g.begins) b
