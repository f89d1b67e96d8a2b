-- The gate at a place of the order, while the graph is built.
use Rattle.std.proofs.Common.{◌≡◌, ℕ, ◌+◌, ◌*◌, ◌/◌, ◌^◌, ◌<◌, List, length, Some, ap, sym, ◌∙◌, subst, arith}
use Rattle.std.specs.Prelude.{slice_get, slice_index, slice_index_or, slice_set}
use Rattle.std.proofs.lemmas.List.{length-map}
use Rattle.std.proofs.lemmas.Option.{slice_get-get_or}
use Rattle.bb_aig.specs.declared.node.AigNode.{AigNode}
use Rattle.bb_aig.specs.declared.node.AigNode.TheVariants as n
use Rattle.bb_aig.specs.Graph.{IsLit, Adds}
use Rattle.fv_graph.specs.Graph.{IsOrder}
use Rattle.aiger_text.specs.declared.wires.Wire.{Wire}
use Rattle.aiger_text.specs.Wires.{row_of, successors, AreNodes}
use Rattle.aiger_text.specs.Built.{moved, IsDone, Builds}
use Rattle.aiger_text.proofs.BuildLaws.{gate_there, left_done, right_done, builds_more, all_done}
use Rattle.aiger_text.proofs.OrderLaws.{order_length}

-- the literal of a node that is done, with a sign
moved_lit : (inputs : ℕ) (wires : List Wire) (order : List ℕ) (a : ℕ) (graph : List AigNode) (lits : List ℕ) (l : ℕ)
    → Builds inputs wires order a graph lits → IsDone inputs order a (l / 2) → IsLit graph (moved lits l)
moved_lit inputs wires order a graph lits l h d =
    let p = h.placed (l / 2) d in let x = p.0 in let y = p.1 in omega (arith, x, y)

module _ (inputs root : ℕ) (wires : List Wire) (order : List ℕ) (o : IsOrder (successors inputs wires) order)
    (nodes : AreNodes inputs root wires) where
  module _ (read : List Wire) (same : read ≡ wires) (a : ℕ) (d : Wire) (graph : List AigNode) (lits : List ℕ)
      (h : Builds inputs wires order a graph lits) (less : a < length order) where
    turn_at : slice_get order a ≡ Some (slice_index order a)
    turn_at = slice_get-get_or order a 0 less

    turn_within : slice_index order a < length wires
    turn_within = gate_there inputs wires order o a (slice_index order a) turn_at

    turn_wire : slice_get wires (slice_index order a) ≡ Some (slice_index_or read (slice_index order a) d)
    turn_wire =
        slice_get-get_or wires (slice_index order a) d turn_within
        ∙ ap (λ (ws : List Wire). Some (slice_index_or ws (slice_index order a) d)) (sym same)

    turn_left_done : IsDone inputs order a ((slice_index_or read (slice_index order a) d).left / 2)
    turn_left_done =
        left_done inputs wires order o a (slice_index order a) (slice_index_or read (slice_index order a) d) turn_at
        turn_wire (nodes.left_there (slice_index order a) (slice_index_or read (slice_index order a) d) turn_wire)

    turn_right_done : IsDone inputs order a ((slice_index_or read (slice_index order a) d).right / 2)
    turn_right_done =
        right_done inputs wires order o a (slice_index order a) (slice_index_or read (slice_index order a) d) turn_at
        turn_wire (nodes.right_there (slice_index order a) (slice_index_or read (slice_index order a) d) turn_wire)

    -- its operands are literals of the graph
    pub turn_left : IsLit graph (moved lits (slice_index_or read (slice_index order a) d).left)
    turn_left =
        moved_lit inputs wires order a graph lits (slice_index_or read (slice_index order a) d).left h turn_left_done

    pub turn_right : IsLit graph (moved lits (slice_index_or read (slice_index order a) d).right)
    turn_right =
        moved_lit inputs wires order a graph lits (slice_index_or read (slice_index order a) d).right h turn_right_done

    -- when it was added
    pub turn_more : (new : List AigNode) (now : List ℕ)
        → now ≡ slice_set lits (inputs + 1 + slice_index order a) (2 * length graph)
        → Adds graph new (n.And (moved lits (slice_index_or read (slice_index order a) d).left)
        (moved lits (slice_index_or read (slice_index order a) d).right)) (2 * length graph)
        → Builds inputs wires order (a + 1) new now
    turn_more new now e ad =
        subst (Builds inputs wires order (a + 1) new) (sym e)
        (builds_more inputs wires order o a (slice_index order a) (slice_index_or read (slice_index order a) d) graph
        new lits (2 * length graph) turn_at turn_wire h turn_left_done turn_right_done ad)

  -- the root is among few nodes
  pub root_few : (graph : List AigNode) (lits : List ℕ) → Builds inputs wires order (length order) graph lits
      → slice_index lits (root / 2) < 2 ^ 63
  root_few graph lits h =
      let p = h.placed (root / 2) (all_done inputs wires order o (root / 2) nodes.root_there) in
      let x = p.0 in
      let l = order_length (successors inputs wires) order o in
      let s = h.long in
      let f = nodes.few in
      omega (arith, x, l, s, f, length-map wires (row_of inputs))
