use Rattle.vl_elab_count.proofs.turns.loop_nodes.Goals as goal

pub returns-clause-count : goal.returns-clause-count
returns-clause-count c at same agree =
    c.in_ok-nodes.ensures.count at agree (c.in_ok-values.ensures.values at same agree)
