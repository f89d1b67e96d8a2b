use Rattle.vl_size.proofs.select.+copies.Given as goal

abbrev pub decreases-copies : goal.decreases-copies
decreases-copies l = l.count
