use Rattle.vl_size.proofs.place.+bits_from.Given as goal

abbrev pub decreases-bits_from : goal.decreases-bits_from
decreases-bits_from l = l.count
