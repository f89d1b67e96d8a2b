use Rattle.fv_bits.proofs.plain.+parity.Given as goal

abbrev pub decreases-parity : goal.decreases-parity
decreases-parity l = l.width
