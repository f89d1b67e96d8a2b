use Rattle.vcd_dump.proofs.digits.+put_binary.Given as goal

abbrev pub decreases-put_binary : goal.decreases-put_binary
decreases-put_binary l = l.value
