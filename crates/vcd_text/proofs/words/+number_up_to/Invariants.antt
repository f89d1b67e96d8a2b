use Rattle.vcd_text.proofs.words.+number_up_to.Given as goal

abbrev pub decreases-number_up_to : goal.decreases-number_up_to
decreases-number_up_to l = l.most
