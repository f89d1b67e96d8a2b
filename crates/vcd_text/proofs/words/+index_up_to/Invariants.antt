use Rattle.vcd_text.proofs.words.+index_up_to.Given as goal

abbrev pub decreases-index_up_to : goal.decreases-index_up_to
decreases-index_up_to l = l.most
