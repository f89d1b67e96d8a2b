-- The maps of a design whose names have numbers in them.
use Rattle.std.specs.Fmt.{digits}
use Rattle.std.proofs.Common.{arith}
use Rattle.vl_mean_examples.specs.DesignExamples.{words, words_design}
use Rattle.vl_mean.specs.Runs.{Holds, Init, Next}

pub words_hold : Holds words_design (words 3 3 5)
unfolding digits
words_hold = search arith

pub words_driven : Holds words_design (words 3 4 5) → ⊥
unfolding digits
words_driven h = omega arith

pub words_begin : Init words_design (words 3 3 5)
unfolding digits
words_begin = search arith

pub words_begin_else : Init words_design (words 3 3 4) → ⊥
unfolding digits
words_begin_else h = omega arith

pub words_kept : Next words_design (words 3 3 5) (words 4 4 5)
unfolding digits
words_kept = search arith

pub words_changed : Next words_design (words 3 3 5) (words 4 4 6) → ⊥
unfolding digits
words_changed h = omega arith
