-- The maps of designs whose names have numbers in them.
use Rattle.std.specs.Prelude.{◌≡◌, refl, [], ◌∷◌, codes}
use Rattle.std.specs.Fmt.{digits}
use Rattle.std.proofs.Common.{arith}
use Rattle.vl_mean_examples.specs.Examples.{after_block, blocks_design, full_names, in_blocks, looped_design, turns}
use Rattle.vl_mean.specs.Runs.{Holds}

pub looped_names : full_names looped_design ≡ codes "o" ∷ codes "g[0].u.y" ∷ codes "g[0].u.w" ∷ codes "g[1].u.y"
    ∷ codes "g[1].u.w" ∷ []
unfolding digits
looped_names = refl

pub looped_holds : Holds looped_design (turns 2 0 1)
unfolding digits
looped_holds = search arith

pub looped_turned : Holds looped_design (turns 1 1 0) → ⊥
unfolding digits
looped_turned h = omega arith

pub looped_apart : Holds looped_design (turns 1 0 1) → ⊥
unfolding digits
looped_apart h = omega arith

pub blocks_names : full_names blocks_design ≡ codes "genblk1.a" ∷ codes "genblk2.genblk1.b" ∷ codes "genblk3"
    ∷ codes "genblk03.c" ∷ []
unfolding digits
blocks_names = refl

pub blocks_hold : Holds blocks_design (in_blocks 1)
unfolding digits
blocks_hold = search arith

pub blocks_zero : Holds blocks_design (in_blocks 0) → ⊥
unfolding digits
blocks_zero h = omega arith

pub first_word : after_block.now (codes "m[1]") ≡ 5
unfolding digits
first_word = refl

pub second_word : after_block.now (codes "m[2]") ≡ 0
unfolding digits
second_word = refl

pub ruleset maps = (looped_names, blocks_names, first_word, second_word)
