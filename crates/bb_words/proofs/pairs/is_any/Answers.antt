use Rattle.std.specs.Prelude.{◌||◌, ◌<◌, ◌≤◌, refl, length}
use Rattle.std.proofs.Common.{arith}
use Rattle.bb_aig.specs.Bits.{any_bit}
use Rattle.bb_words.proofs.Folding.{any_steps, folding_next, folded_all}
use Rattle.bb_words.proofs.pairs.is_any.Goals as goal

pub loop-lit-preserved : goal.loop-lit-preserved
loop-lit-preserved c =
    let within : c.loop-lit.lit-index < length c.args.word.now = omega arith in
    folding_next (λ r xs ys. any_bit r xs) (λ r x y. r || x) any_steps c.args.gates.now c.loop-lit.gates
    c.either.new.gates c.args.word.now c.args.word.now c.args.told c.loop-lit.lit-index 0 0 c.loop-lit.any
    c.in_ok-any.any c.requires.word c.requires.word within refl c.loop-lit.invariant c.in_ok-any.ensures.grows
    (λ f h k p q r. c.in_ok-any.ensures.made k f r p)

pub returns-clause-made : goal.returns-clause-made
returns-clause-made c =
    let past : length c.args.word.now ≤ c.loop-lit.lit-index = omega arith in
    folded_all (λ r xs ys. any_bit r xs) (λ r x y. r || x) any_steps c.args.gates.now c.loop-lit.gates c.args.word.now
    c.args.word.now c.args.told c.loop-lit.lit-index c.loop-lit.any past c.loop-lit.invariant
