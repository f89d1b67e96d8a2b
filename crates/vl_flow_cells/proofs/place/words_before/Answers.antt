use Rattle.std.proofs.Common.{◌≡◌, ◌-ℤ◌, ◌∙◌, ap, arith}
use Rattle.std.specs.Prelude.{nat_abs, int_le}
use Rattle.std.proofs.lemmas.Int.{ints}
use Rattle.vl_flow_cells.specs.Places.{index_at}
use Rattle.vl_flow_cells.proofs.Ranges.{word_at, word_few}
use Rattle.vl_flow_cells.proofs.place.words_before.Goals as goal

pub overflow_cast-result : goal.overflow_cast-result
overflow_cast-result c =
    let few = word_few c.args.words.0 c.args.words.1 c.args.index c.requires.left c.requires.right c.requires.between in
    omega (arith, ints, few, c.unsigned_abs.ensures.value)

pub returns-clause-within : goal.returns-clause-within
returns-clause-within c =
    let few = word_few c.args.words.0 c.args.words.1 c.args.index c.requires.left c.requires.right c.requires.between in
    let at = word_at c.args.words.0 c.args.words.1 c.args.index c.requires.between in
    omega (arith, ints, few, at.0, c.unsigned_abs.ensures.value)

pub returns-clause-index : goal.returns-clause-index
returns-clause-index c =
    let few = word_few c.args.words.0 c.args.words.1 c.args.index c.requires.left c.requires.right c.requires.between in
    let at = word_at c.args.words.0 c.args.words.1 c.args.index c.requires.between in
    let same : c.unsigned_abs.result ≡ nat_abs (c.args.index -ℤ c.args.words.0) =
    omega (arith, ints, few, c.unsigned_abs.ensures.value) in
    ap (index_at (int_le c.args.words.0 c.args.words.1) c.args.words.0) same ∙ at.1
