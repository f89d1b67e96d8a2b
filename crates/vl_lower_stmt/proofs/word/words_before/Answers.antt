use Rattle.std.proofs.Common.{arith}
use Rattle.std.proofs.lemmas.Int.{ints}
use Rattle.vl_flow_cells.proofs.Ranges.{word_few}
use Rattle.vl_lower_stmt.proofs.word.words_before.Goals as goal

pub overflow_cast-result : goal.overflow_cast-result
overflow_cast-result c =
    let few = word_few c.args.words.0 c.args.words.1 c.args.index c.requires.left c.requires.right c.requires.between
    in
    omega (arith, ints, few, c.unsigned_abs.ensures.value)
