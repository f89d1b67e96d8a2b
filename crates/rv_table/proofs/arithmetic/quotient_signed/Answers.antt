use Rattle.std.proofs.Common.{arith}
use Rattle.std.proofs.lemmas.Bool.Decides.{nat_tests}
use Rattle.rv_table.proofs.NumberLemmas.{wrapped_quotient}
use Rattle.rv_table.proofs.arithmetic.quotient_signed.Goals as goal

pub returns-else-b-eq0 : goal.returns-else-b-eq0
returns-else-b-eq0 c =
    let word = wrapped_quotient c.args.a c.args.b c.cast_unsigned.result c.cast_signed.result
    c.cast_signed-else-b-eq0.result
    c.wrapping_div.result (omega arith) (omega arith) c.cast_signed.ensures c.cast_signed-else-b-eq0.ensures
    c.wrapping_div.ensures c.cast_unsigned.ensures in
    grind (arith, nat_tests, word)
