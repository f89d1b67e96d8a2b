use Rattle.vl_elab_const.proofs.Operating.{constant_is}
use Rattle.vl_elab_const.proofs.operation.constant_number.Goals as goal

pub returns-in-Some : goal.returns-in-Some
returns-in-Some c =
    constant_is c.args.numbers.now c.args.text.now c.constant_of.result c.in-Some.value c.number_of.result
    c.constant_of.ensures c.in-Some.is c.number_of.ensures
