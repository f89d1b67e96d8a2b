use Rattle.vl_tree.specs.ExprView.{selects}
use Rattle.vl_elab_scope.specs.Seen.{seen}
use Rattle.vl_elab_check_expr.proofs.Lowest.{name_is}
use Rattle.vl_elab_check_expr.proofs.judge.+judge.Goals as goal

pub judge_name-returns-in_ok-own-in-Some-clause-fault : goal.judge_name-returns-in_ok-own-in-Some-clause-fault
judge_name-returns-in_ok-own-in-Some-clause-fault t c =
    name_is c.args.names.now c.args.fixed c.is_constant.result c.either.result c.args.pos c.args.text.now
    (selects c.args.all.now) (seen c.in-Some.meaning.now) c.in_ok-inner-in-Some.inner c.in_ok-own-in-Some.own
    c.first_of-in-Some.result c.closed-in-Some.result.fault c.in_ok-width-in-Some.width c.in-Some.ensures.value
    (c.is_constant.ensures c.args.names.now) c.either.ensures c.in_ok-inner-in-Some.ensures
    c.in_ok-own-in-Some.ensures c.in_ok-width-in-Some.ensures c.first_of-in-Some.ensures c.closed-in-Some.ensures.fault
