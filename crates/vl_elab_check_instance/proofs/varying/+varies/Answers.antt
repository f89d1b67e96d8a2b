use Rattle.vl_tree.specs.ExprView.{selects}
use Rattle.vl_elab_scope.specs.Seen.{seen}
use Rattle.vl_elab_check_instance.proofs.Vary.{name_is}
use Rattle.vl_elab_check_instance.proofs.varying.+varies.Goals as goal

pub name_varies-returns-in-Some : goal.name_varies-returns-in-Some
name_varies-returns-in-Some t c =
    name_is c.args.names.now c.args.fixed c.is_constant.result c.either.result c.args.text.now
    (selects c.args.all.now) (seen c.in-Some.meaning.now) c.any_select_varies-inner.result c.meaning_varies.result
    c.either-in-Some.result c.in-Some.ensures.value (c.is_constant.ensures c.args.names.now) c.either.ensures
    c.any_select_varies-inner.ensures c.meaning_varies.ensures c.either-in-Some.ensures
