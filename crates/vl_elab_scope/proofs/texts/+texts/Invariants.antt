use Rattle.std.proofs.Common.{◌≡◌, ◌++◌}
use Rattle.std.specs.Prelude.{drop}
use Rattle.vl_tree.specs.Expr.{exprs}
use Rattle.vl_tree.specs.ExprView.{selects}
use Rattle.vl_elab_scope.specs.Texts as spec
use Rattle.vl_elab_scope.proofs.texts.+texts.Given as goal

abbrev pub invariant-add_exprs_texts-loop-part : goal.invariant-add_exprs_texts-loop-part
invariant-add_exprs_texts-loop-part l =
    l.out ++ spec.exprs_texts (exprs (drop l.part-index l.all)) ≡ l.fn.out ++ spec.exprs_texts (exprs l.all)

abbrev pub invariant-add_selects_texts-loop-select : goal.invariant-add_selects_texts-loop-select
invariant-add_selects_texts-loop-select l =
    l.out ++ spec.selects_texts (selects (drop l.select-index l.all))
    ≡ l.fn.out ++ spec.selects_texts (selects l.all)
