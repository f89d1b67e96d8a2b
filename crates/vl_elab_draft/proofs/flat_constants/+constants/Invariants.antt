use Rattle.std.proofs.Common.{◌≡◌, ℕ, List}
use Rattle.std.specs.Prelude.{drop}
use Rattle.vl_tree.specs.Expr.{exprs}
use Rattle.vl_tree.specs.ExprView.{selects}
use Rattle.vl_mean.specs.Params.{constant}
use Rattle.vl_mean.specs.Scopes.{constant_in}
use Rattle.vl_elab_scope.specs.Texts.{exprs_texts, selects_texts}
use Rattle.vl_elab_draft.specs.Filled.{filled}
use Rattle.vl_elab_draft.proofs.flat_constants.+constants.Given as goal

abbrev pub invariant-add_parts_constants-loop-part : goal.invariant-add_parts_constants-loop-part
invariant-add_parts_constants-loop-part l =
    (other : List ℕ) → filled (constant_in l.scopes) (exprs_texts (exprs (drop l.part-index l.all)))
    (constant l.params other) other
    ≡ filled (constant_in l.scopes) (exprs_texts (exprs l.all)) (constant l.fn.params other) other

abbrev pub invariant-add_selects_constants-loop-select : goal.invariant-add_selects_constants-loop-select
invariant-add_selects_constants-loop-select l =
    (other : List ℕ) → filled (constant_in l.scopes) (selects_texts (selects (drop l.select-index l.all)))
    (constant l.params other) other
    ≡ filled (constant_in l.scopes) (selects_texts (selects l.all)) (constant l.fn.params other) other
