use Rattle.std.proofs.Common.{◌∙◌, ap, sym}
use Rattle.std.specs.Prelude.{◌-◌, length, take, drop}
use Rattle.vl_tree.specs.ExprView.{selects}
use Rattle.vl_elab_spec.specs.Expressions.{none_behind}
use Rattle.vl_elab_spec.specs.Refused.{lowest}
use Rattle.vl_elab_check_expr.specs.Judged.{alone}
use Rattle.vl_elab_check_expr.proofs.Lowest.{lowest_two}
use Rattle.vl_elab_check_expr.proofs.Values.{next_selects}
use Rattle.vl_elab_check_expr.proofs.selects.vector_fault.Goals as goal

pub returns-in_ok-alone-in-len1-up : goal.returns-in_ok-alone-in-len1-up
returns-in_ok-alone-in-len1-up c =
    c.first_of.ensures
    ∙ lowest_two (alone c.args.names.now c.args.may c.args.decl.now c.select-item.result)
    (none_behind c.args.names.now (selects (take (length c.args.all.now - 1) (drop 1 c.args.all.now)))) _ _
    c.in_ok-alone-in-len1-up.ensures (c.behind_fault.ensures c.args.names.now)
    ∙ ap lowest (sym (next_selects c.args.names.now c.args.may c.args.decl.now c.args.all.now c.select-item.result
    c.in-len1-up.len_at_least c.select-item.is))
