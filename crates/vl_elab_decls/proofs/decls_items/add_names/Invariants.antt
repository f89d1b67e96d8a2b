use Rattle.std.proofs.Common.{◌++◌, List}
use Rattle.std.specs.Prelude.{drop}
use Rattle.vl_mean.specs.Runs.{Each}
use Rattle.vl_mean.specs.Scopes.{Scope}
use Rattle.vl_elab_const.specs.Numbers.{HaveNumbers}
use Rattle.vl_elab_decls.specs.Forms.{HasWords, all_with}
use Rattle.vl_elab_decls.proofs.Going.{Goes}
use Rattle.vl_elab_decls.proofs.decls_items.add_names.Given as goal

abbrev pub invariant-loop-name : goal.invariant-loop-name
invariant-loop-name l =
    (ss : List Scope) → HaveNumbers l.numbers ss → Each HasWords (all_with ss l.form l.all)
    → Goes HasWords (l.fn.decls ++ all_with ss l.form l.all) l.decls (all_with ss l.form (drop l.name-index l.all))
