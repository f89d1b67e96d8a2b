use Rattle.std.proofs.Common.{◌≡◌, ◌++◌}
use Rattle.std.specs.Prelude.{drop}
use Rattle.vl_elab_names.proofs.scope_names_labels.add_texts.Given as goal

abbrev pub invariant-loop-text : goal.invariant-loop-text
invariant-loop-text l =
    l.names ++ (drop l.text-index l.all)
    ≡ l.fn.names ++ l.all
