use Rattle.std.proofs.Common.{◌∙◌, ap}
use Rattle.std.specs.Prelude.{drop}
use Rattle.vl_elab_places.specs.declared.cursor.Cursor.{Cursor}
use Rattle.vl_elab_places.specs.Passing.{names_passed}
use Rattle.vl_elab_places.proofs.Words.{names_found}
use Rattle.vl_elab_places.proofs.names.name_behind.Goals as goal

pub returns-clause-place : goal.returns-clause-place
returns-clause-place c at agree =
    let ns = drop 1 c.args.numbers.now in
    let x = c.args.item.now in
    ap (λ (k : Cursor). k.found) (c.in_ok-behind.ensures.behind ∙ ap (names_passed ns x) c.new-start.ensures)
    ∙ names_found ns at agree x c.args.before c.requires.few
