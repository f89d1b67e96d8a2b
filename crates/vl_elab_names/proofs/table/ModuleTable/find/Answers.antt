use Rattle.std.proofs.Common.{◌∙◌, ap, sym}
use Rattle.std.specs.Option.{option_copied}
use Rattle.vl_mean.specs.Walk.{module_named}
use Rattle.vl_elab_names.proofs.Places.{found, not_found}
use Rattle.vl_elab_names.proofs.table.ModuleTable.find.Goals as goal

pub returns-in-None : goal.returns-in-None
returns-in-None c =
    let text = c.bytes.result.now in
    not_found text c.args.all.now
    (sym (c.requires text) ∙ sym c.get.ensures.value ∙ ap option_copied c.in-None.is)
    ∙ ap (module_named c.args.all.now) c.bytes.ensures

pub returns-in-Some : goal.returns-in-Some
returns-in-Some c =
    let text = c.bytes.result.now in
    c.module_at.ensures
    ∙ found text c.args.all.now c.in-Some.place.now
    (sym (c.requires text) ∙ sym c.get.ensures.value ∙ ap option_copied c.in-Some.is)
    ∙ ap (module_named c.args.all.now) c.bytes.ensures
