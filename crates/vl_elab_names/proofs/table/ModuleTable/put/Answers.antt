use Rattle.fv_text.proofs.Lookups.{lookup_after}
use Rattle.vl_elab_names.proofs.table.ModuleTable.put.Goals as goal

pub returns : goal.returns
returns c other =
    lookup_after (λ key. key.items) _ c.args.place other _ _ _ c.in_ok-insert.ensures.entries c.in_ok-key.ensures
