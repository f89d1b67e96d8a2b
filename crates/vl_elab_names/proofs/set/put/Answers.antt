use Rattle.fv_text.proofs.Lookups.{lookup_after}
use Rattle.vl_elab_names.proofs.Added.{set_after}
use Rattle.vl_elab_names.proofs.set.put.Goals as goal

pub returns-clause-ok : goal.returns-clause-ok
returns-clause-ok c other =
    set_after _ _ _ c.args.name other
    (lookup_after (λ key. key.items) _ _ other _ _ _ c.in_ok-insert.ensures.entries c.in_ok-key.ensures)
