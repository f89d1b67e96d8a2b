use Rattle.fv_text.proofs.Lookups.{lookup_after}
use Rattle.vl_mean.proofs.params.Params.set.Goals as goal

pub returns-clause-ok : goal.returns-clause-ok
returns-clause-ok c other =
    lookup_after (λ key. key.items) _ c.args.value other _ _ _ c.in_ok-insert.ensures.entries c.in_ok-key.ensures
