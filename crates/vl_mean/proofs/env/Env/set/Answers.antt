use Rattle.std.proofs.Common.{◌∙◌}
use Rattle.vl_mean.proofs.Lookups.{number_after}
use Rattle.vl_mean.proofs.env.Env.set.Goals as goal

pub returns-clause-ok : goal.returns-clause-ok
returns-clause-ok c other =
    number_after (λ key. key.items) _ c.args.value other _ _ _ c.in_ok-insert.ensures.entries
    (c.in_ok-key.ensures.items ∙ c.bytes.ensures)
