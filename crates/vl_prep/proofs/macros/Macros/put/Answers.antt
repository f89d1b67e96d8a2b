use Rattle.std.specs.Arc.{arc_value}
use Rattle.vl_prep.proofs.Names.{held_after}
use Rattle.vl_prep.proofs.macros.Macros.put.Goals as goal

pub returns-clause-ok : goal.returns-clause-ok
returns-clause-ok c other =
    held_after (λ key. key.items) _ c.args.text other _ _ _
    (λ text. arc_value text) c.in_ok-insert.ensures.entries c.in_ok-key.ensures
