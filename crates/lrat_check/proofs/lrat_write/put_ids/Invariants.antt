use Rattle.std.proofs.Common.{◌≡◌, ◌++◌, drop}
use Rattle.std.specs.List.{flat_map}
use Rattle.lrat_check.specs.Texts.{id_text}
use Rattle.lrat_check.proofs.lrat_write.put_ids.Given as goal

abbrev pub invariant-loop-id : goal.invariant-loop-id
invariant-loop-id l =
    l.out.items ++ flat_map id_text (drop l.id-index l.ids) ≡ l.initial.out.items ++ flat_map id_text l.ids
