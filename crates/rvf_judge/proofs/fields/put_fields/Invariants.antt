use Rattle.std.proofs.Common.{◌≡◌, ◌++◌, drop}
use Rattle.ck_design.specs.Notes.{field_notes}
use Rattle.rvf_judge.proofs.fields.put_fields.Given as goal

abbrev pub invariant-loop-index : goal.invariant-loop-index
invariant-loop-index l =
    l.made ++ field_notes l.channel l.cycle (drop l.index l.fields) (drop l.index l.words)
    ≡ l.initial.made ++ field_notes l.channel l.cycle l.fields l.words
