use Rattle.std.proofs.Common.{◌≡◌, ◌++◌, drop}
use Rattle.std.specs.List.{flat_map}
use Rattle.cnf_text.specs.Dimacs.{note_text, clause_text, dimacs_text}
use Rattle.cnf_text.proofs.write.dimacs.Given as goal

abbrev pub invariant-loop-note : goal.invariant-loop-note
invariant-loop-note l = l.out.items ++ flat_map note_text (drop l.note-index l.notes) ≡ flat_map note_text l.notes

abbrev pub invariant-loop-index : goal.invariant-loop-index
invariant-loop-index l =
    l.out.items ++ flat_map clause_text (drop l.index l.formula.clauses) ≡ dimacs_text l.notes l.formula
