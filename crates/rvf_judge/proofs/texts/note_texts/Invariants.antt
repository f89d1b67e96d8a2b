use Rattle.std.proofs.Common.{◌≡◌, ◌++◌, drop, map}
use Rattle.rvf_judge.specs.Lines.{note_text}
use Rattle.rvf_judge.proofs.texts.note_texts.Given as goal

abbrev pub invariant-loop-note : goal.invariant-loop-note
invariant-loop-note l = l.made ++ map note_text (drop l.note-index l.notes) ≡ map note_text l.notes
