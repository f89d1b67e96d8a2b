use Rattle.std.proofs.Common.{◌≡◌, ◌++◌, drop}
use Rattle.rvf_judge.specs.NoteLinesParts.{placed_notes}
use Rattle.rvf_judge.proofs.choice.choice_notes.Given as goal

abbrev pub invariant-loop-place : goal.invariant-loop-place
invariant-loop-place l =
    l.made ++ placed_notes l.names l.sources (drop l.place-index l.places) ≡ placed_notes l.names l.sources l.places
