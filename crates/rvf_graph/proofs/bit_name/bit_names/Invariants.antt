use Rattle.std.proofs.Common.{◌≡◌, ◌++◌, drop, map}
use Rattle.rvf_graph.proofs.BitLines.{name_of}
use Rattle.rvf_graph.proofs.bit_name.bit_names.Given as goal

-- the names so far, and those of the notes that are left
abbrev pub invariant-loop-note : goal.invariant-loop-note
invariant-loop-note l = l.names ++ map name_of (drop l.note-index l.notes) ≡ map name_of l.notes
