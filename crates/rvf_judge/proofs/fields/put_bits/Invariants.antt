use Rattle.std.proofs.Common.{◌≡◌, ◌++◌, ◌-◌}
use Rattle.rvf_judge.specs.NoteLinesParts.{bits_from}
use Rattle.rvf_judge.proofs.fields.put_bits.Given as goal

abbrev pub invariant-loop-bit : goal.invariant-loop-bit
invariant-loop-bit l =
    l.made ++ bits_from l.channel l.cycle l.field l.lits l.bit (l.count - l.bit)
    ≡ l.initial.made ++ bits_from l.channel l.cycle l.field l.lits 0 l.count
