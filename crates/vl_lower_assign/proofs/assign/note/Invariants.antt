use Rattle.std.proofs.Common.{◌≡◌, ◌-◌, ◌++◌}
use Rattle.vl_lower_assign.specs.Logs.{noted}
use Rattle.vl_lower_assign.proofs.assign.note.Given as goal

abbrev pub invariant-loop-cell : goal.invariant-loop-cell
invariant-loop-cell l = record {
  now : l.frame.now.items ≡ l.initial.frame.now.items;
  next : l.frame.next.items ≡ l.initial.frame.next.items;
  assumed : l.frame.assumed ≡ l.initial.frame.assumed;
  tracks : l.frame.tracks.items ≡ l.initial.frame.tracks.items;
  log : l.frame.log ≡ l.initial.frame.log ++ noted l.first (l.cell - l.first) l.initial.frame.now.items;
}
