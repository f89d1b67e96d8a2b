use Rattle.std.specs.Prelude.{◌≡◌, ◌≤◌, length, take}
use Rattle.vl_lower_assign.specs.Frames.{taken_back}
use Rattle.vl_lower.proofs.handed.take_back.Given as goal

-- the first changes are left to be taken back
abbrev pub invariant-loop-left : goal.invariant-loop-left
invariant-loop-left l = record {
  back : taken_back (take l.left l.frame.log) l.frame.now.items ≡ taken_back l.fn.frame.log l.fn.frame.now.items;
  log : l.frame.log ≡ l.fn.frame.log;
  next : l.frame.next.items ≡ l.fn.frame.next.items;
  assumed : l.frame.assumed ≡ l.fn.frame.assumed;
  tracks : l.frame.tracks.items ≡ l.fn.frame.tracks.items;
  within : l.left ≤ length l.frame.log;
}

abbrev pub decreases-loop-left : goal.decreases-loop-left
decreases-loop-left l = l.left
