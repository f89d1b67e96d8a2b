use Rattle.std.proofs.Common.{length, ◌-◌}
use Rattle.wn_opt.specs.Marks.{AreIn, Walks}
use Rattle.wn_opt.proofs.Walking.{AreFollowed}
use Rattle.wn_opt.proofs.marks.Marks.follow_all.Given as goal

abbrev pub invariant-loop-place : goal.invariant-loop-place
invariant-loop-place l = record {
  walks : Walks l.net l.roots l.self;
  followed : AreFollowed l.net l.self l.place;
  first : AreIn l.self.list.items l.roots;
}

abbrev pub decreases-loop-place : goal.decreases-loop-place
decreases-loop-place l = length l.net.nodes - l.place
