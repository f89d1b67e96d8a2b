use Rattle.std.proofs.Common.{◌≡◌, ◌+◌, length, take}
use Rattle.wn_net.specs.Net.{AreNodesOf}
use Rattle.ck_history.specs.Lines.{IsHistory, AddsKnown}
use Rattle.ck_history.proofs.line.history.Given as goal

abbrev pub invariant-loop-place : goal.invariant-loop-place
invariant-loop-place l = record {
  known : AddsKnown l.fn.net l.net l.place;
  nodes : AreNodesOf l.net 102 l.made.items;
  many : length l.made.items ≡ length l.words + l.place;
  first : take (length l.words) l.made.items ≡ l.words;
  behind : IsHistory l.net (length l.words) l.made.items;
}
