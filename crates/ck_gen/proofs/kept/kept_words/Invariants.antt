use Rattle.std.proofs.Common.{◌≡◌, ◌+◌, length, map}
use Rattle.std.specs.Prelude.{drop}
use Rattle.wn_net.specs.Value.{Given}
use Rattle.wn_net.specs.Net.{AreNodesOf, value_at}
use Rattle.wn_net.specs.Changes.{AddsNodes}
use Rattle.ck_history.specs.Entries.{packed}
use Rattle.ck_gen.specs.Kept.{kept_in}
use Rattle.ck_gen.proofs.kept.kept_words.Given as goal

abbrev pub invariant-loop-place : goal.invariant-loop-place
invariant-loop-place l = record {
  adds : AddsNodes l.fn.net l.net;
  nodes : AreNodesOf l.net 102 l.made.items;
  many : length l.made.items + l.place ≡ length l.channels;
  values : (g : Given)
      → map (value_at l.net g) l.made.items ≡ map packed (kept_in l.kind l.fn.net g (drop l.place l.channels));
}

abbrev pub decreases-loop-place : goal.decreases-loop-place
decreases-loop-place l = l.place
