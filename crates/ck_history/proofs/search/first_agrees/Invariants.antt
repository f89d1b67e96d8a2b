use Rattle.std.specs.Prelude.{◌≡◌, ◌≤◌, List, length, drop}
use Rattle.wn_net.specs.Value.{Given}
use Rattle.wn_net.specs.Net.{IsNodeOf}
use Rattle.wn_net.specs.Given.{IsGiven}
use Rattle.wn_net.specs.Changes.{AddsNodes}
use Rattle.ck_history.specs.Truths.{is_one}
use Rattle.ck_history.specs.Entries.{Entry, Show, entry_at}
use Rattle.ck_history.specs.Searches.{first_agrees}
use Rattle.ck_history.proofs.search.first_agrees.Given as goal

abbrev pub decreases-loop-place : goal.decreases-loop-place
decreases-loop-place l = l.place

abbrev pub invariant-loop-place : goal.invariant-loop-place
invariant-loop-place l = record {
  adds : AddsNodes l.fn.net l.net;
  there : IsNodeOf l.net 1 l.id;
  within : l.place ≤ length l.words;
  tells : (g : Given) (es : List Entry) → IsGiven l.fn.net g → Show l.fn.net g l.words es
      → is_one l.net g l.id ≡ first_agrees l.sought (entry_at l.fn.net g l.own) (drop l.place es);
}
