use Rattle.std.specs.Prelude.{take}
use Rattle.wn_net.specs.Net.{value_at}
use Rattle.wn_net.specs.Changes.{AddsNodes}
use Rattle.ck_history.specs.Truths.{Tells}
use Rattle.bm_induct.specs.Past.{all_other}
use Rattle.bm_induct.proofs.fails.are_other.Given as goal

abbrev pub invariant-loop-id : goal.invariant-loop-id
invariant-loop-id l = record {
  adds : AddsNodes l.fn.net l.net;
  tells : Tells l.fn.net l.net (λ g. all_other (value_at l.fn.net g) (take l.id-index l.ids)) l.all;
}
