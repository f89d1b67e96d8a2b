use Rattle.std.specs.Prelude.{◌≡◌, ◌+◌, ◌*◌, ◌<◌, ◌++◌, ◌∷◌, [], List, ℕ, length, take, slice_index}
use Rattle.std.proofs.Common.{ap, sym, ◌∙◌, arith, subst}
use Rattle.std.proofs.lemmas.List.{length_push, take-append-le, get_or_read}
use Rattle.wn_net.specs.Net.{AreNodesOf}
use Rattle.ck_history.specs.Lines.{IsBehind, IsHistory}
use Rattle.ck_history.proofs.Lines.{some_words, known_on, nodes_with, nodes_push, history_on, history_push}
use Rattle.ck_history.proofs.line.history.Goals as goal

pub loop-place-preserved : goal.loop-place-preserved
loop-place-preserved c =
    let inv = c.loop-place.invariant in
    let one = c.in_ok-id.ensures in
    let new = c.delay.new.net in
    let made = c.loop-place.made.items in
    let id = c.in_ok-id.id in
    let n = length c.args.words.now in
    let items = c.in_ok-push.ensures.items in
    let some : 0 < n = some_words n c.args.cycles c.loop-place.place c.loop-place-test.true in
    let P : List ℕ → Type 0 = λ xs. AreNodesOf new 102 xs in
    let Q : List ℕ → Type 0 = λ xs. IsHistory new n xs in
    let R : ℕ → Type 0 = λ x. IsBehind new x id in
    let behind : IsBehind new (slice_index made c.loop-place.place) id =
    subst R (get_or_read made c.loop-place.place c.index.result.now (omega (arith, inv.many, some)) c.index.ensures 0)
    one.behind in
    record {
      known = known_on _ _ _ c.loop-place.place 1 inv.known one.adds;
      nodes = subst P (sym items) (nodes_push new 102 made id (nodes_with _ new 102 made one.adds.adds inv.nodes)
          one.there);
      many = ap length items ∙ length_push made id ∙ omega (arith, inv.many);
      first = ap (take n) items ∙ take-append-le n made (id ∷ []) (omega (arith, inv.many)) ∙ inv.first;
      behind = subst Q (sym items) (history_push new n c.loop-place.place made id
          (history_on _ new 102 n made one.whole one.adds.adds inv.nodes inv.behind) inv.many behind some);
    }
