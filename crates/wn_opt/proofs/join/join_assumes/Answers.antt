use Rattle.std.specs.Prelude.{◌<◌, None, Some, length, slice_index_or}
use Rattle.std.proofs.Common.{refl, ap, ◌∙◌, arith}
use Rattle.std.proofs.lemmas.Option.{slice_get-get_or}
use Rattle.wn_net.specs.Net.{IsNode}
use Rattle.wn_opt.proofs.Before.{all_in}
use Rattle.wn_opt.proofs.Begun.{item_at}
use Rattle.wn_opt.proofs.Joining.{assumed_there, assumes_none, assumes_step}
use Rattle.wn_opt.proofs.join.join_assumes.Goals as goal

pub loop-id-init : goal.loop-id-init
loop-id-init c = assumes_none c.args.net.now c.args.part.now c.args.part.now c.args.places.now refl

pub join_assume-requires : goal.join_assume-requires
join_assume-requires c = λ at e.
    let net = c.args.net.now in
    let k = c.loop-id.id-index in
    let items = c.assumes-id-items.result.now in
    let id = slice_index_or items k 0 in
    let inside : k < length items = omega arith in
    let here = item_at net.assumes items k k id 0 c.assumes-id-items.ensures.value refl inside refl in
    let there : id < length net.nodes =
    all_in (IsNode net) net.assumes id c.assumes-id-items.ensures.whole.assumes (k, here) in
    let less : id < length c.args.places.now = omega (arith, there, c.requires.each) in
    assumed_there net c.args.part.now c.loop-id.part c.args.nodes.now c.args.places.now k id at c.requires.copied
    c.loop-id.invariant (slice_get-get_or c.args.places.now id None less ∙ ap Some e)

pub loop-id-preserved : goal.loop-id-preserved
loop-id-preserved c =
    let net = c.args.net.now in
    let k = c.loop-id.id-index in
    let items = c.assumes-id-items.result.now in
    let id = slice_index_or items k 0 in
    let inside : k < length items = omega arith in
    let here = item_at net.assumes items k k id 0 c.assumes-id-items.ensures.value refl inside refl in
    let there : id < length net.nodes =
    all_in (IsNode net) net.assumes id c.assumes-id-items.ensures.whole.assumes (k, here) in
    let less : id < length c.args.places.now = omega (arith, there, c.requires.each) in
    assumes_step net c.args.part.now c.loop-id.part c.join_assume.new.part c.args.places.now k id
    (slice_index_or c.args.places.now id None) c.loop-id.invariant here
    (slice_get-get_or c.args.places.now id None less) c.in_ok-join_assume.ensures.skip
    c.in_ok-join_assume.ensures.set c.in_ok-join_assume.ensures.keeps
