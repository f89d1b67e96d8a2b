use Rattle.std.specs.Prelude.{◌≡◌, ◌+◌, ℕ, slice_index_or}
use Rattle.std.proofs.Common.{arith, ap, refl, subst, sym}
use Rattle.wn_net.specs.Net.{IsNode, width_at}
use Rattle.bm_induct.specs.Rebuilt.{moved_id}
use Rattle.bm_induct.proofs.Items.{all_in, at_place}
use Rattle.bm_induct.proofs.Rest.{assumes_next, stand_on}
use Rattle.bm_induct.proofs.behind.put_assumes.Goals as goal

pub overflow_add-copy : goal.overflow_add-copy
overflow_add-copy c =
    let net = c.args.net.now in
    let i = c.loop-id.id-index in
    let items = c.assumes-id-items.result.now in
    let x = slice_index_or items i 0 in
    let own = all_in (IsNode net) net.assumes i x c.assumes-id-items.ensures.whole.assumes
    (at_place items net.assumes i x 0 c.assumes-id-items.ensures.value (omega arith) refl) in
    omega (arith, own, c.requires.few, c.requires.long)

pub assume-requires : goal.assume-requires
assume-requires c =
    let net = c.args.net.now in
    let i = c.loop-id.id-index in
    let items = c.assumes-id-items.result.now in
    let x = slice_index_or items i 0 in
    let made = c.loop-id.made in
    let own = all_in (IsNode net) net.assumes i x c.assumes-id-items.ensures.whole.assumes
    (at_place items net.assumes i x 0 c.assumes-id-items.ensures.value (omega arith) refl) in
    let to : moved_id net x ≡ x + c.args.more = ap (λ k. x + k) (sym c.requires.more) in
    let P : ℕ → Type 0 = λ id. IsNode made id in
    subst P to (c.loop-id.invariant.stand (width_at net x) x (own, refl)).0

pub loop-id-preserved : goal.loop-id-preserved
loop-id-preserved c =
    let net = c.args.net.now in
    let i = c.loop-id.id-index in
    let items = c.assumes-id-items.result.now in
    let x = slice_index_or items i 0 in
    let to : x + c.args.more ≡ moved_id net x = ap (λ k. x + k) c.requires.more in
    record {
      assumes =
          assumes_next c.args.how net c.loop-id.made c.assume.new.self i x _ c.loop-id.invariant.assumes
          (at_place items net.assumes i x 0 c.assumes-id-items.ensures.value (omega arith) refl) to
          c.in_ok-assume.ensures.new;
      stand = stand_on net c.loop-id.made c.assume.new.self c.in_ok-assume.ensures.keeps c.loop-id.invariant.stand;
    }
