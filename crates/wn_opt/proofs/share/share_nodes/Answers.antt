use Rattle.std.specs.Prelude.{List, Option, ℕ, [], ◌∷◌, ◌++◌, length}
use Rattle.std.proofs.Common.{ap, sym, ◌∙◌, subst, arith}
use Rattle.wn_opt.specs.Rebuilt.{AreShared}
use Rattle.wn_opt.proofs.Begun.{item_at}
use Rattle.wn_opt.proofs.share.share_nodes.Goals as goal

pub loop-node-init : goal.loop-node-init
loop-node-init c =
    let P : List (Option ℕ) → Type 0 = λ t. AreShared c.args.net.now c.args.marks.now c.args.hashed.now t in
    record {
      shared = subst P (sym c.in_ok-places.ensures.items) c.requires.shared;
      each = ap length c.in_ok-places.ensures.items;
    }

pub share_next-requires-clause-shared : goal.share_next-requires-clause-shared
share_next-requires-clause-shared c =
    let P : List (Option ℕ) → Type 0 = λ t. AreShared c.args.net.now c.args.marks.now c.loop-node.hashed t in
    subst P (sym c.as_slice.ensures.value) c.loop-node.invariant.shared

pub share_next-requires-clause-at : goal.share_next-requires-clause-at
share_next-requires-clause-at c =
    item_at c.args.net.now.nodes c.nodes-node-items.result.now c.loop-node.node-index
    (length c.as_slice.result.now) c.node-item.result c.node-item.result c.nodes-node-items.ensures.value
    (ap length c.as_slice.ensures.value ∙ c.loop-node.invariant.each) (omega arith) c.node-item.is

pub loop-node-preserved : goal.loop-node-preserved
loop-node-preserved c =
    let P : List (Option ℕ) → Type 0 = λ t. AreShared c.args.net.now c.args.marks.now c.share_next.new.hashed t in
    record {
      shared = subst P
          (ap (λ t. t ++ c.in_ok-place.place ∷ []) c.as_slice.ensures.value ∙ sym c.in_ok-push.ensures.items)
          c.in_ok-place.ensures;
      each = omega (arith, ap length c.in_ok-push.ensures.items, c.in_ok-push.ensures.len, c.loop-node.invariant.each);
    }
