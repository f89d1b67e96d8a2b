use Rattle.std.specs.Prelude.{List, Option, ℕ, [], ◌∷◌, ◌++◌, length}
use Rattle.std.proofs.Common.{ap, sym, ◌∙◌, subst, arith}
use Rattle.wn_opt.specs.Rebuilt.{AreNarrowed}
use Rattle.wn_opt.proofs.Begun.{item_at}
use Rattle.wn_opt.proofs.narrow.narrow_nodes.Goals as goal

pub loop-node-init : goal.loop-node-init
loop-node-init c =
    let P : List (Option ℕ) → Type 0 = λ t. AreNarrowed c.args.net.now c.args.marks.now c.args.part.now c.args.inputs.now.items t in
    record {
      narrowed = subst P (sym c.in_ok-places.ensures.items) c.requires.narrowed;
      each = ap length c.in_ok-places.ensures.items;
    }

pub narrow_next-requires-clause-narrowed : goal.narrow_next-requires-clause-narrowed
narrow_next-requires-clause-narrowed c =
    let P : List (Option ℕ) → Type 0 = λ t. AreNarrowed c.args.net.now c.args.marks.now c.loop-node.part c.loop-node.inputs.items t in
    subst P (sym c.as_slice.ensures.value) c.loop-node.invariant.narrowed

pub narrow_next-requires-clause-at : goal.narrow_next-requires-clause-at
narrow_next-requires-clause-at c =
    item_at c.args.net.now.nodes c.nodes-node-items.result.now c.loop-node.node-index
    (length c.as_slice.result.now) c.node-item.result c.node-item.result c.nodes-node-items.ensures.value
    (ap length c.as_slice.ensures.value ∙ c.loop-node.invariant.each) (omega arith) c.node-item.is

pub loop-node-preserved : goal.loop-node-preserved
loop-node-preserved c =
    let P : List (Option ℕ) → Type 0 = λ t. AreNarrowed c.args.net.now c.args.marks.now c.narrow_next.new.part c.narrow_next.new.inputs.items t in
    record {
      narrowed = subst P
          (ap (λ t. t ++ c.in_ok-place.place ∷ []) c.as_slice.ensures.value ∙ sym c.in_ok-push.ensures.items)
          c.in_ok-place.ensures;
      each = omega (arith, ap length c.in_ok-push.ensures.items, c.in_ok-push.ensures.len, c.loop-node.invariant.each);
    }
