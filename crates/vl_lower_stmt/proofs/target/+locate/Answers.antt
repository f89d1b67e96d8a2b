use Rattle.std.proofs.Common.{◌≡◌, ◌+◌, ◌≤◌, ◌++◌, ◌∷◌, [], length, drop, take, ap, sym, ◌∙◌, subst, rules, arith}
use Rattle.std.proofs.lemmas.Grind.{common_steps}
use Rattle.std.proofs.lemmas.List.{take_all}
use Rattle.vl_tree.specs.ExprView.{selects}
use Rattle.vl_tree.specs.Lval.{Lval, joined, lvals, named}
use Rattle.vl_tree.specs.LvalView.{shown}
use Rattle.vl_mean.specs.FlatLaw.{all_target_sizes, flat_scopes, target_size}
use Rattle.vl_mean.specs.Targets.{all_spots, spots}
use Rattle.vl_lower_stmt.specs.Located.{AreSizedTargets, Locates}
use Rattle.vl_lower_stmt.proofs.Locating.{locates_more, locates_none, locates_one}
use Rattle.vl_lower_stmt.proofs.target.+locate.Goals as goal

pub locate-returns-in_ok-push-in-Name : goal.locate-returns-in_ok-push-in-Name
locate-returns-in_ok-push-in-Name t c =
    let ds = c.args.layout.decls.now in
    let p = c.target.inside.pos in
    let text = c.in-Name.text in
    let xs = c.in-Name.all in
    let old = c.args.net.now in
    let new = c.slot_of.new.net in
    let slice : c.as_slice.result.now ≡ xs = search rules in
    let same : named p text (selects xs) ≡ c.args.target.now = ap (shown p) (sym c.in-Name.is) ∙ c.target.view_is in
    let P : Lval → Type 0 = λ l. Locates ds old new c.args.cells.now c.args.slots.now c.push.new.self
    (target_size ds l) (λ v. spots (flat_scopes ds) v l) in
    subst P same
    (subst (λ ys. Locates ds old new c.args.cells.now c.args.slots.now c.push.new.self (target_size ds (named p text
    (selects ys)))
    (λ v. spots (flat_scopes ds) v (named p text (selects ys)))) slice
    (locates_one ds old new c.args.cells.now c.args.slots.now c.push.new.self c.in_ok-slot-in-Name.slot _ _
    c.requires.slots (c.in_ok-slot-in-Name.ensures p) c.in_ok-push-in-Name.ensures.ok))

pub locate-returns-in_ok-locate_all-in-Concat : goal.locate-returns-in_ok-locate_all-in-Concat
locate-returns-in_ok-locate_all-in-Concat t c =
    let ds = c.args.layout.decls.now in
    let p = c.target.inside.pos in
    let ls = c.in-Concat.parts in
    let old = c.args.net.now in
    let new = c.locate_all.new.net in
    let slice : c.as_slice-in-Concat.result.now ≡ ls = search rules in
    let same : joined p (lvals ls) ≡ c.args.target.now = ap (shown p) (sym c.in-Concat.is) ∙ c.target.view_is in
    let P : Lval → Type 0 = λ l. Locates ds old new c.args.cells.now c.args.slots.now c.locate_all.new.slots
    (target_size ds l) (λ v. spots (flat_scopes ds) v l) in
    subst P same
    (subst (λ ys. Locates ds old new c.args.cells.now c.args.slots.now c.locate_all.new.slots
    (all_target_sizes ds (lvals ys)) (λ v. all_spots (flat_scopes ds) v (lvals ys))) slice
    c.in_ok-locate_all-in-Concat.ensures)

pub locate_all-loop-part-init : goal.locate_all-loop-part-init
locate_all-loop-part-init t c = record {
  left = c.requires.sized;
  done = locates_none c.args.layout.decls.now c.args.net.now c.args.cells.now c.args.slots.now c.requires.slots;
}

pub locate_all-loop-part-preserved : goal.locate_all-loop-part-preserved
locate_all-loop-part-preserved t c =
    let ds = c.args.layout.decls.now in
    let xs = c.args.parts.now in
    let i = c.loop-part.part-index in
    let l = c.part-item.result in
    let front : drop i xs ≡ l ∷ drop (i + 1) xs = grind (arith, common_steps) in
    let more : take (i + 1) xs ≡ take i xs ++ l ∷ [] = grind (arith, common_steps) in
    let parts = subst (λ ys. AreSizedTargets ds (lvals ys)) front c.loop-part.invariant.left in
    record {
      left = parts.1;
      done =
          subst (λ ys. Locates ds c.args.net.now c.locate.new.net c.args.cells.now c.args.slots.now c.locate.new.slots
          (all_target_sizes ds (lvals ys)) (λ v. all_spots (flat_scopes ds) v (lvals ys))) (sym more)
          (locates_more ds c.args.net.now c.loop-part.net c.locate.new.net c.args.cells.now c.args.slots.now
          c.loop-part.slots c.locate.new.slots (take i xs) l c.requires.cells c.loop-part.invariant.done
          c.in_ok-locate.ensures);
    }

pub locate_all-returns : goal.locate_all-returns
locate_all-returns t c =
    let ds = c.args.layout.decls.now in
    let xs = c.args.parts.now in
    let i = c.loop-part.part-index in
    let past : length xs ≤ i = grind (arith, common_steps) in
    subst (λ ys. Locates ds c.args.net.now c.loop-part.net c.args.cells.now c.args.slots.now c.loop-part.slots
    (all_target_sizes ds (lvals ys)) (λ v. all_spots (flat_scopes ds) v (lvals ys))) (take_all i xs past)
    c.loop-part.invariant.done
