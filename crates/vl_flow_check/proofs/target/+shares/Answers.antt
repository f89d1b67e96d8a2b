use Rattle.std.proofs.Common.{◌≡◌, ◌+◌, ◌∷◌, ◌∙◌, ap, arith, drop, subst, sym, true}
use Rattle.std.proofs.lemmas.Grind.{common_steps}
use Rattle.vl_tree.specs.ExprView.{selects}
use Rattle.vl_tree.specs.Lval.{lvals, named}
use Rattle.vl_tree.specs.LvalView.{shown}
use Rattle.vl_mean.specs.FlatLaw.{AreTargets, is_net}
use Rattle.vl_flow_cells.specs.Sized.{TargetsAreSized}
use Rattle.vl_flow_check.specs.Shares.{AddsPlaces, target_places}
use Rattle.vl_flow_check.proofs.Places.{adds_then}
use Rattle.vl_flow_check.proofs.Targets.{all_target_places, first_target, name_added}
use Rattle.vl_flow_check.proofs.target.+shares.Goals as goal

pub loop-part-preserved : goal.loop-part-preserved
loop-part-preserved t c =
    let ds = c.args.decls.now in
    let p = c.args.pos in
    let xs = c.as_slice-part-items.result.now in
    let i = c.loop-part.part-index in
    let l = c.part-item.result in
    let rest = lvals (drop (i + 1) xs) in
    let front : drop i xs ≡ l ∷ drop (i + 1) xs = grind (arith, common_steps) in
    let old = c.loop-part.into.items in
    let new = c.target_shares.new.into.items in record {
      sized = λ h. (subst (λ ls. TargetsAreSized ds (lvals ls)) front (c.loop-part.invariant.sized h)).1;
      fixed = λ h. (subst (λ ls. AreTargets ds is_net true (lvals ls)) front (c.loop-part.invariant.fixed h)).1;
      added = λ h f zs others. c.loop-part.invariant.added h f zs
          (subst (λ ls. AddsPlaces ds old zs (all_target_places ds (lvals ls) p)) (sym front)
          (adds_then ds old new zs (target_places ds l p) (all_target_places ds rest p)
          (λ n k. all_target_places ds (lvals (l ∷ drop (i + 1) xs)) p n k) (first_target ds l rest p)
          (c.in_ok-target_shares-in-Concat.ensures
          (subst (λ ls. TargetsAreSized ds (lvals ls)) front (c.loop-part.invariant.sized h)).0
          (subst (λ ls. AreTargets ds is_net true (lvals ls)) front (c.loop-part.invariant.fixed f)).0) others));
    }

pub returns-in_ok-push-in-Name : goal.returns-in_ok-push-in-Name
returns-in_ok-push-in-Name t c sized is =
    let ds = c.args.decls.now in
    let p = c.target.inside.pos in
    let l = c.args.target.now in
    let text = c.in-Name.field-0 in
    let xs = selects c.in-Name.field-1 in
    let bits = c.in_ok-bits-in-Name.bits in
    let same : named p text xs ≡ l = ap (shown p) (sym c.in-Name.is) ∙ c.target.view_is in
    name_added ds p text xs l c.args.pos bits c.args.into.now.items c.push.new.shares.items same
    (c.in_ok-bits-in-Name.ensures sized) is c.in_ok-push-in-Name.ensures
