use Rattle.std.proofs.Common.{◌≡◌, ◌+◌, ◌∷◌, drop, sym, subst, arith}
use Rattle.std.proofs.lemmas.Grind.{common_steps}
use Rattle.vl_tree.specs.Lval.{lvals}
use Rattle.vl_flow_spec.specs.Paths.{sets, any_sets}
use Rattle.vl_flow_cells.specs.Numbered.{Adds}
use Rattle.vl_flow_cells.specs.Sized.{TargetsAreSized}
use Rattle.vl_flow_cells.proofs.Adding.{adds_then}
use Rattle.vl_flow_cells.proofs.targets.+sets.Goals as goal

pub loop-part-preserved : goal.loop-part-preserved
loop-part-preserved t c =
    let ds = c.args.decls.now in
    let xs = c.as_slice-part-items.result.now in
    let i = c.loop-part.part-index in
    let l = c.part-item.result in
    let front : drop i xs ≡ l ∷ drop (i + 1) xs = grind (arith, common_steps) in
    let old = c.loop-part.into.items in
    let new = c.target_sets.new.into.items in record {
      left = λ h. (subst (λ ls. TargetsAreSized ds (lvals ls)) front (c.loop-part.invariant.left h)).1;
      added = λ h zs rest. c.loop-part.invariant.added h zs
          (subst (λ ls. Adds ds old zs (any_sets ds (lvals ls))) (sym front)
          (adds_then ds old new zs (sets ds l) (any_sets ds (lvals (drop (i + 1) xs)))
          (c.in_ok-target_sets-in-Concat.ensures (subst (λ ls. TargetsAreSized ds (lvals ls)) front
          (c.loop-part.invariant.left h)).0)
          rest));
    }
