-- The answered refusal of a target is that of its parts.
use Rattle.std.specs.Prelude.{◌≡◌, refl, ℕ, zero, suc, ◌≤◌, ◌<◌, List, [], ◌∷◌, ◌++◌}
use Rattle.std.specs.Prelude.{length, get_or, Bool, ◌||◌}
use Rattle.std.specs.Prelude.{Option, Some, None}
use Rattle.std.proofs.Common.{ap, ◌∙◌, arith}
use Rattle.fv_text.specs.declared.pos.Pos.{Pos}
use Rattle.vl_tree.specs.Expr.{Selects}
use Rattle.vl_tree.specs.Lval.{Lval, Lvals, named, joined, no_lvals, more_lvals, lvals, depth, lvals_depth}
use Rattle.vl_size.specs.Divisors.{selects_zero_divisor}
use Rattle.vl_mean.specs.Constants.{settled_selects}
use Rattle.vl_elab_spec.specs.declared.elab_fault.ElabFault.{ElabFault}
use Rattle.vl_elab_spec.specs.Expressions.{too_wide, name_width, is_constant_name, select_refusals, divided_by_zero}
use Rattle.vl_elab_spec.specs.Meanings.{Meaning, Names, meaning_in, constants, objects}
use Rattle.vl_elab_spec.specs.Refused.{lower_of, lowest}
use Rattle.vl_elab_spec.specs.Statements.{assigned_refusals, target_selects, target_width, target_refusals}
use Rattle.vl_elab_spec.specs.Statements.{targets_refusals}
use Rattle.vl_elab_check_expr.specs.Judged.{selects_fault}
use Rattle.vl_elab_check_stmt.specs.Parts.{target_fault, targets_fault}
use Rattle.vl_elab_check_expr.proofs.Lowest.{lowest_two, same_selects_fault}

-- a part is no deeper than its list
pub part_depth : (ls : List Lval) (i : ℕ) (l : Lval) → i < length ls → l ≡ get_or ls i l
    → depth l ≤ lvals_depth (lvals ls)
part_depth [] i l h k = absurd (omega arith)
part_depth (f ∷ ls) zero l h k = let p : depth l ≤ depth f = omega (arith, ap depth k) in omega (arith, p)
part_depth (f ∷ ls) (suc i) l h k = omega (arith, part_depth ls i l (omega arith) k)

pub ruleset steps = (part_depth)

pub last_none : (g : Option ElabFault) → g ≡ lower_of g None
last_none None = refl
last_none (Some g) = refl

module _ (ns : List Names) (continuous fixed : Bool) where
  mutual
    pub same_target : (l : Lval)
        → target_fault ns continuous fixed l ≡ lowest (target_refusals ns continuous fixed l)
    same_target (named p text ss) = refl
    same_target (joined p ls) =
        lowest_two (targets_refusals ns continuous fixed ls) (too_wide p (target_width ns (joined p ls))) _ _
        (same_targets ls) refl

    same_targets : (ls : Lvals)
        → targets_fault ns continuous fixed ls ≡ lowest (targets_refusals ns continuous fixed ls)
    same_targets no_lvals = refl
    same_targets (more_lvals l ls) =
        lowest_two (target_refusals ns continuous fixed l) (targets_refusals ns continuous fixed ls) _ _ (same_target l)
        (same_targets ls)

  -- a name, whose parts are judged each by itself
  pub target_is : (b either : Bool) (p : Pos) (text : List ℕ) (ss : Selects) (m : Meaning)
      (inner assigned selected r : Option ElabFault) (place : Option Pos) (w : Option ℕ) → m ≡ meaning_in ns text
      → b ≡ is_constant_name ns m → either ≡ (fixed || b) → inner ≡ selects_fault ns either ss
      → place ≡ selects_zero_divisor (objects ns) (settled_selects (constants ns) ss)
      → assigned ≡ lowest (assigned_refusals ns continuous p text m)
      → selected ≡ lowest (target_selects ns p m (named p text ss)) → w ≡ name_width ns text m ss
      → r ≡ lower_of (lower_of (lower_of (lower_of inner (lowest (divided_by_zero place))) assigned) selected)
      (lowest (too_wide p w))
      → r ≡ lowest (target_refusals ns continuous fixed (named p text ss))
  target_is b either p text ss m inner assigned selected r place w e hb he hi hd ha hs hw hr =
      let whole = selects_zero_divisor (objects ns) (settled_selects (constants ns) ss) in
      let divided = divided_by_zero whole in
      let selects = select_refusals ns (fixed || is_constant_name ns m) ss in
      let taken = assigned_refusals ns continuous p text m in
      let chosen = target_selects ns p m (named p text ss) in
      let wide = too_wide p (name_width ns text m ss) in
      let fixed_is : either ≡ (fixed || is_constant_name ns m) = he ∙ ap (λ b. fixed || b) hb in
      let first : inner ≡ lowest selects =
      hi ∙ ap (λ b. selects_fault ns b ss) fixed_is ∙ same_selects_fault ns (fixed || is_constant_name ns m) ss in
      let all : r ≡ lowest (selects ++ divided ++ taken ++ chosen ++ wide) =
      hr ∙ lowest_two (selects ++ divided ++ taken ++ chosen) wide _ _
      (lowest_two (selects ++ divided ++ taken) chosen _ _ (lowest_two (selects ++ divided) taken _ _
      (lowest_two selects divided _ _ first (ap (λ o. lowest (divided_by_zero o)) hd)) ha) hs)
      (ap (λ w. lowest (too_wide p w)) hw) in
      all ∙ ap (λ m. lowest (select_refusals ns (fixed || is_constant_name ns m) ss ++ divided
      ++ assigned_refusals ns continuous p text m ++ target_selects ns p m (named p text ss)
      ++ too_wide p (name_width ns text m ss))) e
