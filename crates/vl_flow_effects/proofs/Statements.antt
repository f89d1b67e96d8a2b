-- The effects of statements from those of their parts.
use Rattle.std.specs.Prelude.{◌≡◌, refl, List, Bool, true, false, ◌&&◌, ◌||◌}
use Rattle.std.proofs.Common.{ap, sym, subst}
use Rattle.fv_text.specs.declared.pos.Pos.{Pos}
use Rattle.vl_tree.specs.Attributes.{Attributes}
use Rattle.vl_tree.specs.declared.stmt.Arm.{Arm}
use Rattle.vl_tree.specs.declared.stmt.Arm.TheVariants as a
use Rattle.vl_tree.specs.declared.stmt.CaseKind.{CaseKind}
use Rattle.vl_tree.specs.Expr.{Expr}
use Rattle.vl_tree.specs.Stmt.{Stmt, Arms, if_only, if_else, case, assume, empty, no_arms, labels, default}
use Rattle.vl_tree.specs.StmtView.{with_arm}
use Rattle.vl_size.specs.declared.decl.Decl.{Decl}
use Rattle.fv_bit_sets.specs.declared.step.Step.{Step}
use Rattle.fv_bit_sets.specs.Cells.{has}
use Rattle.vl_flow_spec.specs.Reads.{Bits, reads}
use Rattle.vl_flow_spec.specs.Paths.{is_blocking, is_nonblocking, any_kind, has_default, sure, changes, needs}
use Rattle.vl_flow_spec.specs.Paths.{arms_sure}
use Rattle.vl_flow_spec.specs.Paths.{arms_change, arms_need, labels_read}
use Rattle.vl_flow_cells.specs.Numbered.{Shows}
use Rattle.vl_flow_cells.specs.Sized.{ArmsAreSized, LabelsAreSized, StmtIsSized}
use Rattle.vl_flow_effects.specs.declared.effect.Effect.{Effect}
use Rattle.vl_flow_effects.specs.Effects.{HasSets, IsEffectOf, IsEffectOfArms}
use Rattle.vl_flow_effects.specs.Joins.{IsNone, IsEither, IsBehind}
use Rattle.vl_flow_effects.proofs.Tests.{or_none, and_all, and_none}
use Rattle.vl_flow_effects.proofs.Joining.{either_sets, behind_sets, sets_as}
use Rattle.vl_flow_effects.proofs.Sequences.{nothing, none_sets}

module _ (ds : List Decl) (attrs : Attributes) (p : Pos) where
  pub empty_effect : (e : Effect) → IsNone e → IsEffectOf ds e (empty attrs p)
  empty_effect e h = none_sets ds e h

  pub assume_effect : (x : Expr) (none made : Effect) (read : List Step) → IsNone none → IsBehind none read made
      → Shows ds (has read) (reads ds x) → IsEffectOf ds made (assume attrs p x)
  assume_effect x none made read h m r =
      sets_as ds made (λ n i. reads ds x n i || false) nothing nothing nothing nothing (reads ds x) nothing nothing
      nothing nothing (λ n i. or_none (reads ds x n i)) (λ n i. refl) (λ n i. refl) (λ n i. refl) (λ n i. refl)
      (behind_sets ds none made read (reads ds x) nothing nothing nothing nothing nothing m r (none_sets ds none h))

  pub only_effect : (c : Expr) (x : Stmt) (first second joined made : Effect) (read : List Step)
      → IsEither first second joined → IsBehind joined read made → Shows ds (has read) (reads ds c)
      → IsEffectOf ds first x → IsEffectOf ds second (empty attrs p) → IsEffectOf ds made (if_only attrs p c x)
  only_effect c x first second joined made read m b r h g =
      let R = reads ds c in
      let N = needs ds x in
      let S = sure ds is_blocking x in
      let T = sure ds any_kind x in
      let B = changes ds is_blocking x in
      let L = changes ds is_nonblocking x in
      sets_as ds made (λ n i. R n i || (N n i || false)) (λ n i. S n i && false) (λ n i. T n i && false)
      (λ n i. B n i || false) (λ n i. L n i || false) (λ n i. R n i || N n i) nothing nothing B L
      (λ n i. ap (λ t. R n i || t) (or_none (N n i))) (λ n i. and_none (S n i)) (λ n i. and_none (T n i))
      (λ n i. or_none (B n i)) (λ n i. or_none (L n i))
      (behind_sets ds joined made read R (λ n i. N n i || false) (λ n i. S n i && false) (λ n i. T n i && false)
      (λ n i. B n i || false) (λ n i. L n i || false) b r
      (either_sets ds first second joined N S T B L nothing nothing nothing nothing nothing m h g))

  pub else_effect : (c : Expr) (x y : Stmt) (first second joined made : Effect) (read : List Step)
      → IsEither first second joined → IsBehind joined read made → Shows ds (has read) (reads ds c)
      → IsEffectOf ds first x → IsEffectOf ds second y → IsEffectOf ds made (if_else attrs p c x y)
  else_effect c x y first second joined made read m b r h g =
      let N = needs ds x in
      let N' = needs ds y in
      let S = sure ds is_blocking x in
      let S' = sure ds is_blocking y in
      let T = sure ds any_kind x in
      let T' = sure ds any_kind y in
      let B = changes ds is_blocking x in
      let B' = changes ds is_blocking y in
      let L = changes ds is_nonblocking x in
      let L' = changes ds is_nonblocking y in
      behind_sets ds joined made read (reads ds c) (λ n i. N n i || N' n i) (λ n i. S n i && S' n i)
      (λ n i. T n i && T' n i) (λ n i. B n i || B' n i) (λ n i. L n i || L' n i) b r
      (either_sets ds first second joined N S T B L N' S' T' B' L' m h g)

  pub case_effect : (kind : CaseKind) (c : Expr) (xs : Arms) (e made : Effect) (read : List Step)
      → IsBehind e read made → Shows ds (has read) (reads ds c) → IsEffectOfArms ds e xs
      → IsEffectOf ds made (case attrs p kind c xs)
  case_effect kind c xs e made read b r h =
      behind_sets ds e made read (reads ds c) (arms_need ds xs)
      (λ n i. has_default xs && arms_sure ds is_blocking xs n i) (λ n i. has_default xs && arms_sure ds any_kind xs n i)
      (arms_change ds is_blocking xs) (arms_change ds is_nonblocking xs) b r h

module _ (ds : List Decl) where
  pub arm_sized : (x : Arm) (rest : Arms) → ArmsAreSized ds (with_arm x rest)
      → ArmsAreSized ds (with_arm x no_arms) × ArmsAreSized ds rest
  arm_sized (a.Labels p es s) rest h = ((h.0, (h.1.0, tt)), h.1.1)
  arm_sized (a.Default p colon s) rest h = ((h.0, tt), h.1)

  -- an arm alone
  alone : (e : Effect) (R : Bits) (x : Stmt)
      → HasSets ds e (λ n i. R n i || needs ds x n i) (sure ds is_blocking x) (sure ds any_kind x)
      (changes ds is_blocking x) (changes ds is_nonblocking x)
      → HasSets ds e (λ n i. R n i || (needs ds x n i || false)) (λ n i. sure ds is_blocking x n i && true)
      (λ n i. sure ds any_kind x n i && true) (λ n i. changes ds is_blocking x n i || false)
      (λ n i. changes ds is_nonblocking x n i || false)
  alone e R x h =
      sets_as ds e (λ n i. R n i || needs ds x n i) (sure ds is_blocking x) (sure ds any_kind x)
      (changes ds is_blocking x) (changes ds is_nonblocking x) (λ n i. R n i || (needs ds x n i || false))
      (λ n i. sure ds is_blocking x n i && true) (λ n i. sure ds any_kind x n i && true)
      (λ n i. changes ds is_blocking x n i || false) (λ n i. changes ds is_nonblocking x n i || false)
      (λ n i. ap (λ b. R n i || b) (sym (or_none (needs ds x n i)))) (λ n i. sym (and_all (sure ds is_blocking x n i)))
      (λ n i. sym (and_all (sure ds any_kind x n i))) (λ n i. sym (or_none (changes ds is_blocking x n i)))
      (λ n i. sym (or_none (changes ds is_nonblocking x n i))) h

  pub labels_effect : (p : Pos) (es : List Expr) (x : Stmt) (e made : Effect) (read : List Step)
      → IsBehind e read made → (es' : List Expr) (x' : Stmt) → es' ≡ es → x' ≡ x
      → (LabelsAreSized ds es' → Shows ds (has read) (labels_read ds es')) → (StmtIsSized ds x' → IsEffectOf ds e x')
      → LabelsAreSized ds es → StmtIsSized ds x
      → HasSets ds made (arms_need ds (labels p es x no_arms)) (arms_sure ds is_blocking (labels p es x no_arms))
      (arms_sure ds any_kind (labels p es x no_arms)) (arms_change ds is_blocking (labels p es x no_arms))
      (arms_change ds is_nonblocking (labels p es x no_arms))
  labels_effect p es x e made read m es' x' f g reads effect one other =
      let shown = subst (λ ys. LabelsAreSized ds ys → Shows ds (has read) (labels_read ds ys)) f reads one in
      let inner = subst (λ y. StmtIsSized ds y → IsEffectOf ds e y) g effect other in
      alone made (labels_read ds es) x
      (behind_sets ds e made read (labels_read ds es) (needs ds x) (sure ds is_blocking x) (sure ds any_kind x)
      (changes ds is_blocking x) (changes ds is_nonblocking x) m shown inner)

  pub default_effect : (p : Pos) (colon : Bool) (x : Stmt) (e : Effect) → IsEffectOf ds e x
      → HasSets ds e (arms_need ds (default p colon x no_arms)) (arms_sure ds is_blocking (default p colon x no_arms))
      (arms_sure ds any_kind (default p colon x no_arms)) (arms_change ds is_blocking (default p colon x no_arms))
      (arms_change ds is_nonblocking (default p colon x no_arms))
  default_effect p colon x e h = alone e nothing x h
