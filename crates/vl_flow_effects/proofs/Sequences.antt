-- The effects of statements one after the other, and of arms, from those of the first and of the last of them.
use Rattle.std.specs.Prelude.{◌≡◌, ℕ, List, [], ◌∷◌, ◌++◌, length, get_or, take, drop, false}
use Rattle.std.specs.Prelude.{◌&&◌, ◌||◌, not}
use Rattle.std.proofs.Common.{ap, sym, ◌∙◌, subst, arith}
use Rattle.std.proofs.lemmas.List.{take-append-drop}
use Rattle.vl_tree.specs.declared.stmt.Arm.{Arm}
use Rattle.vl_tree.specs.Stmt.{Stmt, stmts}
use Rattle.vl_tree.specs.StmtView.{arms}
use Rattle.vl_size.specs.declared.decl.Decl.{Decl}
use Rattle.vl_flow_spec.specs.Reads.{Bits}
use Rattle.vl_flow_spec.specs.Paths.{is_blocking, is_nonblocking, any_kind, has_default, sure, changes, needs, all_sure}
use Rattle.vl_flow_spec.specs.Paths.{any_changes, all_need, arms_sure, arms_change, arms_need}
use Rattle.vl_flow_effects.specs.declared.effect.Effect.{Effect}
use Rattle.vl_flow_effects.specs.Effects.{AreEach, HasSets, IsEffectOf, IsEffectOfAll, IsEffectOfSome, IsEffectOfArm}
use Rattle.vl_flow_effects.specs.Effects.{IsEffectOfArms}
use Rattle.vl_flow_effects.specs.Joins.{IsNone, IsThen, IsEither}
use Rattle.vl_flow_effects.proofs.Tests.{or_none, and_none, needed_one}
use Rattle.vl_flow_effects.proofs.Halves.{sure_halves, change_halves, need_halves, arms_sure_halves, arms_change_halves}
use Rattle.vl_flow_effects.proofs.Halves.{arms_need_halves}
use Rattle.vl_flow_effects.proofs.Joining.{then_sets, either_sets, sets_as}

abbrev pub nothing : Bits
nothing n i = false

module _ (ds : List Decl) where
  pub none_sets : (e : Effect) → IsNone e → HasSets ds e nothing nothing nothing nothing nothing
  none_sets e h = record {
    needs = λ c n i at. h.needs c i;
    sure = λ c n i at. h.sure c i;
    surely = λ c n i at. h.surely c i;
    blocking = λ c n i at. h.blocking c i;
    nonblocking = λ c n i at. h.nonblocking c i;
  }

  -- behind it comes nothing
  last_sets : (e n made : Effect) (N S T B L : Bits) → IsNone n → IsThen e n made → HasSets ds e N S T B L
      → HasSets ds made N S T B L
  last_sets e n made N S T B L none m h =
      sets_as ds made (λ x i. N x i || (false && not (S x i))) (λ x i. S x i || false) (λ x i. T x i || false)
      (λ x i. B x i || false) (λ x i. L x i || false) N S T B L (λ x i. or_none (N x i)) (λ x i. or_none (S x i))
      (λ x i. or_none (T x i)) (λ x i. or_none (B x i)) (λ x i. or_none (L x i))
      (then_sets ds e n made N S T B L nothing nothing nothing nothing nothing m h (none_sets n none))

  -- ---- statements

  one_all : (e : Effect) (x : Stmt) → IsEffectOf ds e x → IsEffectOfAll ds e (x ∷ [])
  one_all e x h =
      sets_as ds e (needs ds x) (sure ds is_blocking x) (sure ds any_kind x) (changes ds is_blocking x)
      (changes ds is_nonblocking x) (all_need ds (stmts (x ∷ []))) (all_sure ds is_blocking (stmts (x ∷ [])))
      (all_sure ds any_kind (stmts (x ∷ []))) (any_changes ds is_blocking (stmts (x ∷ [])))
      (any_changes ds is_nonblocking (stmts (x ∷ [])))
      (λ n i. sym (needed_one (needs ds x n i) (sure ds is_blocking x n i)))
      (λ n i. sym (or_none (sure ds is_blocking x n i))) (λ n i. sym (or_none (sure ds any_kind x n i)))
      (λ n i. sym (or_none (changes ds is_blocking x n i))) (λ n i. sym (or_none (changes ds is_nonblocking x n i))) h

  pub sequence_one : (es : List Effect) (xs : List Stmt) (e n made : Effect) → length es ≡ 1 → e ≡ get_or es 0 e
      → IsNone n → IsThen e n made → AreEach (IsEffectOf ds) es xs → IsEffectOfAll ds made xs
  sequence_one [] xs e n made few at none m h = absurd (omega (arith, few))
  sequence_one (y ∷ []) [] e n made few at none m h = absurd h
  sequence_one (y ∷ []) (x ∷ []) e n made few at none m h =
      last_sets e n made (all_need ds (stmts (x ∷ []))) (all_sure ds is_blocking (stmts (x ∷ [])))
      (all_sure ds any_kind (stmts (x ∷ []))) (any_changes ds is_blocking (stmts (x ∷ [])))
      (any_changes ds is_nonblocking (stmts (x ∷ []))) none m
      (one_all e x (subst (λ z. IsEffectOf ds z x) (sym at) h.0))
  sequence_one (y ∷ []) (x ∷ z ∷ xs) e n made few at none m h = absurd h.1
  sequence_one (y ∷ z ∷ es) xs e n made few at none m h = absurd (omega (arith, few))

  pub sequence_two : (xs : List Stmt) (k : ℕ) (first second made : Effect) → IsEffectOfAll ds first (take k xs)
      → IsEffectOfAll ds second (drop k xs) → IsThen first second made → IsEffectOfAll ds made xs
  sequence_two xs k first second made h g m =
      let ys = take k xs in
      let zs = drop k xs in
      let N = all_need ds (stmts ys) in
      let N' = all_need ds (stmts zs) in
      let S = all_sure ds is_blocking (stmts ys) in
      let S' = all_sure ds is_blocking (stmts zs) in
      let T = all_sure ds any_kind (stmts ys) in
      let T' = all_sure ds any_kind (stmts zs) in
      let B = any_changes ds is_blocking (stmts ys) in
      let B' = any_changes ds is_blocking (stmts zs) in
      let L = any_changes ds is_nonblocking (stmts ys) in
      let L' = any_changes ds is_nonblocking (stmts zs) in
      subst (IsEffectOfAll ds made) (take-append-drop k xs)
      (sets_as ds made (λ n i. N n i || (N' n i && not (S n i))) (λ n i. S n i || S' n i) (λ n i. T n i || T' n i)
      (λ n i. B n i || B' n i) (λ n i. L n i || L' n i) (all_need ds (stmts (ys ++ zs)))
      (all_sure ds is_blocking (stmts (ys ++ zs))) (all_sure ds any_kind (stmts (ys ++ zs)))
      (any_changes ds is_blocking (stmts (ys ++ zs))) (any_changes ds is_nonblocking (stmts (ys ++ zs)))
      (λ n i. sym (need_halves ds ys zs n i)) (λ n i. sym (sure_halves ds is_blocking ys zs n i))
      (λ n i. sym (sure_halves ds any_kind ys zs n i)) (λ n i. sym (change_halves ds is_blocking ys zs n i))
      (λ n i. sym (change_halves ds is_nonblocking ys zs n i))
      (then_sets ds first second made N S T B L N' S' T' B' L' m h g))

  -- ---- arms

  pub arms_one : (es : List Effect) (xs : List Arm) (e n made : Effect) → length es ≡ 1 → e ≡ get_or es 0 e
      → IsNone n → IsThen e n made → AreEach (IsEffectOfArm ds) es xs → IsEffectOfSome ds made (arms xs)
  arms_one [] xs e n made few at none m h = absurd (omega (arith, few))
  arms_one (y ∷ []) [] e n made few at none m h = absurd h
  arms_one (y ∷ []) (x ∷ []) e n made few at none m h =
      last_sets e n made (arms_need ds (arms (x ∷ []))) (arms_sure ds is_blocking (arms (x ∷ [])))
      (arms_sure ds any_kind (arms (x ∷ []))) (arms_change ds is_blocking (arms (x ∷ [])))
      (arms_change ds is_nonblocking (arms (x ∷ []))) none m (subst (λ z. IsEffectOfArm ds z x) (sym at) h.0)
  arms_one (y ∷ []) (x ∷ z ∷ xs) e n made few at none m h = absurd h.1
  arms_one (y ∷ z ∷ es) xs e n made few at none m h = absurd (omega (arith, few))

  pub arms_two : (xs : List Arm) (k : ℕ) (first second made : Effect) → IsEffectOfSome ds first (arms (take k xs))
      → IsEffectOfSome ds second (arms (drop k xs)) → IsEither first second made → IsEffectOfSome ds made (arms xs)
  arms_two xs k first second made h g m =
      let ys = take k xs in
      let zs = drop k xs in
      let N = arms_need ds (arms ys) in
      let N' = arms_need ds (arms zs) in
      let S = arms_sure ds is_blocking (arms ys) in
      let S' = arms_sure ds is_blocking (arms zs) in
      let T = arms_sure ds any_kind (arms ys) in
      let T' = arms_sure ds any_kind (arms zs) in
      let B = arms_change ds is_blocking (arms ys) in
      let B' = arms_change ds is_blocking (arms zs) in
      let L = arms_change ds is_nonblocking (arms ys) in
      let L' = arms_change ds is_nonblocking (arms zs) in
      subst (λ zs. IsEffectOfSome ds made (arms zs)) (take-append-drop k xs)
      (sets_as ds made (λ n i. N n i || N' n i) (λ n i. S n i && S' n i) (λ n i. T n i && T' n i)
      (λ n i. B n i || B' n i) (λ n i. L n i || L' n i) (arms_need ds (arms (ys ++ zs)))
      (arms_sure ds is_blocking (arms (ys ++ zs))) (arms_sure ds any_kind (arms (ys ++ zs)))
      (arms_change ds is_blocking (arms (ys ++ zs))) (arms_change ds is_nonblocking (arms (ys ++ zs)))
      (λ n i. sym (arms_need_halves ds ys zs n i)) (λ n i. sym (arms_sure_halves ds is_blocking ys zs n i))
      (λ n i. sym (arms_sure_halves ds any_kind ys zs n i)) (λ n i. sym (arms_change_halves ds is_blocking ys zs n i))
      (λ n i. sym (arms_change_halves ds is_nonblocking ys zs n i))
      (either_sets ds first second made N S T B L N' S' T' B' L' m h g))

  -- ---- a case

  -- none of the arms may be taken
  pub case_parted : (xs : List Arm) (e n made : Effect) → false ≡ has_default (arms xs) → IsNone n
      → IsEither e n made → IsEffectOfSome ds e (arms xs) → IsEffectOfArms ds made (arms xs)
  case_parted xs e n made w none m h =
      let N = arms_need ds (arms xs) in
      let S = arms_sure ds is_blocking (arms xs) in
      let T = arms_sure ds any_kind (arms xs) in
      let B = arms_change ds is_blocking (arms xs) in
      let L = arms_change ds is_nonblocking (arms xs) in
      sets_as ds made (λ x i. N x i || false) (λ x i. S x i && false) (λ x i. T x i && false)
      (λ x i. B x i || false) (λ x i. L x i || false) N (λ x i. has_default (arms xs) && S x i)
      (λ x i. has_default (arms xs) && T x i) B L (λ x i. or_none (N x i))
      (λ x i. and_none (S x i) ∙ ap (λ b. b && S x i) w) (λ x i. and_none (T x i) ∙ ap (λ b. b && T x i) w)
      (λ x i. or_none (B x i)) (λ x i. or_none (L x i))
      (either_sets ds e n made N S T B L nothing nothing nothing nothing nothing m h (none_sets n none))
