-- What statements and arms do, from what the first and the last of them do.
use Rattle.std.specs.Prelude.{◌≡◌, refl, ℕ, zero, suc, List, [], ◌∷◌, ◌++◌, Bool, ◌&&◌, ◌||◌, not, take, drop}
use Rattle.std.proofs.Common.{ap, sym, ◌∙◌}
use Rattle.vl_tree.specs.declared.stmt.AssignKind.{AssignKind}
use Rattle.vl_tree.specs.declared.stmt.Arm.{Arm}
use Rattle.vl_tree.specs.declared.stmt.Arm.TheVariants as a
use Rattle.vl_tree.specs.Stmt.{Stmt, stmts}
use Rattle.vl_tree.specs.StmtView.{arms}
use Rattle.vl_size.specs.declared.decl.Decl.{Decl}
use Rattle.vl_flow_spec.specs.Paths.{is_blocking, sure, changes, needs, all_sure, any_changes, all_need, arms_sure}
use Rattle.vl_flow_spec.specs.Paths.{arms_change, arms_need, labels_read}
use Rattle.vl_flow_effects.specs.Effects.{AreEach}
use Rattle.vl_flow_effects.proofs.Tests.{or_assoc, and_all, and_assoc, needed, or_three}

module _ (ds : List Decl) where
  pub sure_halves : (counts : AssignKind → Bool) (xs ys : List Stmt) (n : List ℕ) (i : ℕ)
      → all_sure ds counts (stmts (xs ++ ys)) n i
      ≡ (all_sure ds counts (stmts xs) n i || all_sure ds counts (stmts ys) n i)
  sure_halves counts [] ys n i = refl
  sure_halves counts (x ∷ xs) ys n i =
      ap (λ b. sure ds counts x n i || b) (sure_halves counts xs ys n i)
      ∙ sym (or_assoc (sure ds counts x n i) (all_sure ds counts (stmts xs) n i) (all_sure ds counts (stmts ys) n i))

  pub change_halves : (counts : AssignKind → Bool) (xs ys : List Stmt) (n : List ℕ) (i : ℕ)
      → any_changes ds counts (stmts (xs ++ ys)) n i
      ≡ (any_changes ds counts (stmts xs) n i || any_changes ds counts (stmts ys) n i)
  change_halves counts [] ys n i = refl
  change_halves counts (x ∷ xs) ys n i =
      ap (λ b. changes ds counts x n i || b) (change_halves counts xs ys n i)
      ∙ sym (or_assoc (changes ds counts x n i) (any_changes ds counts (stmts xs) n i)
      (any_changes ds counts (stmts ys) n i))

  pub need_halves : (xs ys : List Stmt) (n : List ℕ) (i : ℕ)
      → all_need ds (stmts (xs ++ ys)) n i
      ≡ (all_need ds (stmts xs) n i || (all_need ds (stmts ys) n i && not (all_sure ds is_blocking (stmts xs) n i)))
  need_halves [] ys n i = sym (and_all (all_need ds (stmts ys) n i))
  need_halves (x ∷ xs) ys n i =
      ap (λ b. needs ds x n i || (not (sure ds is_blocking x n i) && b)) (need_halves xs ys n i)
      ∙ needed (needs ds x n i) (sure ds is_blocking x n i) (all_need ds (stmts xs) n i)
      (all_sure ds is_blocking (stmts xs) n i) (all_need ds (stmts ys) n i)

  -- ---- arms

  pub arms_sure_halves : (counts : AssignKind → Bool) (xs ys : List Arm) (n : List ℕ) (i : ℕ)
      → arms_sure ds counts (arms (xs ++ ys)) n i
      ≡ (arms_sure ds counts (arms xs) n i && arms_sure ds counts (arms ys) n i)
  arms_sure_halves counts [] ys n i = refl
  arms_sure_halves counts (a.Labels p es s ∷ xs) ys n i =
      ap (λ b. sure ds counts s.value n i && b) (arms_sure_halves counts xs ys n i)
      ∙ sym (and_assoc (sure ds counts s.value n i) (arms_sure ds counts (arms xs) n i)
      (arms_sure ds counts (arms ys) n i))
  arms_sure_halves counts (a.Default p colon s ∷ xs) ys n i =
      ap (λ b. sure ds counts s.value n i && b) (arms_sure_halves counts xs ys n i)
      ∙ sym (and_assoc (sure ds counts s.value n i) (arms_sure ds counts (arms xs) n i)
      (arms_sure ds counts (arms ys) n i))

  pub arms_change_halves : (counts : AssignKind → Bool) (xs ys : List Arm) (n : List ℕ) (i : ℕ)
      → arms_change ds counts (arms (xs ++ ys)) n i
      ≡ (arms_change ds counts (arms xs) n i || arms_change ds counts (arms ys) n i)
  arms_change_halves counts [] ys n i = refl
  arms_change_halves counts (a.Labels p es s ∷ xs) ys n i =
      ap (λ b. changes ds counts s.value n i || b) (arms_change_halves counts xs ys n i)
      ∙ sym (or_assoc (changes ds counts s.value n i) (arms_change ds counts (arms xs) n i)
      (arms_change ds counts (arms ys) n i))
  arms_change_halves counts (a.Default p colon s ∷ xs) ys n i =
      ap (λ b. changes ds counts s.value n i || b) (arms_change_halves counts xs ys n i)
      ∙ sym (or_assoc (changes ds counts s.value n i) (arms_change ds counts (arms xs) n i)
      (arms_change ds counts (arms ys) n i))

  pub arms_need_halves : (xs ys : List Arm) (n : List ℕ) (i : ℕ)
      → arms_need ds (arms (xs ++ ys)) n i ≡ (arms_need ds (arms xs) n i || arms_need ds (arms ys) n i)
  arms_need_halves [] ys n i = refl
  arms_need_halves (a.Labels p es s ∷ xs) ys n i =
      ap (λ b. labels_read ds es n i || (needs ds s.value n i || b)) (arms_need_halves xs ys n i)
      ∙ or_three (labels_read ds es n i) (needs ds s.value n i) (arms_need ds (arms xs) n i)
      (arms_need ds (arms ys) n i)
  arms_need_halves (a.Default p colon s ∷ xs) ys n i =
      ap (λ b. needs ds s.value n i || b) (arms_need_halves xs ys n i)
      ∙ sym (or_assoc (needs ds s.value n i) (arms_need ds (arms xs) n i) (arms_need ds (arms ys) n i))

-- ---- two lists with each other

pub each_take : {A B : Type 0} (R : A → B → Type 0) (m : ℕ) (xs : List A) (ys : List B) → AreEach R xs ys
    → AreEach R (take m xs) (take m ys)
each_take R zero xs ys h = tt
each_take R (suc m) [] [] h = tt
each_take R (suc m) (x ∷ xs) (y ∷ ys) h = (h.0, each_take R m xs ys h.1)
each_take R (suc m) [] (y ∷ ys) h = absurd h
each_take R (suc m) (x ∷ xs) [] h = absurd h

pub each_drop : {A B : Type 0} (R : A → B → Type 0) (m : ℕ) (xs : List A) (ys : List B) → AreEach R xs ys
    → AreEach R (drop m xs) (drop m ys)
each_drop R zero xs ys h = h
each_drop R (suc m) [] [] h = tt
each_drop R (suc m) (x ∷ xs) (y ∷ ys) h = each_drop R m xs ys h.1
each_drop R (suc m) [] (y ∷ ys) h = absurd h
each_drop R (suc m) (x ∷ xs) [] h = absurd h

pub each_push : {A B : Type 0} (R : A → B → Type 0) (xs : List A) (ys : List B) (x : A) (y : B) → AreEach R xs ys
    → R x y → AreEach R (xs ++ x ∷ []) (ys ++ y ∷ [])
each_push R [] [] x y h k = (k, tt)
each_push R (a ∷ xs) (b ∷ ys) x y h k = (h.0, each_push R xs ys x y h.1 k)
each_push R [] (b ∷ ys) x y h k = absurd h
each_push R (a ∷ xs) [] x y h k = absurd h
