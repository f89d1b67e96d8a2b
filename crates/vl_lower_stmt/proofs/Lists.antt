-- Statements one behind the other, arms one behind the other, and labels.
use Rattle.std.specs.Prelude.{◌≡◌, refl, List, [], ◌∷◌, ◌++◌, Bool, true, false, ◌||◌, if◌then◌else◌}
use Rattle.std.proofs.Common.{ap, ◌∙◌, true≢false}
use Rattle.vl_tree.specs.declared.stmt.Arm.{Arm}
use Rattle.vl_tree.specs.declared.stmt.Arm.TheVariants as arm
use Rattle.vl_tree.specs.Expr.{Expr}
use Rattle.vl_tree.specs.Stmt.{Stmt, stmts}
use Rattle.vl_tree.specs.StmtView.{arms}
use Rattle.vl_size.specs.Size.{Values}
use Rattle.vl_mean.specs.Scopes.{Scope}
use Rattle.vl_mean.specs.Execution.{State, exec, exec_all, pick}
use Rattle.vl_lower_assign.specs.Stored.{stored, all_stored, arm_stored}
use Rattle.vl_lower_stmt.specs.StepsArms.{matched, picked, picked_stored}

module _ (ss : List Scope) where
  pub exec_behind : (xs : List Stmt) (s : Stmt) (t : State)
      → exec_all ss (stmts (xs ++ s ∷ [])) t ≡ exec ss s (exec_all ss (stmts xs) t)
  exec_behind [] s t = refl
  exec_behind (x ∷ xs) s t = exec_behind xs s (exec ss x t)

  pub stored_behind : (xs : List Stmt) (s : Stmt) (t : State) (w : Values)
      → all_stored ss (stmts (xs ++ s ∷ [])) t w
      ≡ stored ss s (exec_all ss (stmts xs) t) (all_stored ss (stmts xs) t w)
  stored_behind [] s t w = refl
  stored_behind (x ∷ xs) s t w = stored_behind xs s (exec ss x t) (stored ss x t w)

  -- ---- arms

  pub none_picked : (test : List Expr → Bool) (xs : List Arm) (t : State) → matched ss test xs ≡ false → picked ss
      test xs t ≡ t
  none_picked test [] t h = refl
  none_picked test (arm.Labels p es s ∷ xs) t h = by (test es) h (λ k. none_picked test xs t k)
    where
      by : (b : Bool) → (b || matched ss test xs) ≡ false → (matched ss test xs ≡ false → picked ss test xs t ≡ t)
          → (if b then exec ss s.value t else picked ss test xs t) ≡ t
      by true h f = absurd (true≢false h)
      by false h f = f h
  none_picked test (arm.Default p colon s ∷ xs) t h = none_picked test xs t h

  -- no arm does anything where none matches
  pub none_stored : (test : List Expr → Bool) (xs : List Arm) (t : State) (w : Values) → matched ss test xs ≡ false
      → picked_stored ss test xs t w ≡ w
  none_stored test [] t w h = refl
  none_stored test (arm.Labels p es s ∷ xs) t w h = by (test es) h (λ k. none_stored test xs t w k)
    where
      by : (b : Bool) → (b || matched ss test xs) ≡ false → (matched ss test xs ≡ false → picked_stored ss test xs t
          w ≡ w)
          → (if b then stored ss s.value t w else picked_stored ss test xs t w) ≡ w
      by true h f = absurd (true≢false h)
      by false h f = f h
  none_stored test (arm.Default p colon s ∷ xs) t w h = none_stored test xs t w h

  -- whatever is done where none matches
  pub pick_is : (test : List Expr → Bool) (xs : List Arm) (other : State → State) (t : State)
      → pick ss (arms xs) test other t ≡ (if matched ss test xs then picked ss test xs t else other t)
  pick_is test [] other t = refl
  pick_is test (arm.Labels p es s ∷ xs) other t = by (test es) (pick_is test xs other t)
    where
      by : (b : Bool)
          → pick ss (arms xs) test other t ≡ (if matched ss test xs then picked ss test xs t else other t)
          → (if b then exec ss s.value t else pick ss (arms xs) test other t)
          ≡ (if b || matched ss test xs then (if b then exec ss s.value t else picked ss test xs t) else other t)
      by true e = refl
      by false e = e
  pick_is test (arm.Default p colon s ∷ xs) other t = pick_is test xs other t

  pub stored_is : (test : List Expr → Bool) (xs : List Arm) (other : State → Values → Values) (t : State) (w : Values)
      → arm_stored ss (arms xs) test other t w ≡ (if matched ss test xs then picked_stored ss test xs t w else other
      t w)
  stored_is test [] other t w = refl
  stored_is test (arm.Labels p es s ∷ xs) other t w = by (test es) (stored_is test xs other t w)
    where
      by : (b : Bool)
          → arm_stored ss (arms xs) test other t w
          ≡ (if matched ss test xs then picked_stored ss test xs t w else other t w)
          → (if b then stored ss s.value t w else arm_stored ss (arms xs) test other t w)
          ≡ (if b || matched ss test xs then (if b then stored ss s.value t w else picked_stored ss test xs t w)
          else other t w)
      by true e = refl
      by false e = e
  stored_is test (arm.Default p colon s ∷ xs) other t w = stored_is test xs other t w

  -- ---- one arm more

  pub matched_labels : (test : List Expr → Bool) (xs : List Arm) (x : Arm) (es : List Expr)
      → matched ss test (x ∷ []) ≡ (test es || false)
      → matched ss test (xs ++ x ∷ []) ≡ (matched ss test xs || test es)
  matched_labels test [] x es e = e ∙ none (test es)
    where
      none : (b : Bool) → (b || false) ≡ b
      none true = refl
      none false = refl
  matched_labels test (arm.Labels p fs s ∷ xs) x es e =
      ap (λ b. test fs || b) (matched_labels test xs x es e) ∙ assoc (test fs) (matched ss test xs) (test es)
    where
      assoc : (a b c : Bool) → (a || (b || c)) ≡ ((a || b) || c)
      assoc true b c = refl
      assoc false b c = refl
  matched_labels test (arm.Default p colon s ∷ xs) x es e = matched_labels test xs x es e

  -- the last arm is taken where it matches, and none before it does
  pub picked_behind : (test : List Expr → Bool) (xs : List Arm) (x : Arm) (t : State)
      → picked ss test (xs ++ x ∷ []) t ≡ (if matched ss test xs then picked ss test xs t else picked ss test (x ∷
      []) t)
  picked_behind test [] x t = refl
  picked_behind test (arm.Labels p es s ∷ xs) x t = by (test es) (picked_behind test xs x t)
    where
      by : (b : Bool)
          → picked ss test (xs ++ x ∷ []) t ≡ (if matched ss test xs then picked ss test xs t else picked ss test (x
          ∷ []) t)
          → (if b then exec ss s.value t else picked ss test (xs ++ x ∷ []) t)
          ≡ (if b || matched ss test xs then (if b then exec ss s.value t else picked ss test xs t)
          else picked ss test (x ∷ []) t)
      by true e = refl
      by false e = e
  picked_behind test (arm.Default p colon s ∷ xs) x t = picked_behind test xs x t

  pub picked_stored_behind : (test : List Expr → Bool) (xs : List Arm) (x : Arm) (t : State) (w : Values)
      → picked_stored ss test (xs ++ x ∷ []) t w
      ≡ (if matched ss test xs then picked_stored ss test xs t w else picked_stored ss test (x ∷ []) t w)
  picked_stored_behind test [] x t w = refl
  picked_stored_behind test (arm.Labels p es s ∷ xs) x t w = by (test es) (picked_stored_behind test xs x t w)
    where
      by : (b : Bool)
          → picked_stored ss test (xs ++ x ∷ []) t w
          ≡ (if matched ss test xs then picked_stored ss test xs t w else picked_stored ss test (x ∷ []) t w)
          → (if b then stored ss s.value t w else picked_stored ss test (xs ++ x ∷ []) t w)
          ≡ (if b || matched ss test xs then (if b then stored ss s.value t w else picked_stored ss test xs t w)
          else picked_stored ss test (x ∷ []) t w)
      by true e = refl
      by false e = e
  picked_stored_behind test (arm.Default p colon s ∷ xs) x t w = picked_stored_behind test xs x t w
