-- Sets of declared names, under the numbers of their places.
use Rattle.std.specs.Prelude.{◌≡◌, refl, ℕ, ◌==◌, List, [], ◌∷◌, ◌++◌, Bool, true, false, ◌&&◌, ◌||◌}
use Rattle.std.specs.Prelude.{Some, None, is_none, bytes_eq, slice_get}
use Rattle.std.proofs.Common.{ap, sym, ◌∙◌, arith, subst, true≢false}
use Rattle.std.proofs.lemmas.Bool.Decides.{nat_tests}
use Rattle.std.proofs.lemmas.List.{append_assoc, append-nil}
use Rattle.std.proofs.lemmas.Slice.Eq.{bytes_eq-Decides}
use Rattle.vl_tree.specs.declared.stmt.Arm.{Arm}
use Rattle.vl_tree.specs.declared.stmt.Arm.TheVariants as a
use Rattle.vl_tree.specs.declared.stmt.AssignKind.{AssignKind}
use Rattle.vl_tree.specs.Lval.{Lval, lvals}
use Rattle.vl_tree.specs.Stmt.{Stmt, stmts, no_arms}
use Rattle.vl_tree.specs.StmtView.{arms, with_arm}
use Rattle.vl_size.specs.declared.decl.Decl.{Decl}
use Rattle.vl_size.specs.Table.{AreDifferent, declared_as, place}
use Rattle.vl_mean.specs.Cells.{contains_name}
use Rattle.vl_flow_spec.specs.Assigned.{all_assigned_names, all_target_names, arms_assigned_names, assigned_names}
use Rattle.vl_flow_spec.specs.Assigned.{target_names}
use Rattle.fv_bit_sets.specs.declared.step.Step.{Step}
use Rattle.fv_bit_sets.specs.Cells.{has}
use Rattle.vl_flow_spec.proofs.Bools.{none_of, or_case}
use Rattle.vl_flow_spec.proofs.AssignKinds.{contains_both}
use Rattle.vl_flow_spec.proofs.Same.{declared_name}
use Rattle.vl_flow_order.specs.Named.{IsMark}
use Rattle.vl_flow_order.specs.Sets.{some_has}
use Rattle.vl_flow_order.proofs.Halves.{some_append}
use Rattle.vl_flow_order.proofs.Tests.{or_none}
use Rattle.vl_flow_cells.proofs.Lists.{declared_own, one_place}
use Rattle.vl_flow_cells.proofs.Ranges.{same_test}
use Rattle.vl_flow_cells.proofs.Taking.{place_less, place_none, place_some}
use Rattle.vl_flow_order.specs.Names.{AreNames}

module _ (ds : List Decl) where
  pub none_named : (marks : ℕ → ℕ → Bool) → ((c i : ℕ) → marks c i ≡ false) → AreNames ds [] marks
  none_named marks h = record {
    is = λ p d at. h p 0;
    known = λ p e. absurd (true≢false (sym e ∙ h p 0));
    alone = λ p b less. h p b;
  }

  pub both_named : (xs ys : List (List ℕ)) (first second made : ℕ → ℕ → Bool)
      → ((c i : ℕ) → made c i ≡ (first c i || second c i)) → AreNames ds xs first → AreNames ds ys second
      → AreNames ds (xs ++ ys) made
  both_named xs ys first second made is g h = record {
    is = λ p d at.
        is p 0 ∙ (λ i. g.is p d at i || h.is p d at i) ∙ sym (contains_both xs ys d.name);
    known = λ p e. or_case (first p 0) (second p 0) (g.known p) (h.known p) (sym (is p 0) ∙ e);
    alone = λ p b less. is p b ∙ (λ i. g.alone p b less i || h.alone p b less i);
  }

  pub same_named : (xs : List (List ℕ)) (first made : ℕ → ℕ → Bool) → ((c i : ℕ) → made c i ≡ first c i)
      → AreNames ds xs first → AreNames ds xs made
  same_named xs first made is g = record {
    is = λ p d at. is p 0 ∙ g.is p d at;
    known = λ p e. g.known p (sym (is p 0) ∙ e);
    alone = λ p b less. is p b ∙ g.alone p b less;
  }

  -- ---- a name

  lone : (text n : List ℕ) → contains_name (text ∷ []) n ≡ bytes_eq n text
  lone text n = or_none (bytes_eq n text)

  pub unknown_named : (text : List ℕ) (marks : ℕ → ℕ → Bool) → AreDifferent ds → place ds text ≡ None
      → ((c i : ℕ) → marks c i ≡ false) → AreNames ds (text ∷ []) marks
  unknown_named text marks different h bare = record {
    is = λ p d at. bare p 0 ∙ sym (lone text d.name ∙ none_of (bytes_eq d.name text) (λ t.
        let same : d.name ≡ text = (bytes_eq-Decides d.name text).0 t in
        let here : declared_as ds text ≡ Some d = ap (declared_as ds) (sym same) ∙ declared_own ds different p d at in
        absurd (true≢false (ap is_none (sym (place_none ds text h) ∙ here)))));
    known = λ p e. absurd (true≢false (sym e ∙ bare p 0));
    alone = λ p b less. bare p b;
  }

  pub one_named : (text : List ℕ) (at : ℕ) (made : List Step) → AreDifferent ds → place ds text ≡ Some at
      → IsMark at made → AreNames ds (text ∷ []) (has made)
  one_named text at made different h mark = record {
    is = λ p d here. mark p 0 ∙ first (p == at)
        ∙ same_test (p == at) (bytes_eq d.name text) (to p d here) (from p d here)
        ∙ sym (lone text d.name);
    known = λ p e.
        let here : (p == at) ≡ true = sym (first (p == at)) ∙ sym (mark p 0) ∙ e in
        let same : p ≡ at = grind (arith, nat_tests, here) in
        let less = place_less ds text at h in omega (arith, same, less);
    alone = λ p b less. mark p b ∙ none (p == at) (b == 0) (grind (arith, nat_tests, less));
  }
    where
      first : (b : Bool) → (b && (0 == 0)) ≡ b
      first true = refl
      first false = refl

      none : (b c : Bool) → c ≡ false → (b && c) ≡ false
      none true c e = e
      none false c e = refl

      to : (p : ℕ) (d : Decl) → slice_get ds p ≡ Some d → (p == at) ≡ true → bytes_eq d.name text ≡ true
      to p d here t =
          let same : p ≡ at = grind (arith, nat_tests, t) in
          let declared : declared_as ds text ≡ Some d = place_some ds text at h ∙ ap (slice_get ds) (sym same) ∙ here in
          (bytes_eq-Decides d.name text).1 (sym (declared_name ds text d declared))

      from : (p : ℕ) (d : Decl) → slice_get ds p ≡ Some d → bytes_eq d.name text ≡ true → (p == at) ≡ true
      from p d here t =
          let same : d.name ≡ text = (bytes_eq-Decides d.name text).0 t in
          let declared : declared_as ds text ≡ Some d =
          ap (declared_as ds) (sym same) ∙ declared_own ds different p d here in
          let there : slice_get ds at ≡ Some d = sym (place_some ds text at h) ∙ declared in
          let one : p ≡ at = one_place ds different p at d here there in
          grind (arith, nat_tests, one)

  -- ---- sets one behind the other

  pub no_sets_named : (sets : List (List Step)) → sets ≡ [] → AreNames ds [] (some_has sets)
  no_sets_named sets e = none_named (some_has sets) (λ c i. ap (λ ss. some_has ss c i) e)

  pub set_behind : (xs ys all : List (List ℕ)) (sets more : List (List Step)) (set : List Step)
      → more ≡ sets ++ set ∷ [] → all ≡ xs ++ ys → AreNames ds xs (some_has sets) → AreNames ds ys (has set)
      → AreNames ds all (some_has more)
  set_behind xs ys all sets more set e f g h =
      subst (λ ns. AreNames ds ns (some_has more)) (sym f)
      (both_named xs ys (some_has sets) (has set) (some_has more)
      (λ c i. ap (λ ss. some_has ss c i) e ∙ some_append sets (set ∷ []) c i
      ∙ ap (λ b. some_has sets c i || b) (or_none (has set c i))) g h)

-- ---- names of one more

pub targets_behind : (ls : List Lval) (l : Lval)
    → all_target_names (lvals (ls ++ l ∷ [])) ≡ all_target_names (lvals ls) ++ target_names l
targets_behind [] l = append-nil (target_names l)
targets_behind (x ∷ ls) l =
    ap (λ ns. target_names x ++ ns) (targets_behind ls l)
    ∙ sym (append_assoc (target_names x) (all_target_names (lvals ls)) (target_names l))

module _ (counts : AssignKind → Bool) where
  pub stmts_behind : (xs : List Stmt) (x : Stmt)
      → all_assigned_names counts (stmts (xs ++ x ∷ [])) ≡ all_assigned_names counts (stmts xs) ++ assigned_names counts x
  stmts_behind [] x = append-nil (assigned_names counts x)
  stmts_behind (y ∷ xs) x =
      ap (λ ns. assigned_names counts y ++ ns) (stmts_behind xs x)
      ∙ sym (append_assoc (assigned_names counts y) (all_assigned_names counts (stmts xs)) (assigned_names counts x))

  pub arms_behind : (xs : List Arm) (x : Arm)
      → arms_assigned_names counts (arms (xs ++ x ∷ []))
      ≡ arms_assigned_names counts (arms xs) ++ arms_assigned_names counts (with_arm x no_arms)
  arms_behind [] x = refl
  arms_behind (a.Labels p es s ∷ xs) x =
      ap (λ ns. assigned_names counts s.value ++ ns) (arms_behind xs x)
      ∙ sym (append_assoc (assigned_names counts s.value) (arms_assigned_names counts (arms xs))
      (arms_assigned_names counts (with_arm x no_arms)))
  arms_behind (a.Default p colon s ∷ xs) x =
      ap (λ ns. assigned_names counts s.value ++ ns) (arms_behind xs x)
      ∙ sym (append_assoc (assigned_names counts s.value) (arms_assigned_names counts (arms xs))
      (arms_assigned_names counts (with_arm x no_arms)))
