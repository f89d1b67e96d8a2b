-- What rows of names have in common, as tests of the drivers.
use Rattle.std.specs.Prelude.{◌≡◌, refl, ℕ, ◌<◌, List, [], ◌∷◌, length, Bool, true, false, ◌&&◌, ◌||◌, not}
use Rattle.std.specs.Prelude.{Some, slice_get}
use Rattle.std.proofs.Common.{ap, sym, ◌∙◌, true≢false}
use Rattle.vl_tree.specs.declared.stmt.AssignKind.{AssignKind}
use Rattle.vl_tree.specs.declared.stmt.AssignKind.TheVariants as a
use Rattle.vl_size.specs.declared.decl.Decl.{Decl}
use Rattle.vl_mean.specs.declared.driver.Driver.{Driver}
use Rattle.fv_bit_sets.specs.declared.step.Step.{Step}
use Rattle.fv_bit_sets.specs.Cells.{has}
use Rattle.vl_flow_spec.specs.Drivers.{is_clocked, needed_by}
use Rattle.vl_flow_spec.proofs.Bools.{or_case}
use Rattle.vl_flow_spec.specs.Paths.{is_blocking, is_nonblocking}
use Rattle.vl_flow_spec.specs.Refusals.{assigns_to, has_bit, is_mixed, is_shared, latched, latched_by, some_assigns}
use Rattle.vl_flow_spec.specs.Refusals.{some_reads, some_waits}
use Rattle.vl_flow_cells.specs.Numbered.{all_cells}
use Rattle.vl_flow_order.specs.Sets.{some_has, crosses}
use Rattle.vl_flow_check.specs.declared.which.Which.TheVariants as w
use Rattle.vl_flow_effects.specs.Assigning.{is_kind}
use Rattle.vl_flow_check.specs.Layouts.{Marks}
use Rattle.vl_flow_check.specs.Rows.{AreNameRows, AreSets, picked, some_test}
use Rattle.vl_flow_check.proofs.Tests.{none_and, shared_one}

cross_tests : (Driver → Decl → Bool) → (Driver → Decl → Bool) → List Driver → Decl → Bool
cross_tests t u [] d = false
cross_tests t u (x ∷ xs) d = (t x d && some_test u xs d) || ((u x d && some_test t xs d) || cross_tests t u xs d)

module _ (ds : List Decl) where
  any_marked : (t : Driver → Decl → Bool) (rows : List (List Step)) (xs : List Driver) → AreNameRows ds t rows xs
      → (p : ℕ) (d : Decl) → slice_get ds p ≡ Some d → some_has rows p 0 ≡ some_test t xs d
  any_marked t [] [] h p d at = refl
  any_marked t (r ∷ rows) (x ∷ xs) h p d at = λ i. h.0.is p d at i || any_marked t rows xs h.1 p d at i
  any_marked t [] (x ∷ xs) h p d at = absurd h
  any_marked t (r ∷ rows) [] h p d at = absurd h

  any_alone : (t : Driver → Decl → Bool) (rows : List (List Step)) (xs : List Driver) → AreNameRows ds t rows xs
      → (p i : ℕ) → 0 < i → some_has rows p i ≡ false
  any_alone t [] [] h p i less = refl
  any_alone t (r ∷ rows) (x ∷ xs) h p i less =
      ap (λ b. b || some_has rows p i) (h.0.alone p i less) ∙ any_alone t rows xs h.1 p i less
  any_alone t [] (x ∷ xs) h p i less = absurd h
  any_alone t (r ∷ rows) [] h p i less = absurd h

  any_known : (t : Driver → Decl → Bool) (rows : List (List Step)) (xs : List Driver) → AreNameRows ds t rows xs
      → (p : ℕ) → some_has rows p 0 ≡ true → p < length ds
  any_known t [] [] h p e = absurd (true≢false (sym e))
  any_known t (r ∷ rows) (x ∷ xs) h p e =
      or_case (has r p 0) (some_has rows p 0) (h.0.known p) (any_known t rows xs h.1 p) e
  any_known t [] (x ∷ xs) h p e = absurd h
  any_known t (r ∷ rows) [] h p e = absurd h

  module _ (t u : Driver → Decl → Bool) where
    cross_marked : (rows others : List (List Step)) (xs : List Driver) → AreNameRows ds t rows xs
        → AreNameRows ds u others xs → (p : ℕ) (d : Decl) → slice_get ds p ≡ Some d
        → crosses rows others p 0 ≡ cross_tests t u xs d
    unfolding cross_tests
    cross_marked [] [] [] h g p d at = refl
    cross_marked (r ∷ rows) (s ∷ others) (x ∷ xs) h g p d at =
        λ i. (h.0.is p d at i && any_marked u others xs g.1 p d at i)
        || ((g.0.is p d at i && any_marked t rows xs h.1 p d at i) || cross_marked rows others xs h.1 g.1 p d at i)
    cross_marked [] others (x ∷ xs) h g p d at = absurd h
    cross_marked [] (s ∷ others) [] h g p d at = absurd g
    cross_marked (r ∷ rows) others [] h g p d at = absurd h
    cross_marked (r ∷ rows) [] (x ∷ xs) h g p d at = absurd g

    cross_alone : (rows others : List (List Step)) (xs : List Driver) → AreNameRows ds t rows xs
        → AreNameRows ds u others xs → (p i : ℕ) → 0 < i → crosses rows others p i ≡ false
    cross_alone [] others xs h g p i less = refl
    cross_alone (r ∷ rows) [] xs h g p i less = refl
    cross_alone (r ∷ rows) (s ∷ others) (x ∷ xs) h g p i less =
        ap (λ b. (b && some_has others p i) || ((has s p i && some_has rows p i) || crosses rows others p i))
        (h.0.alone p i less)
        ∙ ap (λ b. (b && some_has rows p i) || crosses rows others p i) (g.0.alone p i less)
        ∙ cross_alone rows others xs h.1 g.1 p i less
    cross_alone (r ∷ rows) (s ∷ others) [] h g p i less = absurd h

    both_left : (a b : Bool) → (a && b) ≡ true → a ≡ true
    both_left true b h = refl
    both_left false b h = h

    cross_known : (rows others : List (List Step)) (xs : List Driver) → AreNameRows ds t rows xs
        → AreNameRows ds u others xs → (p : ℕ) → crosses rows others p 0 ≡ true → p < length ds
    cross_known [] others xs h g p e = absurd (true≢false (sym e))
    cross_known (r ∷ rows) [] xs h g p e = absurd (true≢false (sym e))
    cross_known (r ∷ rows) (s ∷ others) (x ∷ xs) h g p e =
        or_case (has r p 0 && some_has others p 0) ((has s p 0 && some_has rows p 0) || crosses rows others p 0)
        (λ k. h.0.known p (both_left (has r p 0) (some_has others p 0) k))
        (or_case (has s p 0 && some_has rows p 0) (crosses rows others p 0)
        (λ k. g.0.known p (both_left (has s p 0) (some_has rows p 0) k)) (cross_known rows others xs h.1 g.1 p)) e
    cross_known (r ∷ rows) (s ∷ others) [] h g p e = absurd h

  -- ---- a latch

  pub latched_shown : (sets : List (List Step)) (xs : List Driver) → AreSets ds (latched_by ds) sets xs
      → (c : ℕ) (n : List ℕ) (i : ℕ) → slice_get (all_cells ds) c ≡ Some n
      → some_has sets c i ≡ latched ds xs n i
  latched_shown [] [] h c n i at = refl
  latched_shown (s ∷ sets) (x ∷ xs) h c n i at = λ j. h.0 c n i at j || latched_shown sets xs h.1 c n i at j
  latched_shown [] (x ∷ xs) h c n i at = absurd h
  latched_shown (s ∷ sets) [] h c n i at = absurd h

  -- ---- shared

  reads_test : Driver → Decl → Bool
  reads_test x d = has_bit (needed_by ds x.what) d

  writes_test : Driver → Decl → Bool
  writes_test = picked w.Clocked a.Blocking

  reads_any : (xs : List Driver) (d : Decl) → some_reads ds xs d ≡ some_test reads_test xs d
  unfolding reads_test
  reads_any [] d = refl
  reads_any (x ∷ xs) d = ap (λ b. has_bit (needed_by ds x.what) d || b) (reads_any xs d)

  shared_test : (before xs : List Driver) (d : Decl)
      → is_shared ds before xs d
      ≡ ((some_test writes_test xs d && some_test reads_test before d) || cross_tests reads_test writes_test xs d)
  unfolding cross_tests reads_test writes_test
  shared_test before [] d = refl
  shared_test before (x ∷ xs) d =
      (λ j. ((is_clocked x.what && assigns_to is_blocking x.what d) && (reads_any before d j || reads_any xs d j))
      || shared_test (x ∷ before) xs d j)
      ∙ shared_one (is_clocked x.what && assigns_to is_blocking x.what d) (some_test reads_test before d)
      (some_test reads_test xs d) (some_test writes_test xs d) (has_bit (needed_by ds x.what) d)
      (cross_tests reads_test writes_test xs d)

  pub shared_marked : (reads writes : List (List Step)) (both : List Step) (xs : List Driver)
      → AreNameRows ds (λ x. has_bit (needed_by ds x.what)) reads xs
      → AreNameRows ds (picked w.Clocked a.Blocking) writes xs
      → ((c i : ℕ) → has both c i ≡ crosses reads writes c i) → Marks ds both (is_shared ds [] xs)
  unfolding reads_test writes_test
  shared_marked reads writes both xs h g is = record {
    is = λ p d at. is p 0 ∙ cross_marked reads_test writes_test reads writes xs h g p d at
        ∙ sym (shared_test [] xs d
        ∙ none_and (some_test writes_test xs d) (cross_tests reads_test writes_test xs d));
    known = λ p e. cross_known reads_test writes_test reads writes xs h g p (sym (is p 0) ∙ e);
    alone = λ p i less. is p i ∙ cross_alone reads_test writes_test reads writes xs h g p i less;
  }

  -- ---- mixed

  assigns_any : (kind : AssignKind) (xs : List Driver) (d : Decl)
      → some_assigns (is_kind kind) xs d ≡ some_test (picked w.All kind) xs d
  assigns_any kind [] d = refl
  assigns_any kind (x ∷ xs) d = ap (λ b. assigns_to (is_kind kind) x.what d || b) (assigns_any kind xs d)

  waits_any : (xs : List Driver) (d : Decl)
      → some_waits xs d ≡ some_test (picked w.Settled a.Nonblocking) xs d
  waits_any [] d = refl
  waits_any (x ∷ xs) d =
      ap (λ b. (not (is_clocked x.what) && assigns_to is_nonblocking x.what d) || b) (waits_any xs d)

  pub rows_marked : (t : Driver → Decl → Bool) (rows rs : List (List Step)) (made : List Step) (xs : List Driver)
      → AreNameRows ds t rows xs → rs ≡ rows → ((p i : ℕ) → has made p i ≡ some_has rs p i)
      → Marks ds made (some_test t xs)
  rows_marked t rows rs made xs h same is = record {
    is = λ p d at. whole p 0 ∙ any_marked t rows xs h p d at;
    known = λ p e. any_known t rows xs h p (sym (whole p 0) ∙ e);
    alone = λ p i less. whole p i ∙ any_alone t rows xs h p i less;
  }
    where
      whole : (p i : ℕ) → has made p i ≡ some_has rows p i
      whole p i = is p i ∙ ap (λ qs. some_has qs p i) same

  both_marked : (t u : Decl → Bool) (a b both : List Step) → Marks ds a t → Marks ds b u
      → ((p i : ℕ) → has both p i ≡ (has a p i && has b p i)) → Marks ds both (λ d. t d && u d)
  both_marked t u a b both h g is = record {
    is = λ p d at. is p 0 ∙ (λ j. h.is p d at j && g.is p d at j);
    known = λ p e. h.known p (left (has a p 0) (has b p 0) (sym (is p 0) ∙ e));
    alone = λ p i less. is p i ∙ ap (λ z. z && has b p i) (h.alone p i less);
  }
    where
      left : (a b : Bool) → (a && b) ≡ true → a ≡ true
      left true b f = refl
      left false b f = f

  either_marked : (t u : Decl → Bool) (a b made : List Step) → Marks ds a t → Marks ds b u
      → ((p i : ℕ) → has made p i ≡ (has a p i || has b p i)) → Marks ds made (λ d. t d || u d)
  either_marked t u a b made h g is = record {
    is = λ p d at. is p 0 ∙ (λ j. h.is p d at j || g.is p d at j);
    known = λ p e. or_case (has a p 0) (has b p 0) (h.known p) (g.known p) (sym (is p 0) ∙ e);
    alone = λ p i less. is p i ∙ ap (λ z. z || has b p i) (h.alone p i less) ∙ g.alone p i less;
  }

  same_marks : (t u : Decl → Bool) (made : List Step) → ((d : Decl) → t d ≡ u d) → Marks ds made t → Marks ds made u
  same_marks t u made same h =
      record { is = λ p d at. h.is p d at ∙ same d; known = h.known; alone = h.alone }

  pub mixed_marked : (now later waiting both marked : List Step) (xs : List Driver)
      → Marks ds now (some_test (picked w.All a.Blocking) xs)
      → Marks ds later (some_test (picked w.All a.Nonblocking) xs)
      → Marks ds waiting (some_test (picked w.Settled a.Nonblocking) xs)
      → ((p i : ℕ) → has both p i ≡ (has now p i && has later p i))
      → ((p i : ℕ) → has marked p i ≡ (has both p i || has waiting p i)) → Marks ds marked (is_mixed xs)
  mixed_marked now later waiting both marked xs h g k is_both is_marked =
      same_marks (λ d. (some_test t xs d && some_test u xs d) || some_test v xs d) (is_mixed xs) marked
      (λ d j. (sym (assigns_any a.Blocking xs d) j && sym (assigns_any a.Nonblocking xs d) j)
      || sym (waits_any xs d) j)
      (either_marked (λ d. some_test t xs d && some_test u xs d) (some_test v xs) both waiting marked
      (both_marked (some_test t xs) (some_test u xs) now later both h g is_both) k is_marked)
    where
      t : Driver → Decl → Bool
      t = picked w.All a.Blocking

      u : Driver → Decl → Bool
      u = picked w.All a.Nonblocking

      v : Driver → Decl → Bool
      v = picked w.Settled a.Nonblocking
