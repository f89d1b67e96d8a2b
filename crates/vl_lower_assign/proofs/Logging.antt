-- Cells that a log leads back to.
use Rattle.std.specs.Prelude.{◌≡◌, refl, ℕ, zero, suc, ◌+◌, ◌<◌, ◌≤◌, List, [], ◌∷◌, ◌++◌, length, slice_index}
use Rattle.std.specs.Prelude.{slice_set}
use Rattle.std.proofs.Common.{ap, sym, ◌∙◌, arith, ◌⊎◌, inl, inr}
use Rattle.std.proofs.lemmas.Bool.{cases_lt}
use Rattle.vl_lower_assign.proofs.Written.{set_length, set_here, set_there}
use Rattle.vl_lower_assign.specs.declared.change.Change.{Change}
use Rattle.vl_lower_assign.specs.Frames.{taken_back}
use Rattle.vl_lower_assign.specs.Logs.{noted}

pub back_append : (xs ys : List Change) (cells : List ℕ) → taken_back (xs ++ ys) cells ≡ taken_back xs (taken_back ys cells)
back_append [] ys cells = refl
back_append (x ∷ xs) ys cells = ap (λ cs. slice_set cs x.cell x.node) (back_append xs ys cells)

-- two lists of one length with the same numbers at each place
same_cells : (xs ys : List ℕ) → length xs ≡ length ys → ((i : ℕ) → slice_index xs i ≡ slice_index ys i) → xs ≡ ys
same_cells [] [] e h = refl
same_cells [] (y ∷ ys) e h = absurd (omega (arith, e))
same_cells (x ∷ xs) [] e h = absurd (omega (arith, e))
same_cells (x ∷ xs) (y ∷ ys) e h =
    λ j. h 0 j ∷ same_cells xs ys (omega (arith, e)) (λ i. h (suc i)) j

-- cells that differ among so many from the first on alone
pub record DifferIn (first k : ℕ) (before after : List ℕ) : Type 0 where
  pub each : length after ≡ length before
  pub same : (i : ℕ) → ((j : ℕ) → j < k → i ≡ first + j → ⊥) → slice_index after i ≡ slice_index before i

pub noted_back : (first k : ℕ) (before after : List ℕ) → first + k ≤ length before → DifferIn first k before after
    → taken_back (noted first k before) after ≡ before
noted_back first zero before after within h =
    same_cells after before h.each (λ i. h.same i (λ j less e. omega (arith, less)))
noted_back first (suc k) before after within h =
    let last : Change = record { cell = first + k; node = slice_index before (first + k) } in
    let back = slice_set after (first + k) (slice_index before (first + k)) in
    back_append (noted first k before) (last ∷ []) after
    ∙ noted_back first k before back (omega (arith, within)) (record {
      each = set_length after (first + k) (slice_index before (first + k)) ∙ h.each;
      same = λ i apart. by i (decided i (first + k)) apart;
    })
  where
    decided : (i n : ℕ) → (i ≡ n) ⊎ (i ≡ n → ⊥)
    decided i n = from (cases_lt i n) (cases_lt n i)
      where
        from : (i < n) ⊎ (n ≤ i) → (n < i) ⊎ (i ≤ n) → (i ≡ n) ⊎ (i ≡ n → ⊥)
        from (inl l) m = inr (λ e. omega (arith, l, e))
        from (inr l) (inl m) = inr (λ e. omega (arith, m, e))
        from (inr l) (inr m) = inl (omega (arith, l, m))

    by : (i : ℕ) → (i ≡ first + k) ⊎ (i ≡ first + k → ⊥) → ((j : ℕ) → j < k → i ≡ first + j → ⊥)
        → slice_index (slice_set after (first + k) (slice_index before (first + k))) i ≡ slice_index before i
    by i (inl e) apart =
        let less : first + k < length after = omega (arith, within, h.each) in
        ap (slice_index (slice_set after (first + k) (slice_index before (first + k)))) e
        ∙ set_here after (first + k) (slice_index before (first + k)) less ∙ ap (slice_index before) (sym e)
    by i (inr other) apart =
        set_there after (first + k) (slice_index before (first + k)) i other
        ∙ h.same i (λ j less e. last_or j less e)
      where
        last_or : (j : ℕ) → j < suc k → i ≡ first + j → ⊥
        last_or j less e = at (cases_lt j k)
          where
            at : (j < k) ⊎ (k ≤ j) → ⊥
            at (inl l) = apart j l e
            at (inr l) = let same : j ≡ k = omega (arith, less, l) in other (e ∙ ap (λ n. first + n) same)

-- one cell more
pub noted_more : (first m cell node : ℕ) (cells : List ℕ) → first + m ≡ cell → node ≡ slice_index cells cell
    → noted first m cells ++ record { cell = cell; node = node } ∷ [] ≡ noted first (suc m) cells
noted_more first m cell node cells e n =
    λ i. noted first m cells ++ record { cell = sym e i; node = (n ∙ ap (slice_index cells) (sym e)) i } ∷ []
