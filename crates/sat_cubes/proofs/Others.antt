-- The variables that aren't among some, by their places.
use Rattle.std.proofs.Common.{◌≡◌, ℕ, zero, suc, ◌+◌, ◌-◌, ◌<◌, ◌≤◌, Bool, true, false, cond, List, [], ◌∷◌, ◌++◌}
use Rattle.std.proofs.Common.{length, get_or, refl, ap, sym, subst, ◌∙◌, inl, inr, length-append, arith}
use Rattle.std.proofs.Math.Seq.{get_or-append_seam}
use Rattle.std.proofs.lemmas.List.{get_or_append_left}
use Rattle.std.proofs.lemmas.Bool.{false≢true, cases_lt, cases_Bool}
use Rattle.sat_cubes.specs.Cubes.{others}

module _ (p : ℕ → Bool) where
  -- one more variable that isn't among them
  pub others_open : (n : ℕ) → p (n + 1) ≡ false → others p (n + 1) ≡ others p n ++ (n + 1) ∷ []
  others_open n e =
      let q : n + 1 ≡ suc n = omega arith in
      ap (others p) q ∙ ap (λ b. others p n ++ cond b [] ((n + 1) ∷ [])) e

  pub others_among : (n : ℕ) → p (n + 1) ≡ true → others p (n + 1) ≡ others p n ++ []
  others_among n e =
      let q : n + 1 ≡ suc n = omega arith in
      ap (others p) q ∙ ap (λ b. others p n ++ cond b [] ((n + 1) ∷ [])) e

  pub length_open : (n : ℕ) → p (n + 1) ≡ false → length (others p (n + 1)) ≡ length (others p n) + 1
  length_open n e = ap length (others_open n e) ∙ length-append (others p n) ((n + 1) ∷ [])

  pub length_among : (n : ℕ) → p (n + 1) ≡ true → length (others p (n + 1)) ≡ length (others p n)
  length_among n e =
      let h = ap length (others_among n e) in
      let k = length-append {A = ℕ} (others p n) [] in
      omega (arith, h, k)

  last_open : (n : ℕ) → p (n + 1) ≡ false → get_or (others p (n + 1)) (length (others p n)) 0 ≡ n + 1
  last_open n e =
      ap (λ xs. get_or xs (length (others p n)) 0) (others_open n e)
      ∙ get_or-append_seam (others p n) (n + 1) [] 0

  front : (n k : ℕ) → k < length (others p n) → get_or (others p (n + 1)) k 0 ≡ get_or (others p n) k 0
  front n k h =
      let q : n + 1 ≡ suc n = omega arith in
      ap (λ m. get_or (others p m) k 0) q
      ∙ get_or_append_left (others p n) (cond (p (n + 1)) [] ((n + 1) ∷ [])) 0 k h

  -- what a place among them holds
  pub record IsOther (vars k var : ℕ) : Type 0 where
    pub some : 0 < var
    pub within : var ≤ vars
    pub free : p var ≡ false
    pub place : length (others p var) ≡ k + 1

  more_vars : (n k var : ℕ) → IsOther n k var → IsOther (n + 1) k var
  more_vars n k var h = record {
    some = h.some;
    within = (let w = h.within in omega (arith, w));
    free = h.free;
    place = h.place;
  }

  other_next : (n k : ℕ) → (k < length (others p n) → IsOther n k (get_or (others p n) k 0))
      → k < length (others p (n + 1)) → IsOther (n + 1) k (get_or (others p (n + 1)) k 0)
  other_next n k before h = elim (cases_lt k (length (others p n))) [
    | inl l ↦ subst (IsOther (n + 1) k) (sym (front n k l)) (more_vars n k (get_or (others p n) k 0) (before l))
    | inr l ↦ elim (cases_Bool (p (n + 1))) [
      | inl t ↦ (let e = length_among n t in absurd (omega (arith, e, h, l)))
      | inr t ↦
          let e = length_open n t in
          let q : k ≡ length (others p n) = omega (arith, e, h, l) in
          subst (IsOther (n + 1) k) (sym (ap (λ i. get_or (others p (n + 1)) i 0) q ∙ last_open n t)) (record {
            some = omega arith;
            within = omega arith;
            free = t;
            place = e ∙ ap (λ i. i + 1) (sym q);
          })
    ]
  ]

  pub other_at : (n k : ℕ) → k < length (others p n) → IsOther n k (get_or (others p n) k 0)
  other_at zero k h = absurd (omega (arith, h))
  other_at (suc n) k h =
      let q : n + 1 ≡ suc n = omega arith in
      let P : ℕ → Type 0 = λ m. k < length (others p m) → IsOther m k (get_or (others p m) k 0) in
      subst P q (other_next n k (other_at n k)) h

  grows : (n : ℕ) → length (others p n) ≤ length (others p (n + 1))
  grows n = elim (cases_Bool (p (n + 1))) [
    | inl t ↦ (let e = length_among n t in omega (arith, e))
    | inr t ↦ (let e = length_open n t in omega (arith, e))
  ]

  -- and where a variable stands
  pub record StandsAt (vars var : ℕ) : Type 0 where
    pub some : 0 < length (others p var)
    pub within : length (others p var) ≤ length (others p vars)
    pub at : get_or (others p vars) (length (others p var) - 1) 0 ≡ var

  stands_next : (n var : ℕ) → 0 < var → p var ≡ false → (var ≤ n → StandsAt n var) → var ≤ n + 1
      → StandsAt (n + 1) var
  stands_next n var s o before h = elim (cases_lt n var) [
    | inl l ↦
        let e : var ≡ n + 1 = omega (arith, l, h) in
        let t : p (n + 1) ≡ false = ap p (sym e) ∙ o in
        let long = length_open n t in
        let m : length (others p var) ≡ length (others p (n + 1)) = ap (λ i. length (others p i)) e in
        let q : length (others p var) - 1 ≡ length (others p n) = omega (arith, m, long) in
        record {
          some = omega (arith, m, long);
          within = omega (arith, m);
          at = ap (λ i. get_or (others p (n + 1)) i 0) q ∙ last_open n t ∙ sym e;
        }
    | inr l ↦
        let b = before l in
        let some = b.some in
        let within = b.within in
        let f : length (others p var) - 1 < length (others p n) = omega (arith, some, within) in
        record {
          some = some;
          within = (let g = grows n in omega (arith, g, within));
          at = front n (length (others p var) - 1) f ∙ b.at;
        }
  ]

  pub stands_at : (n var : ℕ) → 0 < var → p var ≡ false → var ≤ n → StandsAt n var
  stands_at zero var s o h = absurd (omega (arith, s, h))
  stands_at (suc n) var s o h =
      let q : n + 1 ≡ suc n = omega arith in
      let P : ℕ → Type 0 = λ m. var ≤ m → StandsAt m var in
      subst P q (stands_next n var s o (stands_at n var s o)) h

  length_next : (n m : ℕ) → length (others p n) ≤ m → length (others p (n + 1)) ≤ m + 1
  length_next n m h = elim (cases_Bool (p (n + 1))) [
    | inl t ↦ (let e = length_among n t in omega (arith, e, h))
    | inr t ↦ (let e = length_open n t in omega (arith, e, h))
  ]

  pub length_others : (n : ℕ) → length (others p n) ≤ n
  length_others zero = omega arith
  length_others (suc n) =
      let q : n + 1 ≡ suc n = omega arith in
      let P : ℕ → Type 0 = λ m. length (others p m) ≤ m in
      subst P q (length_next n n (length_others n))
