-- Ids that are counted, and those behind them.
use Rattle.std.proofs.Common.{◌≡◌, ℕ, zero, suc, ◌+◌, ◌-◌, ◌<◌, ◌≤◌, true, eqb, List, [], ◌∷◌, ◌++◌, length}
use Rattle.std.proofs.Common.{refl, ap, sym, ◌∙◌}
use Rattle.std.proofs.Common.{◌⊎◌, inl, inr, arith, length-append}
use Rattle.std.specs.List.{range_with_len}
use Rattle.std.proofs.lemmas.Bool.Decides.{nat_tests}
use Rattle.std.proofs.lemmas.List.{get_or_append_left, get_or-append_right, append-nil}
use Rattle.std.proofs.lemmas.List.FromFn.{length-range_with_len, get_or-range_with_len}
use Rattle.lrat_check.specs.Store.{number_at, Rising, NoId, IsId}

range_more : (a n : ℕ) → range_with_len a (suc n) ≡ range_with_len a n ++ (a + n) ∷ []
range_more a zero = let e : a ≡ a + 0 = omega arith in ap (λ x. x ∷ []) e
range_more a (suc n) =
    let e : (a + 1) + n ≡ a + suc n = omega arith in
    ap (λ z. a ∷ z) (range_more (a + 1) n) ∙ ap (λ x. a ∷ (range_with_len (a + 1) n ++ x ∷ [])) e

is_zero : (n : ℕ) → eqb n 0 ≡ true → n ≡ 0
is_zero n e = grind (arith, e)

pub empty : (others : List ℕ) (n : ℕ) → n ≡ length others → eqb n 0 ≡ true → others ≡ []
empty [] n e z = refl
empty (id ∷ others) n e z = absurd (omega (arith, e, is_zero n z))

-- one number more is counted
pub counted_more : (n m : ℕ) (others : List ℕ) → others ≡ [] → m ≡ n + 1
    → range_with_len 1 m ++ others ≡ (range_with_len 1 n ++ others) ++ m ∷ []
counted_more n m others none e =
    let s : m ≡ suc n = omega (arith, e) in
    let q : 1 + n ≡ m = omega (arith, e) in
    ap (λ z. range_with_len 1 m ++ z) none ∙ append-nil (range_with_len 1 m) ∙ ap (range_with_len 1) s
    ∙ range_more 1 n ∙ ap (λ x. range_with_len 1 n ++ x ∷ []) q
    ∙ ap (λ z. z ++ m ∷ []) (sym (append-nil (range_with_len 1 n)) ∙ ap (λ z. range_with_len 1 n ++ z) (sym none))

module _ (n : ℕ) (others : List ℕ) where
  abbrev pub all : List ℕ
  all = range_with_len 1 n ++ others

  pub many : length all ≡ n + length others
  many = omega (arith, length-append (range_with_len 1 n) others, length-range_with_len 1 n)

  pub at_counted : (k : ℕ) → k < n → number_at all k ≡ k + 1
  at_counted k h =
      let e : 1 + k ≡ k + 1 = omega arith in
      get_or_append_left (range_with_len 1 n) others 0 k (omega (arith, h, length-range_with_len 1 n))
      ∙ get_or-range_with_len 1 n k 0 h ∙ e

  pub at_other : (k : ℕ) → n ≤ k → number_at all k ≡ number_at others (k - n)
  at_other k h = get_or-append_right (range_with_len 1 n) others n k 0 (length-range_with_len 1 n) h

  behind : (k : ℕ) → number_at all (n + k) ≡ number_at others k
  behind k =
      let e : n + k - n ≡ k = omega arith in
      at_other (n + k) (omega arith) ∙ ap (number_at others) e

  pub others_rise : Rising all → Rising others
  others_rise r i k h l =
      let m = r (n + i) (n + k) (omega (arith, h)) (omega (arith, l, many)) in
      omega (arith, m, behind i, behind k)

  pub is_counted : (id k : ℕ) → k + 1 ≡ id → id ≤ n → IsId all id k
  is_counted id k e h = (omega (arith, many, e, h), at_counted k (omega (arith, e, h)) ∙ e)

  pub is_other : (id k place : ℕ) → place ≡ n + k → IsId others id k → IsId all id place
  is_other id k place e i = (
    omega (arith, many, e, i.0),
    ap (number_at all) e ∙ behind k ∙ i.1,
  )

  pub no_id : (id : ℕ) → (0 < id → id ≤ n → ⊥) → NoId others id → NoId all id
  no_id id a b k l e = at (split k) where
    split : (k : ℕ) → (k < n) ⊎ (n ≤ k)
    split k = grind (arith, nat_tests)

    at : (k < n) ⊎ (n ≤ k) → ⊥
    at (inl h) = a (omega (arith, at_counted k h, e)) (omega (arith, at_counted k h, e, h))
    at (inr h) = b (k - n) (omega (arith, h, l, many)) (sym (at_other k h) ∙ e)
