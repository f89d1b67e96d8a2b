-- Beginnings of texts: up to the first mark.
use Rattle.std.specs.Prelude.{◌≡◌, refl, ℕ, List, [], ◌∷◌, ◌++◌, Bool, true, false, ◌&&◌, not}
use Rattle.std.specs.Prelude.{if◌then◌else◌}
use Rattle.std.proofs.Common.{ap, sym, ◌∙◌, true≢false}

module _ (p : ℕ → Bool) where
  -- up to the first mark
  abbrev pub until : List ℕ → List ℕ
  until [] = []
  until (x ∷ xs) = if p x then [] else x ∷ until xs

  -- without a mark
  abbrev pub is_free : List ℕ → Bool
  is_free [] = true
  is_free (x ∷ xs) = not (p x) && is_free xs

  pub until-free : (xs : List ℕ) → is_free xs ≡ true → until xs ≡ xs
  until-free [] h = refl
  until-free (x ∷ xs) h = by (p x) refl h (until-free xs)
    where
      by : (b : Bool) → p x ≡ b → (not b && is_free xs) ≡ true → (is_free xs ≡ true → until xs ≡ xs)
          → (if p x then [] else x ∷ until xs) ≡ x ∷ xs
      by true e f next = absurd (true≢false (sym f))
      by false e f next = ap (λ b. if b then [] else x ∷ until xs) e ∙ ap (λ l. x ∷ l) (next f)

  -- what stands before a mark
  pub until-mark : (xs : List ℕ) (c : ℕ) (ys : List ℕ) → is_free xs ≡ true → p c ≡ true
      → until (xs ++ c ∷ ys) ≡ xs
  until-mark [] c ys h k = ap (λ b. if b then [] else c ∷ until ys) k
  until-mark (x ∷ xs) c ys h k = by (p x) refl h (λ f. until-mark xs c ys f k)
    where
      by : (b : Bool) → p x ≡ b → (not b && is_free xs) ≡ true
          → (is_free xs ≡ true → until (xs ++ c ∷ ys) ≡ xs)
          → (if p x then [] else x ∷ until (xs ++ c ∷ ys)) ≡ x ∷ xs
      by true e f next = absurd (true≢false (sym f))
      by false e f next = ap (λ b. if b then [] else x ∷ until (xs ++ c ∷ ys)) e ∙ ap (λ l. x ∷ l) (next f)

  pub free-append : (xs ys : List ℕ) → is_free xs ≡ true → is_free ys ≡ true → is_free (xs ++ ys) ≡ true
  free-append [] ys h k = k
  free-append (x ∷ xs) ys h k = by (not (p x)) h (λ f. free-append xs ys f k)
    where
      by : (b : Bool) → (b && is_free xs) ≡ true → (is_free xs ≡ true → is_free (xs ++ ys) ≡ true)
          → (b && is_free (xs ++ ys)) ≡ true
      by true f next = next f
      by false f next = absurd (true≢false (sym f))
