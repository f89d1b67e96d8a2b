-- Parts of a concatenation, one more behind the others each time.
use Rattle.std.specs.Prelude.{◌≡◌, refl, ℕ, zero, suc, ◌+◌, ◌*◌, ◌^◌, ◌≤◌}
use Rattle.std.specs.Prelude.{is_none}
use Rattle.std.specs.Prelude.{◌<◌, List, [], ◌∷◌, ◌++◌, length, get_or, take, drop, Option, Some, None, pos}
use Rattle.std.proofs.Common.{ap, sym, ◌∙◌, arith, true≢false}
use Rattle.std.proofs.Math.Pow.{pow-add}
use Rattle.vl_tree.specs.Expr.{Expr, Exprs, none, more, exprs}
use Rattle.vl_size.specs.declared.decl.Decl.{Decl}
use Rattle.vl_size.specs.Size.{◌>>=◌, Cells, within, size, sizes, or_none, own, operand_of, concatenated, times}
use Rattle.vl_size.proofs.Rest.{within_near, within_some}

-- the parts up to one, it and those behind it
pub split_at : {A : Type 0} (xs : List A) (i : ℕ) (x : A) → i < length xs → x ≡ get_or xs i x
    → xs ≡ (take i xs ++ x ∷ []) ++ drop (suc i) xs
split_at [] i x h e = absurd (omega (arith, h))
split_at (y ∷ xs) zero x h e = ap (λ z. z ∷ xs) (sym e)
split_at (y ∷ xs) (suc i) x h e = ap (λ zs. y ∷ zs) (split_at xs i x (omega (arith, h)) e)

pub take_next : {A : Type 0} (xs : List A) (i : ℕ) (x : A) → i < length xs → x ≡ get_or xs i x
    → take i xs ++ x ∷ [] ≡ take (suc i) xs
take_next [] i x h e = absurd (omega (arith, h))
take_next (y ∷ xs) zero x h e = ap (λ z. z ∷ []) e
take_next (y ∷ xs) (suc i) x h e = ap (λ zs. y ∷ zs) (take_next xs i x (omega (arith, h)) e)

-- the part behind the first one is the one at the place behind
pub at_next : {A : Type 0} (all rest : List A) (first x : A) (i : ℕ) → all ≡ first ∷ rest → i < length rest
    → x ≡ get_or rest i x → (suc i < length all) × (x ≡ get_or all (suc i) x)
at_next all rest first x i e h k =
    (omega (arith, ap length e, h), k ∙ ap (λ xs. get_or xs (suc i) x) (sym e))

module _ (ds : List Decl) where
  -- the first and the other parts have sizes, which make the whole
  pub record Splits (xs ys : List Expr) (m : ℕ) : Type 0 where
    pub front : ℕ
    pub back : ℕ
    pub front_is : sizes ds (exprs xs) ≡ Some front
    pub back_is : sizes ds (exprs ys) ≡ Some back
    pub sum : front + back ≡ m

  pub few_bits : (es : Exprs) (m : ℕ) → sizes ds es ≡ Some m → m ≤ 128
  few_bits none m h = let e : 0 ≡ m = ap or_none h in omega (arith, e)
  few_bits (more e es) m h = by (size ds e) (sizes ds es) h
    where
      by : (o q : Option ℕ) → (o >>= λ j. q >>= λ k. within (j + k)) ≡ Some m → m ≤ 128
      by None q h = absurd (true≢false (ap is_none h))
      by (Some j) None h = absurd (true≢false (ap is_none h))
      by (Some j) (Some k) h = let r = within_some (j + k) m h in omega (arith, r.0, r.1)

  pub splits : (xs ys : List Expr) (m : ℕ) → sizes ds (exprs (xs ++ ys)) ≡ Some m → Splits xs ys m
  splits [] ys m h = record { front = 0; back = m; front_is = refl; back_is = h; sum = omega arith }
  splits (x ∷ xs) ys m h =
      by (size ds x) (sizes ds (exprs (xs ++ ys))) refl refl h (λ k f. splits xs ys k f)
    where
      by : (o q : Option ℕ) → size ds x ≡ o → sizes ds (exprs (xs ++ ys)) ≡ q
          → (o >>= λ j. q >>= λ k. within (j + k)) ≡ Some m
          → ((k : ℕ) → sizes ds (exprs (xs ++ ys)) ≡ Some k → Splits xs ys k) → Splits (x ∷ xs) ys m
      by None q e f h next = absurd (true≢false (ap is_none h))
      by (Some j) None e f h next = absurd (true≢false (ap is_none h))
      by (Some j) (Some k) e f h next =
          let rest = next k f in
          let all = within_some (j + k) m h in
          record {
            front = j + rest.front;
            back = rest.back;
            front_is =
                (λ i. e i >>= λ a. rest.front_is i >>= λ b. within (a + b))
                ∙ within_near (j + rest.front) (omega (arith, rest.sum, all.0));
            back_is = rest.back_is;
            sum = omega (arith, rest.sum, all.1);
          }

  -- a part behind others
  pub size_behind : (xs : List Expr) (e : Expr) (a k : ℕ) → sizes ds (exprs xs) ≡ Some a → size ds e ≡ Some k
      → a + k ≤ 128
      → sizes ds (exprs (xs ++ e ∷ [])) ≡ Some (a + k)
  size_behind [] e a k h g few =
      let none : 0 ≡ a = ap or_none h in
      (λ i. g i >>= λ m. within (m + 0)) ∙ within_near (k + 0) (omega (arith, none)) ∙ ap (λ n. Some n) (omega
      (arith, none))
  size_behind (x ∷ xs) e a k h g few =
      by (size ds x) (sizes ds (exprs xs)) refl refl h (λ b w less. size_behind xs e b k w g less)
    where
      by : (o q : Option ℕ) → size ds x ≡ o → sizes ds (exprs xs) ≡ q → (o >>= λ j. q >>= λ b. within (j + b)) ≡ Some a
          → ((b : ℕ) → sizes ds (exprs xs) ≡ Some b → b + k ≤ 128 → sizes ds (exprs (xs ++ e ∷ [])) ≡ Some (b + k))
          → (size ds x >>= λ j. sizes ds (exprs (xs ++ e ∷ [])) >>= λ b. within (j + b)) ≡ Some (a + k)
      by None q u w h next = absurd (true≢false (ap is_none h))
      by (Some j) None u w h next = absurd (true≢false (ap is_none h))
      by (Some j) (Some b) u w h next =
          let all = within_some (j + b) a h in
          (λ i. u i >>= λ j. next b w (omega (arith, all.1)) i >>= λ b. within (j + b))
          ∙ within_near (j + (b + k)) (omega (arith, all.1)) ∙ ap (λ n. Some n) (omega (arith, all.1))

  shifted_sum : (x y z p q : ℕ) → x * (p * q) + (y * q + z) ≡ (x * p + y) * q + z
  shifted_sum x y z p q = grind arith

  pub number_behind : (v : Cells) (xs : List Expr) (e : Expr) (a k : ℕ) → sizes ds (exprs xs) ≡ Some a
      → size ds e ≡ Some k
      → a + k ≤ 128
      → concatenated ds v (exprs xs) * 2 ^ k + own (operand_of ds v e) ≡ concatenated ds v (exprs (xs ++ e ∷ []))
  number_behind v [] e a k h g few = omega arith
  number_behind v (x ∷ xs) e a k h g few =
      by (size ds x) (sizes ds (exprs xs)) refl h (λ b w less. number_behind v xs e b k w g less)
    where
      front : ℕ → ℕ → ℕ
      front m rest = own (operand_of ds v x) * 2 ^ m + rest

      by : (o q : Option ℕ) → sizes ds (exprs xs) ≡ q → (o >>= λ j. q >>= λ b. within (j + b)) ≡ Some a
          → ((b : ℕ) → sizes ds (exprs xs) ≡ Some b → b + k ≤ 128
          → concatenated ds v (exprs xs) * 2 ^ k + own (operand_of ds v e) ≡ concatenated ds v (exprs (xs ++ e ∷ [])))
          → front (or_none (sizes ds (exprs xs))) (concatenated ds v (exprs xs)) * 2 ^ k + own (operand_of ds v e)
          ≡ front (or_none (sizes ds (exprs (xs ++ e ∷ [])))) (concatenated ds v (exprs (xs ++ e ∷ [])))
      by None q w h next = absurd (true≢false (ap is_none h))
      by (Some j) None w h next = absurd (true≢false (ap is_none h))
      by (Some j) (Some b) w h next =
          let all = within_some (j + b) a h in
          let few : b + k ≤ 128 = omega (arith, all.1) in
          let n = own (operand_of ds v x) in
          let z = own (operand_of ds v e) in
          ap (λ m. front (or_none m) (concatenated ds v (exprs xs)) * 2 ^ k + z) w
          ∙ sym (shifted_sum n (concatenated ds v (exprs xs)) z (2 ^ b) (2 ^ k))
          ∙ (λ i. n * sym (pow-add 2 b k) i + next b w few i)
          ∙ ap (λ m. front (or_none m) (concatenated ds v (exprs (xs ++ e ∷ [])))) (sym (size_behind xs e b k w g few))

  -- ---- the next part

  pub record IsNext (xs : List Expr) (e : Expr) : Type 0 where
    pub front : ℕ
    pub size_of : ℕ
    pub front_is : sizes ds (exprs xs) ≡ Some front
    pub size_is : size ds e ≡ Some size_of
    pub few : front + size_of ≤ 128

  one_size : (e : Expr) (k : ℕ) → sizes ds (exprs (e ∷ [])) ≡ Some k → size ds e ≡ Some k
  one_size e k h = by (size ds e) h
    where
      by : (o : Option ℕ) → (o >>= λ j. within (j + 0)) ≡ Some k → o ≡ Some k
      by None h = absurd (true≢false (ap is_none h))
      by (Some j) h = let r = within_some (j + 0) k h in ap (λ n. Some n) (omega (arith, r.1))

  pub is_next : (xs ys : List Expr) (e : Expr) (m : ℕ) → sizes ds (exprs ((xs ++ e ∷ []) ++ ys)) ≡ Some m → IsNext xs e
  is_next xs ys e m h =
      let all = splits (xs ++ e ∷ []) ys m h in
      let two = splits xs (e ∷ []) all.front all.front_is in
      let few = few_bits (exprs (xs ++ e ∷ [])) all.front all.front_is in
      record {
        front = two.front;
        size_of = two.back;
        front_is = two.front_is;
        size_is = one_size e two.back two.back_is;
        few = omega (arith, two.sum, few);
      }

  -- the parts so far, and one more
  pub more_bits : (xs : List Expr) (e : Expr) (h : IsNext xs e)
      → or_none (sizes ds (exprs xs)) + or_none (size ds e) ≡ or_none (sizes ds (exprs (xs ++ e ∷ [])))
  more_bits xs e h =
      (λ i. or_none (h.front_is i) + or_none (h.size_is i))
      ∙ sym (ap or_none (size_behind xs e h.front h.size_of h.front_is h.size_is h.few))

  pub more_number : (v : Cells) (xs : List Expr) (e : Expr) (h : IsNext xs e)
      → concatenated ds v (exprs xs) * 2 ^ or_none (size ds e) + own (operand_of ds v e)
      ≡ concatenated ds v (exprs (xs ++ e ∷ []))
  more_number v xs e h =
      ap (λ k. concatenated ds v (exprs xs) * 2 ^ or_none k + own (operand_of ds v e)) h.size_is
      ∙ number_behind v xs e h.front h.size_of h.front_is h.size_is h.few

  -- the first one alone
  pub first_is : (e : Expr) (rest : List Expr) (m : ℕ) → sizes ds (exprs (e ∷ rest)) ≡ Some m → IsNext [] e
  first_is e rest m h = is_next [] rest e m h

-- ---- copies

pub times_is : (n k : ℕ) → 1 ≤ n → n * k ≤ 128 → times (pos n) k ≡ Some (n * k)
times_is zero k some few = absurd (omega (arith, some))
times_is (suc n) k some few = within_near (suc n * k) few
