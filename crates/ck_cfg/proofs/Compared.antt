-- Numbers are compared by their digits.
use Rattle.std.proofs.Common.{◌≡◌, ℕ, suc, ◌+◌, ◌-◌, ◌*◌, ◌<◌, ◌≤◌, Bool, true, false, cond, ◌&&◌, ◌==◌, List, []}
use Rattle.std.proofs.Common.{◌∷◌, length, Option, Some, None, refl, ap, sym, subst, ◌∙◌, inl, inr, arith}
use Rattle.std.specs.Prelude.{nat_le, nat_lt, ◌⊎◌, min, option_map, MatchOption}
use Rattle.std.specs.List.{list_all}
use Rattle.std.proofs.lemmas.Bool.{false≢true, cases_Bool, cases_lt}
use Rattle.std.proofs.lemmas.Bool.Decides.{nat_tests}
use Rattle.fv_lines.specs.declared.numbers.TheConstants.{MOST}
use Rattle.fv_lines.specs.Numbers.{is_digit, continued, natural_of}
use Rattle.ck_cfg.specs.Digits.{continued_value, value, significant}

and_parts : (a b : Bool) → (a && b) ≡ true → (a ≡ true) × (b ≡ true)
and_parts true b e = (refl, e)
and_parts false b e = absurd (false≢true e)

none_some : (n : ℕ) → None ≡ Some n → ⊥
none_some n e = cc

continued_is : (m n : ℕ) (ds : List ℕ) → continued m ds ≡ Some n → (list_all is_digit ds ≡ true)
    × (n ≡ continued_value m ds)
continued_is m n [] e = (refl, same m n e) where
  same : (a b : ℕ) → Some a ≡ Some b → b ≡ a
  same a b e = cc
continued_is m n (d ∷ ds) e = elim (cases_Bool (is_digit d)) [
  | inl t ↦
      let r = continued_is (10 * m + (d - 48)) n ds
      (sym (ap (λ b. cond b (continued (10 * m + (d - 48)) ds) None) t) ∙ e) in
      (ap (λ b. b && list_all is_digit ds) t ∙ r.0, r.1)
  | inr f ↦ absurd (none_some n (sym (ap (λ b. cond b (continued (10 * m + (d - 48)) ds) None) f) ∙ e))
]

pub number_is : (word : List ℕ) (n : ℕ) → natural_of word ≡ Some n → (list_all is_digit word ≡ true) × (n ≡ value word)
number_is [] n e = absurd (none_some n e)
number_is (d ∷ ds) n e = continued_is 0 n (d ∷ ds) e

digit_range : (d : ℕ) → is_digit d ≡ true → (48 ≤ d) × (d ≤ 57)
digit_range d h = (grind (arith, nat_tests), grind (arith, nat_tests))

-- the larger front wins, whatever digits stand behind it, if they are no fewer
less : (ds es : List ℕ) (m n : ℕ) → list_all is_digit ds ≡ true → list_all is_digit es ≡ true → length ds ≤ length es
    → m < n → continued_value m ds < continued_value n es
less [] [] m n a b l h = h
less (d ∷ ds) [] m n a b l h = absurd (omega arith)
less ds (e ∷ es) m n a b l h =
    let q = and_parts (is_digit e) (list_all is_digit es) b in
    elim (cases_lt (length es) (length ds)) [
      | inl longer ↦ both ds a (omega arith) (λ xs k c g i. less xs es k (10 * n + (e - 48)) c q.1 g i)
      | inr shorter ↦ less ds es m (10 * n + (e - 48)) a q.1 shorter (omega arith)
    ] where
      both : (xs : List ℕ) → list_all is_digit xs ≡ true → length xs ≡ suc (length es)
          → ((ys : List ℕ) (k : ℕ) → list_all is_digit ys ≡ true → length ys ≤ length es → k < 10 * n + (e - 48)
          → continued_value k ys < continued_value (10 * n + (e - 48)) es)
          → continued_value m xs < continued_value (10 * n + (e - 48)) es
      both [] p l again = absurd (omega arith)
      both (x ∷ xs) p l again =
          let c = and_parts (is_digit x) (list_all is_digit xs) p in
          let r = digit_range x c.0 in
          again xs (10 * m + (x - 48)) c.1 (omega arith) (omega (arith, r.0, r.1))

less_test : (a b : ℕ) → a < b → (nat_le a b ≡ true) × (nat_le b a ≡ false)
less_test a b h = (grind (arith, nat_tests), grind (arith, nat_tests))

-- the order of two lists of digits: the first that differ decide
abbrev pub in_order : List ℕ → List ℕ → Bool
in_order [] ys = true
in_order (x ∷ xs) [] = false
in_order (x ∷ xs) (y ∷ ys) = cond (nat_lt x y) true (cond (x == y) (in_order xs ys) false)

order_decides : (xs ys : List ℕ) (n : ℕ) → list_all is_digit xs ≡ true → list_all is_digit ys ≡ true
    → length xs ≡ length ys → in_order xs ys ≡ nat_le (continued_value n xs) (continued_value n ys)
order_decides [] [] n a b l = sym (itself n) where
  itself : (k : ℕ) → nat_le k k ≡ true
  itself k = grind (arith, nat_tests)
order_decides [] (y ∷ ys) n a b l = absurd (omega arith)
order_decides (x ∷ xs) [] n a b l = absurd (omega arith)
order_decides (x ∷ xs) (y ∷ ys) n a b l =
    let p = and_parts (is_digit x) (list_all is_digit xs) a in
    let q = and_parts (is_digit y) (list_all is_digit ys) b in
    let r = digit_range x p.0 in
    let s = digit_range y q.0 in
    elim (cases_lt x y) [
      | inl lt ↦
          let t : nat_lt x y ≡ true = grind (arith, nat_tests) in
          ap (λ c. cond c true (cond (x == y) (in_order xs ys) false)) t
          ∙ sym (less_test (continued_value (10 * n + (x - 48)) xs) (continued_value (10 * n + (y - 48)) ys)
          (less xs ys (10 * n + (x - 48)) (10 * n + (y - 48)) p.1 q.1 (omega arith)
          (omega (arith, r.0, r.1, s.0, s.1)))).0
      | inr ge ↦
          let t : nat_lt x y ≡ false = grind (arith, nat_tests) in
          ap (λ c. cond c true (cond (x == y) (in_order xs ys) false)) t
          ∙ behind (cases_lt y x) ge p.1 q.1 r.0 s.0 (order_decides xs ys (10 * n + (x - 48)) p.1 q.1 (omega arith))
    ] where
      behind : (y < x) ⊎ (x ≤ y) → y ≤ x → list_all is_digit xs ≡ true → list_all is_digit ys ≡ true → 48 ≤ x
          → 48 ≤ y → in_order xs ys ≡ nat_le (continued_value (10 * n + (x - 48)) xs)
          (continued_value (10 * n + (x - 48)) ys)
          → cond (x == y) (in_order xs ys) false ≡ nat_le (continued_value (10 * n + (x - 48)) xs)
          (continued_value (10 * n + (y - 48)) ys)
      behind (inl gt) ge i j u v again =
          let t : (x == y) ≡ false = grind (arith, nat_tests) in
          ap (λ c. cond c (in_order xs ys) false) t
          ∙ sym (less_test (continued_value (10 * n + (y - 48)) ys) (continued_value (10 * n + (x - 48)) xs)
          (less ys xs (10 * n + (y - 48)) (10 * n + (x - 48)) j i (omega arith) (omega arith))).1
      behind (inr le) ge i j u v again =
          let t : (x == y) ≡ true = grind (arith, nat_tests) in
          let e : x ≡ y = omega arith in
          ap (λ c. cond c (in_order xs ys) false) t ∙ again
          ∙ ap (λ z. nat_le (continued_value (10 * n + (x - 48)) xs) (continued_value (10 * n + (z - 48)) ys)) e

same_value : (ds : List ℕ) → value (significant ds) ≡ value ds
same_value [] = refl
same_value (d ∷ ds) = elim (cases_Bool (d == 48)) [
  | inl t ↦
      let e : 10 * 0 + (d - 48) ≡ 0 = grind (arith, nat_tests) in
      ap (λ b. value (cond b (significant ds) (d ∷ ds))) t ∙ same_value ds ∙ ap (λ n. continued_value n ds) (sym e)
  | inr f ↦ ap (λ b. value (cond b (significant ds) (d ∷ ds))) f
]

same_digits : (ds : List ℕ) → list_all is_digit ds ≡ true → list_all is_digit (significant ds) ≡ true
same_digits [] h = refl
same_digits (d ∷ ds) h = elim (cases_Bool (d == 48)) [
  | inl t ↦ ap (λ b. list_all is_digit (cond b (significant ds) (d ∷ ds))) t
      ∙ same_digits ds (and_parts (is_digit d) (list_all is_digit ds) h).1
  | inr f ↦ ap (λ b. list_all is_digit (cond b (significant ds) (d ∷ ds))) f ∙ h
]

-- the first digit is no zero
abbrev pub Leads : List ℕ → Type 0
Leads [] = Unit {0}
Leads (d ∷ ds) = 48 < d

leads : (ds : List ℕ) → list_all is_digit ds ≡ true → Leads (significant ds)
leads [] h = tt
leads (d ∷ ds) h =
    let p = and_parts (is_digit d) (list_all is_digit ds) h in
    let r = digit_range d p.0 in
    elim (cases_Bool (d == 48)) [
      | inl t ↦ subst (λ b. Leads (cond b (significant ds) (d ∷ ds))) (sym t) (leads ds p.1)
      | inr f ↦ subst (λ b. Leads (cond b (significant ds) (d ∷ ds))) (sym f) (above d r.0 f)
    ] where
      above : (d : ℕ) → 48 ≤ d → (d == 48) ≡ false → 48 < d
      above d h f = grind (arith, nat_tests)

fewer : (xs ys : List ℕ) → list_all is_digit xs ≡ true → list_all is_digit ys ≡ true → Leads ys
    → length xs < length ys → value xs < value ys
fewer xs [] a b s h = absurd (omega arith)
fewer xs (y ∷ ys) a b s h = less xs ys 0 (10 * 0 + (y - 48)) a (and_parts (is_digit y) (list_all is_digit ys) b).1
    (omega arith) (omega (arith, s))

module _ (first second : List ℕ) (a : list_all is_digit first ≡ true) (b : list_all is_digit second ≡ true) where
  values : nat_le (value (significant first)) (value (significant second)) ≡ nat_le (value first) (value second)
  values = ap (λ n. nat_le n (value (significant second))) (same_value first)
      ∙ ap (λ n. nat_le (value first) n) (same_value second)

  -- of numbers of different lengths the shorter is less
  pub by_length : (length (significant first) ≡ length (significant second) → ⊥)
      → nat_lt (length (significant first)) (length (significant second)) ≡ nat_le (value first) (value second)
  by_length n = elim (cases_lt (length (significant first)) (length (significant second))) [
    | inl lt ↦
        let t : nat_lt (length (significant first)) (length (significant second)) ≡ true = grind (arith, nat_tests) in
        t
        ∙ sym (less_test (value (significant first)) (value (significant second))
        (fewer (significant first) (significant second) (same_digits first a) (same_digits second b)
        (leads second b) lt)).0
        ∙ values
    | inr ge ↦
        let gt : length (significant second) < length (significant first) = grind (arith, n) in
        let t : nat_lt (length (significant first)) (length (significant second)) ≡ false = grind (arith, nat_tests) in
        t
        ∙ sym (less_test (value (significant second)) (value (significant first))
        (fewer (significant second) (significant first) (same_digits second b) (same_digits first a)
        (leads first a) gt)).1
        ∙ values
  ]

  -- of numbers of one length the first different digits decide
  pub by_order : length (significant first) ≡ length (significant second)
      → in_order (significant first) (significant second) ≡ nat_le (value first) (value second)
  by_order l =
      order_decides (significant first) (significant second) 0 (same_digits first a) (same_digits second b) l ∙ values

-- what a number is, as it was read
pub number_read : (word : List ℕ) (r : Option ℕ) → r ≡ option_map (min MOST) (natural_of word)
    → MatchOption r (natural_of word ≡ None)
    (λ n. (natural_of word ≡ Some (value word)) × (list_all is_digit word ≡ true) × (n ≡ min MOST (value word)))
number_read word r e = elim (natural_of word) as
    (λ found. natural_of word ≡ found → r ≡ option_map (min MOST) found
    → MatchOption r (natural_of word ≡ None)
    (λ n. (natural_of word ≡ Some (value word)) × (list_all is_digit word ≡ true) × (n ≡ min MOST (value word)))) [
      | None ↦ λ f g. none r f g
      | Some m ↦ λ f g. some m r f g
    ] refl e where
      none : (r : Option ℕ) → natural_of word ≡ None → r ≡ option_map (min MOST) None
          → MatchOption r (natural_of word ≡ None)
          (λ n. (natural_of word ≡ Some (value word)) × (list_all is_digit word ≡ true) × (n ≡ min MOST (value word)))
      none None f g = f
      none (Some n) f g = absurd (none_some n (sym g))

      some_is : (x y : ℕ) → Some x ≡ Some y → x ≡ y
      some_is x y e = cc

      some : (m : ℕ) (r : Option ℕ) → natural_of word ≡ Some m → r ≡ option_map (min MOST) (Some m)
          → MatchOption r (natural_of word ≡ None)
          (λ n. (natural_of word ≡ Some (value word)) × (list_all is_digit word ≡ true) × (n ≡ min MOST (value word)))
      some m None f g = absurd (none_some (min MOST m) g)
      some m (Some n) f g =
          let k = number_is word m f in
          (f ∙ ap (λ x. Some x) k.1, k.0, some_is n (min MOST m) g ∙ ap (min MOST) k.1)
