-- What printed numbers are as words.
use Rattle.std.proofs.Common.{◌≡◌, ℕ, ◌+◌, ◌-◌, ◌*◌, ◌/◌, ◌%◌, ◌^◌, ◌<◌, ◌≤◌, Bool, true, false, cond, ◌&&◌, ◌==◌}
use Rattle.std.proofs.Common.{List, [], ◌∷◌, ◌++◌, length, pos, neg_ℤ, Option, Some, None, refl, ap, sym, ◌∙◌, inl}
use Rattle.std.proofs.Common.{inr, arith}
use Rattle.std.specs.Prelude.{option_map, nat_le, decimal}
use Rattle.std.specs.List.{list_all}
use Rattle.std.proofs.lemmas.Bool.{false≢true, cases_Bool}
use Rattle.std.proofs.lemmas.Bool.Decides.{nat_tests}
use Rattle.std.proofs.lemmas.List.{length-append}
use Rattle.std.proofs.lemmas.Fmt.{decimal_by_steps}
use Rattle.fv_lines.specs.Numbers.{is_digit, continued, natural_of, at_most, number_up_to, signed}

continued_push : (m d n : ℕ) (ds : List ℕ) → continued m ds ≡ Some n → is_digit d ≡ true
    → continued m (ds ++ d ∷ []) ≡ Some (10 * n + (d - 48))
continued_push m d n [] e h =
    ap (λ b. cond b (Some (10 * m + (d - 48))) None) h ∙ ap (λ x. Some (10 * x + (d - 48))) (some_is m n e) where
      some_is : (x y : ℕ) → Some x ≡ Some y → x ≡ y
      some_is x y e = cc
continued_push m d n (c ∷ cs) e h = elim (cases_Bool (is_digit c)) [
  | inl k ↦
      ap (λ b. cond b (continued (10 * m + (c - 48)) (cs ++ d ∷ [])) None) k
      ∙ continued_push (10 * m + (c - 48)) d n cs
      (sym (ap (λ b. cond b (continued (10 * m + (c - 48)) cs) None) k) ∙ e) h
  | inr k ↦ absurd (none_some n (sym (ap (λ b. cond b (continued (10 * m + (c - 48)) cs) None) k) ∙ e))
] where
  none_some : (x : ℕ) → None ≡ Some x → ⊥
  none_some x e = cc

-- one digit or more, which say the number
pub record Says (n : ℕ) (ds : List ℕ) : Type 0 where
  pub some : 0 < length ds
  pub digits : list_all is_digit ds ≡ true
  pub value : continued 0 ds ≡ Some n

digit_is : (d : ℕ) → d < 10 → is_digit (48 + d) ≡ true
digit_is d h = grind (arith, nat_tests)

all_push : (ds : List ℕ) (d : ℕ) → list_all is_digit ds ≡ true → is_digit d ≡ true
    → list_all is_digit (ds ++ d ∷ []) ≡ true
all_push [] d a h = ap (λ b. b && true) h
all_push (c ∷ cs) d a h =
    let p = and_parts (is_digit c) (list_all is_digit cs) a in
    ap (λ b. b && list_all is_digit (cs ++ d ∷ [])) p.0 ∙ all_push cs d p.1 h where
      and_parts : (a b : Bool) → (a && b) ≡ true → (a ≡ true) × (b ≡ true)
      and_parts true b e = (refl, e)
      and_parts false b e = absurd (false≢true e)

says_one : (n : ℕ) → n < 10 → Says n ((48 + n) ∷ [])
says_one n h = record {
  some = omega arith;
  digits = ap (λ b. b && true) (digit_is n h);
  value = ap (λ b. cond b (Some (10 * 0 + (48 + n - 48))) None) (digit_is n h)
      ∙ ap (λ x. Some x) (let e : 10 * 0 + (48 + n - 48) ≡ n = omega arith in e);
}

says_more : (n : ℕ) (ds : List ℕ) → 10 ≤ n → Says (n / 10) ds → Says n (ds ++ ((48 + n % 10) ∷ []))
says_more n ds h s =
    let small : n % 10 < 10 = omega arith in
    let whole : 10 * (n / 10) + (48 + n % 10 - 48) ≡ n = omega arith in
    record {
      some = omega (arith, s.some, length-append ds ((48 + n % 10) ∷ []));
      digits = all_push ds (48 + n % 10) s.digits (digit_is (n % 10) small);
      value = continued_push 0 (48 + n % 10) (n / 10) ds s.value (digit_is (n % 10) small) ∙ ap (λ x. Some x) whole;
    }

pub decimal_says : (n : ℕ) → n < 2 ^ 64 → Says n (decimal n)
decimal_says n h = decimal_by_steps Says says_one says_more n h

pub natural_from : (n : ℕ) (ds : List ℕ) → Says n ds → natural_of ds ≡ Some n
natural_from n [] s = absurd (omega (arith, s.some))
natural_from n (d ∷ ds) s = s.value

pub number_is : (limit n : ℕ) (ds : List ℕ) → Says n ds → n ≤ limit → number_up_to limit ds ≡ Some n
number_is limit n ds s h =
    let le : nat_le n limit ≡ true = grind (arith, nat_tests) in
    ap (at_most limit) (natural_from n ds s) ∙ ap (λ b. cond b (Some n) None) le

-- a word of digits has no sign
pub unsigned : (number : List ℕ → Option ℕ) (n : ℕ) (ds : List ℕ) → Says n ds
    → signed number ds ≡ option_map pos (number ds)
unsigned number n [] s = absurd (omega (arith, s.some))
unsigned number n (d ∷ ds) s =
    let p : is_digit d ≡ true = first (is_digit d) (list_all is_digit ds) s.digits in
    let no : (d == 45) ≡ false = grind (arith, nat_tests) in
    ap (λ b. cond b (option_map (λ k. neg_ℤ (pos k)) (number ds)) (option_map pos (number (d ∷ ds)))) no where
      first : (a b : Bool) → (a && b) ≡ true → a ≡ true
      first true b e = refl
      first false b e = absurd (false≢true e)
