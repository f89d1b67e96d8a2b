-- Bytes that can't be two things at once.
use Rattle.std.proofs.Common.{◌≡◌, ℕ, ◌≤◌, Bool, true, false, cond, ◌||◌, ◌==◌, refl, ap, sym, ◌∙◌, arith}
use Rattle.std.specs.Prelude.{nat_le}
use Rattle.std.proofs.lemmas.Bool.{and_parts, or_cases, eqb-true, leb-true, lt-leb, ne_eqb}
use Rattle.std.proofs.Common.{inl, inr, ◌⊎◌}
use Rattle.fv_text.specs.Name.{is_decimal_digit, begins_word}
use Rattle.vl_token.specs.Bytes.{is_space, is_blank, small}
use Rattle.vl_token.specs.Numeral.{is_digit, is_base, is_sign, continues_decimal}
use Rattle.vl_token.specs.Cut.{sort_of}
use Rattle.vl_token.specs.declared.sort.Sort.{Sort}
use Rattle.vl_token.specs.declared.sort.Sort.TheVariants as sort

pub digit_no_word : (b : ℕ) → is_decimal_digit b ≡ true → begins_word b ≡ false
digit_no_word b e =
    let both = and_parts (nat_le 48 b) (nat_le b 57) e in
    let top : b ≤ 57 = leb-true b 57 both.1 in
    let one : nat_le 65 b ≡ false = lt-leb 65 b (omega arith) in
    let two : nat_le 97 b ≡ false = lt-leb 97 b (omega arith) in
    let three : (b == 95) ≡ false = ne_eqb b 95 (λ z. omega arith) in
    rw (one, two, three) refl

-- where a test fails at two values, it fails at what is one of them
not_at : (p : ℕ → Bool) (b n : ℕ) → p n ≡ false → p b ≡ true → (b == n) ≡ false
not_at p b n e f = ne_eqb b n (λ z. let g : true ≡ false = sym f ∙ (ap p z ∙ e) in let h : ⊥ = cc in h)

pub digit_no_space : (b : ℕ) → is_digit b ≡ true → is_space b ≡ false
digit_no_space b e = let one : (b == 32) ≡ false = not_at is_digit b 32 refl e
    in let two : (b == 9) ≡ false = not_at is_digit b 9 refl e in rw (one, two) refl

pub base_no_sign : (b : ℕ) → is_base b ≡ true → is_sign b ≡ false
base_no_sign b e = not_at (λ n. n == 98 || n == 111 || n == 100 || n == 104) (small b) 115 refl e

pub sign_no_base : (b : ℕ) → is_sign b ≡ true → is_base b ≡ false
sign_no_base b e =
    let same : small b ≡ 115 = eqb-true (small b) 115 e in ap (λ n. n == 98 || n == 111 || n == 100 || n == 104) same

pub space_no_decimal : (b : ℕ) → is_space b ≡ true → continues_decimal b ≡ false
space_no_decimal b e = by (or_cases (b == 32) (b == 9) e)
  where
    by : ((b == 32) ≡ true) ⊎ ((b == 9) ≡ true) → continues_decimal b ≡ false
    by (inl h) = ap continues_decimal (eqb-true b 32 h)
    by (inr h) = ap continues_decimal (eqb-true b 9 h)

pub blank_sort : (b : ℕ) → is_blank b ≡ true → sort_of b ≡ sort.Blank
blank_sort b e = first (or_cases (b == 32 || b == 9 || b == 13 || b == 10) (b == 12) e)
  where
    at : (n : ℕ) → (b == n) ≡ true → sort_of n ≡ sort.Blank → sort_of b ≡ sort.Blank
    at n h f = ap sort_of (eqb-true b n h) ∙ f

    fourth : ((b == 32) ≡ true) ⊎ ((b == 9) ≡ true) → sort_of b ≡ sort.Blank
    fourth (inl h) = at 32 h refl
    fourth (inr h) = at 9 h refl

    third : ((b == 32 || b == 9) ≡ true) ⊎ ((b == 13) ≡ true) → sort_of b ≡ sort.Blank
    third (inl h) = fourth (or_cases (b == 32) (b == 9) h)
    third (inr h) = at 13 h refl

    second : ((b == 32 || b == 9 || b == 13) ≡ true) ⊎ ((b == 10) ≡ true) → sort_of b ≡ sort.Blank
    second (inl h) = third (or_cases (b == 32 || b == 9) (b == 13) h)
    second (inr h) = at 10 h refl

    first : ((b == 32 || b == 9 || b == 13 || b == 10) ≡ true) ⊎ ((b == 12) ≡ true) → sort_of b ≡ sort.Blank
    first (inl h) = second (or_cases (b == 32 || b == 9 || b == 13) (b == 10) h)
    first (inr h) = at 12 h refl

pub word_sort : (b : ℕ) → begins_word b ≡ true → sort_of b ≡ sort.Word
word_sort b e = rw e refl

pub digit_sort : (b : ℕ) → is_decimal_digit b ≡ true → sort_of b ≡ sort.Digit
digit_sort b e = rw (digit_no_word b e, e) refl

-- what is known of a byte of a sort
abbrev pub IsSort : Sort → ℕ → Type 0
IsSort sort.Word b = begins_word b ≡ true
IsSort sort.Digit b = is_decimal_digit b ≡ true
IsSort sort.Blank b = is_blank b ≡ true
IsSort sort.Slash b = b ≡ 47
IsSort sort.Apostrophe b = b ≡ 39
IsSort sort.Dollar b = b ≡ 36
IsSort sort.Backquote b = b ≡ 96
IsSort sort.Quote b = b ≡ 34
IsSort sort.Backslash b = b ≡ 92
IsSort sort.Other b = Unit {0}

choose : (b : ℕ) (s t : Sort) (c : Bool) → (c ≡ true → IsSort s b) → IsSort t b → IsSort (cond c s t) b
choose b s t true f g = f refl
choose b s t false f g = g

at_mark : (b n : ℕ) → (b == n) ≡ true → b ≡ n
at_mark b n e = eqb-true b n e

pub sort_facts : (b : ℕ) → IsSort (sort_of b) b
sort_facts b =
    choose b sort.Word _ (begins_word b) (λ e. e)
    (choose b sort.Digit _ (is_decimal_digit b) (λ e. e) (choose b sort.Blank _ (is_blank b) (λ e. e)
    (choose b sort.Slash _ (b == 47) (at_mark b 47)
    (choose b sort.Apostrophe _ (b == 39) (at_mark b 39) (choose b sort.Dollar _ (b == 36) (at_mark b 36)
    (choose b sort.Backquote _ (b == 96) (at_mark b 96)
    (choose b sort.Quote _ (b == 34) (at_mark b 34)
    (choose b sort.Backslash sort.Other (b == 92) (at_mark b 92) tt))))))))
