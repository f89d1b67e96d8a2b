-- The turns of a generate loop that ends: no value of its variable comes twice.
use Rattle.std.specs.Prelude.{◌≡◌, refl, ℕ, zero, suc, ◌+◌, ◌-◌, ◌<◌, ◌≤◌, ◌%◌}
use Rattle.std.specs.Prelude.{◌^◌, ◌==◌, ℤ, pos, negsuc}
use Rattle.std.specs.Prelude.{List, ◌∷◌, ◌++◌, Bool, true, false, if◌then◌else◌}
use Rattle.std.specs.Fmt.{signed_decimal}
use Rattle.std.specs.Coded.{le_prop}
use Rattle.std.proofs.Common.{ap, sym, ◌∙◌, true≢false, arith, mod-lt}
use Rattle.std.proofs.lemmas.Bool.Decides.{nat_tests}
use Rattle.std.proofs.lemmas.Fmt.{signed_decimal_injective}
use lib.Signed.{mag}
use mathlib.Core.HLevel.{is_prop→PathP}
use Rattle.fv_bits.specs.Bits.{as_int, to_int, is_negative}
use Rattle.vl_mean.specs.declared.const_number.Const.{Const}
use Rattle.vl_mean.specs.Constants.{cut_to}
use Rattle.vl_elab_accepted_laws.proofs.Contained.{clash}
use Rattle.vl_elab_accepted_laws.proofs.Genblk.{decimal-free}
use Rattle.vl_elab_accepted_laws.proofs.Texts.{until, until-mark, is_free}

-- ---- how many turns are to come

module _ (goes : Const → Bool) (next : Const → Const) where
  abbrev pub EndsIn : ℕ → Const → Type 0
  EndsIn zero c = goes c ≡ false
  EndsIn (suc k) c = (goes c ≡ true) × EndsIn k (next c)

  pub ends-once : (j k : ℕ) (c : Const) → EndsIn j c → EndsIn k c → j ≡ k
  ends-once zero zero c h e = refl
  ends-once zero (suc k) c h e = absurd (clash e.0 h)
  ends-once (suc j) zero c h e = absurd (clash h.0 e)
  ends-once (suc j) (suc k) c h e = ap suc (ends-once j k (next c) h.1 e.1)

-- ---- the variable's value

-- it was assigned to a genvar
pub record IsTurn (c : Const) : Type 0 where
  pub number : ℕ
  pub is : c ≡ cut_to 32 true number

made : (v : ℕ) → 1 ≤ 32 → 32 ≤ 128 → v < 2 ^ 32 → Const
made v a b c = record { width = 32; signed = true; value = v; some_bits = a; few_bits = b; fits = c }

same_cut : (m n : ℕ) → m % 2 ^ 32 ≡ n % 2 ^ 32 → cut_to 32 true m ≡ cut_to 32 true n
unfolding made
same_cut m n p =
    let a : Const = cut_to 32 true m in
    let b : Const = cut_to 32 true n in
    λ i. made (p i) a.some_bits a.few_bits (is_prop→PathP (λ i. p i < 2 ^ 32) (λ i. le_prop) a.fits b.fits i)

-- ---- as it stands in a full name

abbrev pub index : Const → List ℕ
index c = signed_decimal (as_int c.width c.signed c.value)

abbrev is_close : ℕ → Bool
is_close c = c == 93

no-close : (d : ℕ) → d < 10 → is_close (48 + d) ≡ false
no-close d h = grind (arith, nat_tests)

signed-free : (z : ℤ) → mag z < 2 ^ 63 → is_free is_close (signed_decimal z) ≡ true
signed-free (pos n) h = decimal-free is_close no-close n (omega arith)
signed-free (negsuc n) h = decimal-free is_close no-close (suc n) (omega arith)

abbrev number_in : ℤ → ℕ
number_in (pos n) = n
number_in (negsuc n) = n

abbrev is_pos : ℤ → Bool
is_pos (pos n) = true
is_pos (negsuc n) = false

int_small : (n : ℕ) → n < 2 ^ 32 → mag (to_int 32 n) < 2 ^ 63
int_small n h = by (is_negative 32 n)
  where
    by : (b : Bool) → mag (if b then negsuc (2 ^ 32 - 1 - n) else pos n) < 2 ^ 63
    by true = omega arith
    by false = omega arith

int_same : (m n : ℕ) → m < 2 ^ 32 → n < 2 ^ 32 → to_int 32 m ≡ to_int 32 n → m ≡ n
int_same m n h k = by (is_negative 32 m) (is_negative 32 n)
  where
    by : (a b : Bool)
        → (if a then negsuc (2 ^ 32 - 1 - m) else pos m) ≡ (if b then negsuc (2 ^ 32 - 1 - n) else pos n)
        → m ≡ n
    by true true e = let f : 2 ^ 32 - 1 - m ≡ 2 ^ 32 - 1 - n = ap number_in e in omega arith
    by true false e = absurd (true≢false (sym (ap is_pos e)))
    by false true e = absurd (true≢false (ap is_pos e))
    by false false e = ap number_in e

low : (m : ℕ) → m % 2 ^ 32 < 2 ^ 32
low m = mod-lt m (omega arith)

same_index : (m n : ℕ) → index (cut_to 32 true m) ≡ index (cut_to 32 true n)
    → cut_to 32 true m ≡ cut_to 32 true n
same_index m n e =
    same_cut m n (int_same (m % 2 ^ 32) (n % 2 ^ 32) (low m) (low n)
    (signed_decimal_injective (to_int 32 (m % 2 ^ 32)) (to_int 32 (n % 2 ^ 32)) (int_small (m % 2 ^ 32) (low m))
    (int_small (n % 2 ^ 32) (low n)) e))

index-free : (m : ℕ) → is_free is_close (index (cut_to 32 true m)) ≡ true
index-free m = signed-free (to_int 32 (m % 2 ^ 32)) (int_small (m % 2 ^ 32) (low m))

-- what stands before the bracket that closes it
before : (c : Const) (xs : List ℕ) → IsTurn c → until is_close (index c ++ 93 ∷ xs) ≡ index c
before c xs h =
    until-mark is_close (index c) 93 xs (ap (λ c. is_free is_close (index c)) h.is ∙ index-free h.number) refl

-- two turns whose names can't be told apart are one
pub same_turn : (c d : Const) (xs ys : List ℕ) → IsTurn c → IsTurn d
    → index c ++ 93 ∷ xs ≡ index d ++ 93 ∷ ys → c ≡ d
same_turn c d xs ys h k e =
    let same : index c ≡ index d = sym (before c xs h) ∙ ap (until is_close) e ∙ before d ys k in
    h.is ∙ same_index h.number k.number (sym (ap index h.is) ∙ same ∙ ap index k.is) ∙ sym k.is
