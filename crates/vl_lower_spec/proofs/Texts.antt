-- Numbers, and names of the words of memories, have neither a blank nor a control byte in them.
use Rattle.std.specs.Prelude.{◌≡◌, refl, ℕ, zero, suc, ◌<◌, ◌/◌, ◌%◌, ◌==◌, List, [], ◌∷◌, ◌++◌}
use Rattle.std.specs.Prelude.{Bool, true, false, if◌then◌else◌, Option, Some, None, ℤ, pos, negsuc, ◌+ℤ◌, ◌-ℤ◌}
use Rattle.std.specs.Prelude.{int_le, codes, decimal}
use Rattle.std.specs.Fmt.{digit_glyph, digits, digits_onto, signed_decimal}
use Rattle.std.specs.List.{AllByRecursion}
use Rattle.std.proofs.Common.{arith, mod-lt}
use Rattle.std.proofs.lemmas.Bool.Decides.{nat_tests}
use Rattle.vl_size.specs.Table.{span, word_name}
use Rattle.vl_mean.specs.Cells.{cells_of, words_from}
use Rattle.vl_mean.specs.FlatLaw.{is_graphic}

pub both : {X : Type 0} (P : X → Type 0) (xs ys : List X) → AllByRecursion P xs → AllByRecursion P ys
    → AllByRecursion P (xs ++ ys)
both P [] ys h k = k
both P (x ∷ xs) ys h k = (h.0, both P xs ys h.1 k)

-- neither a blank nor a control byte
abbrev pub IsShown : ℕ → Type 0
IsShown c = is_graphic c ≡ true

abbrev pub Shown : List ℕ → Type 0
Shown text = AllByRecursion IsShown text

joined : (xs ys : List ℕ) → Shown xs → Shown ys → Shown (xs ++ ys)
joined xs ys h k = both IsShown xs ys h k

-- ---- numbers

digit_shown : (d : ℕ) → d < 10 → IsShown (digit_glyph false d)
digit_shown d h = grind (arith, nat_tests)

last_shown : (n : ℕ) → IsShown (digit_glyph false (n % 10))
last_shown n = digit_shown (n % 10) (mod-lt n (omega arith))

digits_shown : (k n : ℕ) (behind : List ℕ) → Shown behind → Shown (digits_onto k 10 false n behind)
digits_shown zero n behind h = h
digits_shown (suc k) n behind h =
    by (n / 10 == 0) (digits_shown k (n / 10) (digit_glyph false (n % 10) ∷ behind) (last_shown n, h))
  where
    by : (b : Bool) → Shown (digits_onto k 10 false (n / 10) (digit_glyph false (n % 10) ∷ behind))
        → Shown (if b then digit_glyph false (n % 10) ∷ behind
        else digits_onto k 10 false (n / 10) (digit_glyph false (n % 10) ∷ behind))
    by true more = (last_shown n, h)
    by false more = more

number_shown : (n : ℕ) → Shown (decimal n)
unfolding digits
number_shown n = digits_shown 64 n [] tt

signed_shown : (z : ℤ) → Shown (signed_decimal z)
signed_shown (pos n) = number_shown n
signed_shown (negsuc n) = (refl, number_shown (suc n))

-- ---- words of memories

word_shown : (memory : List ℕ) (i : ℤ) → Shown memory → Shown (word_name memory i)
word_shown memory i h =
    joined (memory ++ codes "[" ++ signed_decimal i) (codes "]")
    (joined (memory ++ codes "[") (signed_decimal i) (joined memory (codes "[") h (refl, tt)) (signed_shown i))
    (refl, tt)

words_shown : (memory : List ℕ) (n : ℕ) (up : Bool) (i : ℤ) → Shown memory
    → AllByRecursion Shown (words_from memory n up i)
words_shown memory zero up i h = tt
words_shown memory (suc n) up i h =
    (word_shown memory i h, words_shown memory n up (if up then i +ℤ pos 1 else i -ℤ pos 1) h)

pub cells_shown : (text : List ℕ) (words : Option (ℤ × ℤ)) → Shown text → AllByRecursion Shown (cells_of text words)
cells_shown text None h = (h, tt)
cells_shown text (Some b) h = words_shown text (span b.0 b.1) (int_le b.0 b.1) b.0 h
