-- Names, numbers and what stands between them have neither a blank nor a control byte in them.
use Rattle.std.specs.Prelude.{◌≡◌, refl, ℕ, zero, suc, ◌+◌, ◌-◌, ◌<◌, ◌^◌, ◌%◌, List, [], ◌∷◌, ◌++◌, replicate}
use Rattle.std.specs.Prelude.{decimal, codes}
use Rattle.std.specs.Prelude.{Bool, true, false, ◌&&◌, not, Option, Some, None, ℤ, pos, negsuc, if◌then◌else◌}
use Rattle.std.specs.Fmt.{signed_decimal}
use Rattle.std.specs.List.{list_all}
use Rattle.std.proofs.Common.{ap, sym, ◌∙◌, true≢false, arith, mod-lt}
use Rattle.std.proofs.lemmas.Bool.Decides.{nat_tests}
use lib.Signed.{mag}
use Rattle.fv_text.specs.Name.{begins_word, continues_word, is_name, is_word}
use Rattle.fv_bits.specs.Bits.{as_int, is_negative, to_int}
use Rattle.vl_tree.specs.ExprWellFormed.{IsName}
use Rattle.vl_tree.specs.StmtWellFormed.{IsOptionalName}
use Rattle.vl_mean.specs.declared.const_number.Const.{Const}
use Rattle.vl_mean.specs.Constants.{cut_to}
use Rattle.vl_mean.specs.Declarations.{block_name, genblk, unlabelled}
use Rattle.vl_mean.specs.FlatLaw.{is_graphic}
use Rattle.vl_mean.specs.Walk.{turn_path}
use Rattle.vl_elab_accepted_laws.proofs.Genblk.{IsGenblk, decimal-free, unlabelled-is}
use Rattle.vl_elab_accepted_laws.proofs.Texts.{free-append, is_free}
use Rattle.vl_elab_accepted_laws.proofs.Turns.{IsTurn}

abbrev pub is_hidden : ℕ → Bool
is_hidden c = not (is_graphic c)

abbrev pub Clean : List ℕ → Type 0
Clean text = is_free is_hidden text ≡ true

pub clean_both : (xs ys : List ℕ) → Clean xs → Clean ys → Clean (xs ++ ys)
clean_both xs ys h k = free-append is_hidden xs ys h k

shown_digit : (d : ℕ) → d < 10 → is_hidden (48 + d) ≡ false
shown_digit d h = grind (arith, nat_tests)

shown_first : (c : ℕ) → begins_word c ≡ true → is_hidden c ≡ false
shown_first c h = grind (arith, nat_tests)

shown_next : (c : ℕ) → continues_word c ≡ true → is_hidden c ≡ false
shown_next c h = grind (arith, nat_tests)

and_first : (a b : Bool) → (a && b) ≡ true → a ≡ true
and_first true b h = refl
and_first false b h = h

and_second : (a b : Bool) → (a && b) ≡ true → b ≡ true
and_second true b h = h
and_second false b h = absurd (true≢false (sym h))

all_clean : (cs : List ℕ) → list_all continues_word cs ≡ true → Clean cs
all_clean [] h = refl
all_clean (c ∷ cs) h =
    ap (λ b. not b && is_free is_hidden cs) (shown_next c (and_first (continues_word c) (list_all continues_word cs) h))
    ∙ all_clean cs (and_second (continues_word c) (list_all continues_word cs) h)

word_clean : (cs : List ℕ) → is_word cs ≡ true → Clean cs
word_clean [] h = refl
word_clean (c ∷ cs) h =
    ap (λ b. not b && is_free is_hidden cs) (shown_first c (and_first (begins_word c) (list_all continues_word cs) h))
    ∙ all_clean cs (and_second (begins_word c) (list_all continues_word cs) h)

pub name_clean : (text : List ℕ) → IsName text → Clean text
unfolding is_name
name_clean text h = word_clean text (and_first (is_word text) _ h)

-- ---- numbers

zeros_clean : (z : ℕ) → Clean (replicate z 48)
zeros_clean zero = refl
zeros_clean (suc z) = zeros_clean z

number_clean : (n : ℕ) → n < 2 ^ 64 → Clean (decimal n)
number_clean n h = decimal-free is_hidden shown_digit n h

genblk_clean : (z n : ℕ) → n < 2 ^ 64 → Clean (genblk z n)
genblk_clean z n h =
    clean_both (codes "genblk") (replicate z 48 ++ decimal n) refl
    (clean_both (replicate z 48) (decimal n) (zeros_clean z) (number_clean n h))

signed_clean : (z : ℤ) → mag z < 2 ^ 63 → Clean (signed_decimal z)
signed_clean (pos n) h = number_clean n (omega arith)
signed_clean (negsuc n) h = number_clean (suc n) (omega arith)

small_number : (n : ℕ) → n < 2 ^ 32 → mag (to_int 32 n) < 2 ^ 63
small_number n h = by (is_negative 32 n)
  where
    by : (b : Bool) → mag (if b then negsuc (2 ^ 32 - 1 - n) else pos n) < 2 ^ 63
    by true = omega arith
    by false = omega arith

turn_number : (c : Const) → IsTurn c → Clean (signed_decimal (as_int c.width c.signed c.value))
turn_number c h =
    ap (λ c. is_free is_hidden (signed_decimal (as_int c.width c.signed c.value))) h.is
    ∙ signed_clean (to_int 32 (h.number % 2 ^ 32)) (small_number (h.number % 2 ^ 32) (mod-lt h.number (omega arith)))

-- ---- blocks

pub label_clean : (names : List (List ℕ)) (n : ℕ) (label : Option (List ℕ)) → n < 2 ^ 64 → IsOptionalName label
    → Clean (block_name names n label)
label_clean names n None h w =
    let x : IsGenblk n (unlabelled names n) = unlabelled-is names n in
    ap (is_free is_hidden) x.is ∙ genblk_clean x.zeros n h
label_clean names n (Some text) h w = name_clean text w

pub turn_clean : (path label : List ℕ) (c : Const) → Clean path → Clean label → IsTurn c
    → Clean (turn_path path label c)
turn_clean path label c h k t =
    let index : List ℕ = signed_decimal (as_int c.width c.signed c.value) in
    clean_both (path ++ label ++ codes "[" ++ index) (codes "].")
    (clean_both (path ++ label ++ codes "[") index
    (clean_both (path ++ label) (codes "[") (clean_both path label h k) refl) (turn_number c t)) refl
