-- The lines and words of printed text.
use Rattle.std.proofs.Common.{◌≡◌, ℕ, ◌^◌, ◌<◌, Bool, true, false, not, cond, ◌&&◌, ◌==◌, List, [], ◌∷◌, ◌++◌, length}
use Rattle.std.proofs.Common.{refl, ap, ◌∙◌, inl, inr, arith}
use Rattle.std.specs.Prelude.{decimal}
use Rattle.std.specs.List.{list_all}
use Rattle.std.proofs.lemmas.Bool.{false≢true, cases_Bool}
use Rattle.std.proofs.lemmas.Bool.Decides.{nat_tests}
use Rattle.fv_lines.specs.Numbers.{is_digit}
use Rattle.fv_lines.specs.Words.{begins_with, joined, lines, is_blank, begins_word, words}
use Rattle.fv_lines.proofs.Digits.{decimal_says}

and_parts : (a b : Bool) → (a && b) ≡ true → (a ≡ true) × (b ≡ true)
and_parts true b e = (refl, e)
and_parts false b e = absurd (false≢true e)

-- a byte that neither ends a line nor parts words
abbrev pub is_plain : ℕ → Bool
is_plain b = not (b == 10) && not (b == 13) && not (is_blank b)

record Plain (b : ℕ) : Type 0 where
  line : (b == 10) ≡ false
  return : (b == 13) ≡ false
  blank : is_blank b ≡ false

true_not : (b : Bool) → not b ≡ true → b ≡ false
true_not true h = absurd (false≢true h)
true_not false h = refl

plain_parts : (b : ℕ) → is_plain b ≡ true → Plain b
plain_parts b h =
    let p = and_parts (not (b == 10) && not (b == 13)) (not (is_blank b)) h in
    let q = and_parts (not (b == 10)) (not (b == 13)) p.0 in
    record { line = true_not (b == 10) q.0; return = true_not (b == 13) q.1; blank = true_not (is_blank b) p.1 }

-- a byte of a line: it neither ends the line nor is a CR
abbrev pub is_inner : ℕ → Bool
is_inner b = not (b == 10) && not (b == 13)

inner_step : (b : ℕ) (bs : List ℕ) → is_inner b ≡ true → lines (b ∷ bs) ≡ joined b (lines bs)
inner_step b bs h =
    let p = and_parts (not (b == 10)) (not (b == 13)) h in
    ap (λ x. cond x ([] ∷ lines bs) (cond (b == 13 && begins_with 10 bs) (lines bs) (joined b (lines bs))))
    (true_not (b == 10) p.0)
    ∙ ap (λ x. cond (x && begins_with 10 bs) (lines bs) (joined b (lines bs))) (true_not (b == 13) p.1)

-- bytes of a line, and its end
pub line_of : (a rest : List ℕ) → list_all is_inner a ≡ true → lines (a ++ 10 ∷ rest) ≡ a ∷ lines rest
line_of [] rest h = refl
line_of (b ∷ bs) rest h =
    let p = and_parts (is_inner b) (list_all is_inner bs) h in
    inner_step b (bs ++ 10 ∷ rest) p.0 ∙ ap (joined b) (line_of bs rest p.1)

-- a line without LF, of which an end may be a CR
pub some_line : (a rest : List ℕ) → list_all (λ b. not (b == 10)) a ≡ true → (l : List ℕ)
    × (lines (a ++ 10 ∷ rest) ≡ l ∷ lines rest)
some_line [] rest h = ([], refl)
some_line (b ∷ bs) rest h =
    let p = and_parts (not (b == 10)) (list_all (λ x. not (x == 10)) bs) h in
    let r = some_line bs rest p.1 in
    let e : lines (b ∷ (bs ++ 10 ∷ rest)) ≡ cond (b == 13 && begins_with 10 (bs ++ 10 ∷ rest))
    (lines (bs ++ 10 ∷ rest)) (joined b (lines (bs ++ 10 ∷ rest))) =
    ap (λ x. cond x ([] ∷ lines (bs ++ 10 ∷ rest))
    (cond (b == 13 && begins_with 10 (bs ++ 10 ∷ rest)) (lines (bs ++ 10 ∷ rest))
    (joined b (lines (bs ++ 10 ∷ rest))))) (true_not (b == 10) p.0) in
    elim (cases_Bool (b == 13 && begins_with 10 (bs ++ 10 ∷ rest))) [
      | inl k ↦ (r.0, e ∙ ap (λ x. cond x (lines (bs ++ 10 ∷ rest)) (joined b (lines (bs ++ 10 ∷ rest)))) k ∙ r.1)
      | inr k ↦ (
        b ∷ r.0,
        e ∙ ap (λ x. cond x (lines (bs ++ 10 ∷ rest)) (joined b (lines (bs ++ 10 ∷ rest)))) k
            ∙ ap (joined b) r.1,
      )
    ]

begun : (a : List ℕ) (rest : List ℕ) → list_all is_plain a ≡ true → 0 < length a → begins_word (a ++ rest) ≡ true
begun [] rest h s = absurd (omega arith)
begun (b ∷ bs) rest h s = ap not (plain_parts b (and_parts (is_plain b) (list_all is_plain bs) h).0).blank

word_step : (b : ℕ) (bs : List ℕ) → is_blank b ≡ false → (k : Bool) → begins_word bs ≡ k
    → words (b ∷ bs) ≡ cond k (joined b (words bs)) ((b ∷ []) ∷ words bs)
word_step b bs h k e =
    ap (λ x. cond x (words bs) (cond (begins_word bs) (joined b (words bs)) ((b ∷ []) ∷ words bs))) h
    ∙ ap (λ x. cond x (joined b (words bs)) ((b ∷ []) ∷ words bs)) e

-- a word, and what does not go on with it
pub word_of : (a rest : List ℕ) → list_all is_plain a ≡ true → 0 < length a → begins_word rest ≡ false
    → words (a ++ rest) ≡ a ∷ words rest
word_of [] rest h s n = absurd (omega arith)
word_of (b ∷ []) rest h s n = word_step b rest (plain_parts b (and_parts (is_plain b) true h).0).blank false n
word_of (b ∷ c ∷ cs) rest h s n =
    let p = and_parts (is_plain b) (list_all is_plain (c ∷ cs)) h in
    word_step b ((c ∷ cs) ++ rest) (plain_parts b p.0).blank true (begun (c ∷ cs) rest p.1 (omega arith))
    ∙ ap (joined b) (word_of (c ∷ cs) rest p.1 (omega arith) n)

-- a word and a blank
pub word_blank : (a rest : List ℕ) → list_all is_plain a ≡ true → 0 < length a → words (a ++ 32 ∷ rest) ≡ a ∷ words rest
word_blank a rest h s = word_of a (32 ∷ rest) h s refl

digit_plain : (d : ℕ) → is_digit d ≡ true → is_plain d ≡ true
digit_plain d h = grind (arith, nat_tests)

digits_plain : (ds : List ℕ) → list_all is_digit ds ≡ true → list_all is_plain ds ≡ true
digits_plain [] h = refl
digits_plain (d ∷ ds) h =
    let p = and_parts (is_digit d) (list_all is_digit ds) h in
    ap (λ b. b && list_all is_plain ds) (digit_plain d p.0) ∙ digits_plain ds p.1

pub decimal_plain : (n : ℕ) → n < 2 ^ 64 → (list_all is_plain (decimal n) ≡ true) × (0 < length (decimal n))
decimal_plain n h = let s = decimal_says n h in (digits_plain (decimal n) s.digits, s.some)

inner_of : (b : ℕ) → is_plain b ≡ true → is_inner b ≡ true
inner_of b h = (and_parts (is_inner b) (not (is_blank b)) h).0

pub inners_of : (bs : List ℕ) → list_all is_plain bs ≡ true → list_all is_inner bs ≡ true
inners_of [] h = refl
inners_of (b ∷ bs) h =
    let p = and_parts (is_plain b) (list_all is_plain bs) h in
    ap (λ x. x && list_all is_inner bs) (inner_of b p.0) ∙ inners_of bs p.1

pub all_append : (p : ℕ → Bool) (a b : List ℕ) → list_all p a ≡ true → list_all p b ≡ true → list_all p (a ++ b) ≡ true
all_append p [] b h k = k
all_append p (x ∷ xs) b h k =
    let q = and_parts (p x) (list_all p xs) h in
    ap (λ y. y && list_all p (xs ++ b)) q.0 ∙ all_append p xs b q.1 k
