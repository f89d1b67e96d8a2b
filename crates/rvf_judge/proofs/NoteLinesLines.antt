-- The line of a note has no end of line where its name has none: numbers in print have none.
use Rattle.std.specs.Prelude.{◌≡◌, refl, ℕ, zero, suc, ◌+◌, ◌/◌, ◌%◌, ◌==◌, nat_lt, Bool, true, false, not, cond}
use Rattle.std.specs.Prelude.{List, [], ◌∷◌, ◌++◌, map, ℤ, pos, negsuc, codes, decimal}
use Rattle.std.specs.Fmt.{digit_glyph, digits, digits_onto, signed_decimal}
use Rattle.std.specs.List.{AllByRecursion, list_all}
use Rattle.std.proofs.Common.{ap, arith}
use Rattle.std.proofs.lemmas.Bool.{and_from, ne_eqb}
use Rattle.fv_lines.proofs.Prints.{all_append}
use Rattle.cnf_text.specs.Dimacs.{HasNoEnd, HaveNoEnd}
use Rattle.ck_design.specs.declared.note.Note.{Note}
use Rattle.ck_design.specs.declared.note.NoteLiteral.{NoteLiteral}
use Rattle.ck_design.specs.declared.note.NoteLiteral.TheVariants as literal
use Rattle.rvf_judge.specs.Lines.{literal_word, note_text}

-- ---- numbers in print

-- a digit is no end of line
glyph : (d : ℕ) → not (digit_glyph false d == 10) ≡ true
glyph d = by (nat_lt d 10)
  where
    by : (b : Bool) → not (cond b (48 + d) (87 + d) == 10) ≡ true
    by true = ap not (ne_eqb (48 + d) 10 (λ e. omega (arith, e)))
    by false = ap not (ne_eqb (87 + d) 10 (λ e. omega (arith, e)))

one_more : (b : ℕ) (bs : List ℕ) → not (b == 10) ≡ true → HasNoEnd bs → HasNoEnd (b ∷ bs)
one_more b bs h k = and_from (not (b == 10)) (list_all (λ c. not (c == 10)) bs) h k

either : (b : Bool) (xs ys : List ℕ) → HasNoEnd xs → HasNoEnd ys → HasNoEnd (cond b xs ys)
either true xs ys h k = h
either false xs ys h k = k

digits_no_end : (k n : ℕ) (acc : List ℕ) → HasNoEnd acc → HasNoEnd (digits_onto k 10 false n acc)
digits_no_end zero n acc h = h
digits_no_end (suc k) n acc h =
    let d : ℕ = digit_glyph false (n % 10) in
    let more : HasNoEnd (d ∷ acc) = one_more d acc (glyph (n % 10)) h in
    either (n / 10 == 0) (d ∷ acc) (digits_onto k 10 false (n / 10) (d ∷ acc)) more
    (digits_no_end k (n / 10) (d ∷ acc) more)

number : (n : ℕ) → HasNoEnd (decimal n)
unfolding digits
number n =
    let d : ℕ = digit_glyph false (n % 10) in
    let one : HasNoEnd (d ∷ []) = one_more d [] (glyph (n % 10)) refl in
    either (n / 10 == 0) (d ∷ []) (digits_onto 63 10 false (n / 10) (d ∷ [])) one
    (digits_no_end 63 (n / 10) (d ∷ []) one)

signed : (n : ℤ) → HasNoEnd (signed_decimal n)
signed (pos n) = number n
signed (negsuc n) = number (suc n)

-- ---- lines

both : (xs ys : List ℕ) → HasNoEnd xs → HasNoEnd ys → HasNoEnd (xs ++ ys)
both xs ys h k = all_append (λ b. not (b == 10)) xs ys h k

literal_no_end : (l : NoteLiteral) → HasNoEnd (literal_word l)
literal_no_end literal.Zero = refl
literal_no_end literal.One = refl
literal_no_end (literal.Clause n) = signed n

pub line_no_end : (note : Note) → HasNoEnd note.name → HasNoEnd (note_text note)
line_no_end note h =
    let first = literal_word note.literal ++ codes " " in
    let second = first ++ decimal note.cycle ++ codes " " in
    let third = second ++ decimal note.bit ++ codes " " in
    let one : HasNoEnd first = both (literal_word note.literal) (codes " ") (literal_no_end note.literal) refl in
    let two : HasNoEnd second = both (first ++ decimal note.cycle) (codes " ")
    (both first (decimal note.cycle) one (number note.cycle)) refl in
    let three : HasNoEnd third = both (second ++ decimal note.bit) (codes " ")
    (both second (decimal note.bit) two (number note.bit)) refl in
    both third note.name three h

pub lines_no_end : (notes : List Note) → AllByRecursion (λ (note : Note). HasNoEnd note.name) notes
    → HaveNoEnd (map note_text notes)
lines_no_end [] h = tt
lines_no_end (note ∷ notes) h = (line_no_end note h.0, lines_no_end notes h.1)
