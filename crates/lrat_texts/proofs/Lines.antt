-- A text has exactly the lines that make it up.
use Rattle.std.proofs.Common.{◌≡◌, ℕ, ◌<◌, Bool, true, false, not, cond, ◌&&◌, ◌==◌, ◌↔◌, List, [], ◌∷◌, ◌++◌, length}
use Rattle.std.proofs.Common.{drop, refl, ap, sym, subst, ◌∙◌, inl, inr, arith}
use Rattle.std.specs.List.{list_all}
use Rattle.std.proofs.lemmas.Bool.{false≢true, cases_Bool}
use Rattle.std.proofs.lemmas.Bool.Decides.{nat_tests}
use Rattle.fv_lines.specs.Cuts.{HasNo, EndsOtherwise}
use Rattle.fv_lines.specs.Words.{begins_with, joined, lines}
use Rattle.lrat_texts.specs.Lines.{IsEnded, by_lf, by_cr_lf, by_the_text, AreLines}
use Rattle.lrat_texts.proofs.Numerals.{and_parts}

pub not_true : (t : Bool) → not t ≡ true → t ≡ false
not_true true h = absurd (false≢true h)
not_true false h = refl

same_byte : (a b : ℕ) → (a == b) ≡ true → a ≡ b
same_byte a b h = grind (arith, nat_tests)

byte_is : (a b : ℕ) → a ≡ b → (a == b) ≡ true
byte_is a b e = grind (arith, nat_tests)

-- ---- the lines of a text make it up

-- the byte before neither ends a line nor belongs to such an end
record Goes (b : ℕ) (bs : List ℕ) : Type 0 where
  no_lf : (b == 10) ≡ false
  no_cr_lf : (b == 13 && begins_with 10 bs) ≡ false

has_none : (b : ℕ) (l : List ℕ) → (b == 10) ≡ false → HasNo 10 l → HasNo 10 (b ∷ l)
has_none b l h k = ap (λ t. not t && list_all (λ x. not (x == 10)) l) h ∙ k

no_cr : (b : ℕ) (bs l rest : List ℕ) → Goes b bs → bs ≡ l ++ 10 ∷ rest → EndsOtherwise (13 ∷ []) l
    → EndsOtherwise (13 ∷ []) (b ∷ l)
no_cr b bs l rest g e o [] q =
    let b_is : b ≡ 13 = cc in
    let l_is : l ≡ [] = cc in
    let begins : begins_with 10 bs ≡ true = ap (begins_with 10) (e ∙ ap (λ x. x ++ 10 ∷ rest) l_is) in
    let both : (b == 13 && begins_with 10 bs) ≡ true =
    ap (λ t. t && begins_with 10 bs) (byte_is b 13 b_is) ∙ begins in
    false≢true (sym g.no_cr_lf ∙ both)
no_cr b bs l rest g e o (s ∷ ss) q = let tail : l ≡ ss ++ 13 ∷ [] = cc in o ss tail

longer_end : (b : ℕ) (bs l rest : List ℕ) → Goes b bs → IsEnded bs l rest → IsEnded (b ∷ bs) (b ∷ l) rest
longer_end b bs l rest g (by_lf e o) = by_lf (ap (λ x. b ∷ x) e) (no_cr b bs l rest g e o)
longer_end b bs l rest g (by_cr_lf e) = by_cr_lf (ap (λ x. b ∷ x) e)
longer_end b bs l rest g (by_the_text e some r) = by_the_text (ap (λ x. b ∷ x) e) (omega arith) r

longer : (b : ℕ) (bs : List ℕ) (ls : List (List ℕ)) → Goes b bs → AreLines bs ls → AreLines (b ∷ bs) (joined b ls)
longer b bs [] g a =
    ([], has_none b [] g.no_lf refl, by_the_text (ap (λ x. b ∷ x) a) (omega arith) refl, refl)
longer b bs (l ∷ ls) g a = (a.0, has_none b l g.no_lf a.1, longer_end b bs l a.0 g a.2, a.3)

nothing_ends : EndsOtherwise (13 ∷ []) []
nothing_ends [] e = cc
nothing_ends (s ∷ ss) e = cc

at_lf : (b : ℕ) (bs : List ℕ) → (b == 10) ≡ true → AreLines bs (lines bs) → AreLines (b ∷ bs) ([] ∷ lines bs)
at_lf b bs h a = (bs, refl, by_lf (ap (λ x. x ∷ bs) (same_byte b 10 h)) nothing_ends, a)

at_cr_lf : (b : ℕ) (bs : List ℕ) → (b == 13 && begins_with 10 bs) ≡ true → AreLines (drop 1 bs) (lines (drop 1 bs))
    → AreLines (b ∷ bs) (lines bs)
at_cr_lf b [] h a = absurd (false≢true (and_parts (b == 13) false h).1)
at_cr_lf b (c ∷ cs) h a =
    let p = and_parts (b == 13) (c == 10) h in
    let bytes : b ∷ c ∷ cs ≡ 13 ∷ 10 ∷ cs =
    ap (λ x. x ∷ c ∷ cs) (same_byte b 13 p.0) ∙ ap (λ x. 13 ∷ x ∷ cs) (same_byte c 10 p.1) in
    let first : lines (c ∷ cs) ≡ [] ∷ lines cs =
    ap (λ t. cond t ([] ∷ lines cs) (cond (c == 13 && begins_with 10 cs) (lines cs) (joined c (lines cs)))) p.1 in
    subst (AreLines (b ∷ c ∷ cs)) (sym first) (cs, refl, by_cr_lf bytes, a)

-- the lines of a text, and of what stands behind its first byte
record Made (bytes : List ℕ) : Type 0 where
  here : AreLines bytes (lines bytes)
  behind : AreLines (drop 1 bytes) (lines (drop 1 bytes))

made_more : (b : ℕ) (bs : List ℕ) → Made bs → AreLines (b ∷ bs) (lines (b ∷ bs))
made_more b bs m = by_lf_test (b == 10) refl where
  by_cr_test : (t : Bool) → (b == 10) ≡ false → (b == 13 && begins_with 10 bs) ≡ t
      → AreLines (b ∷ bs) (cond t (lines bs) (joined b (lines bs)))
  by_cr_test true n h = at_cr_lf b bs h m.behind
  by_cr_test false n h = longer b bs (lines bs) (record { no_lf = n; no_cr_lf = h }) m.here

  by_lf_test : (t : Bool) → (b == 10) ≡ t → AreLines (b ∷ bs)
      (cond t ([] ∷ lines bs) (cond (b == 13 && begins_with 10 bs) (lines bs) (joined b (lines bs))))
  by_lf_test true h = at_lf b bs h m.here
  by_lf_test false h = by_cr_test (b == 13 && begins_with 10 bs) h refl

made : (bytes : List ℕ) → Made bytes
made [] = record { here = refl; behind = refl }
made (b ∷ bs) = let m = made bs in record { here = made_more b bs m; behind = m.here }

-- ---- what makes a text up are its lines

inner_step : (b : ℕ) (bs : List ℕ) → (b == 10) ≡ false → (b == 13 && begins_with 10 bs) ≡ false
    → lines (b ∷ bs) ≡ joined b (lines bs)
inner_step b bs h k =
    ap (λ t. cond t ([] ∷ lines bs) (cond (b == 13 && begins_with 10 bs) (lines bs) (joined b (lines bs)))) h
    ∙ ap (λ t. cond t (lines bs) (joined b (lines bs))) k

and_false : (t : Bool) → (t && false) ≡ false
and_false true = refl
and_false false = refl

-- a byte of a line begins no end of the line that the next byte is in
inside : (b c : ℕ) (bs : List ℕ) → (c == 10) ≡ false → (b == 13 && begins_with 10 (c ∷ bs)) ≡ false
inside b c bs h = ap (λ t. b == 13 && t) h ∙ and_false (b == 13)

record First (b : ℕ) (bs : List ℕ) : Type 0 where
  no_lf : (b == 10) ≡ false
  others : HasNo 10 bs

first_of : (b : ℕ) (bs : List ℕ) → HasNo 10 (b ∷ bs) → First b bs
first_of b bs h =
    let p = and_parts (not (b == 10)) (list_all (λ x. not (x == 10)) bs) h in
    record { no_lf = not_true (b == 10) p.0; others = p.1 }

no_cr_alone : (b : ℕ) → EndsOtherwise (13 ∷ []) (b ∷ []) → (b == 13) ≡ false
no_cr_alone b o = elim (cases_Bool (b == 13)) [
  | inl h ↦ absurd (o [] (ap (λ x. x ∷ []) (same_byte b 13 h)))
  | inr h ↦ h
]

lf_line : (line rest : List ℕ) → HasNo 10 line → EndsOtherwise (13 ∷ []) line
    → lines (line ++ 10 ∷ rest) ≡ line ∷ lines rest
lf_line [] rest h o = refl
lf_line (b ∷ []) rest h o =
    inner_step b (10 ∷ rest) (first_of b [] h).no_lf (ap (λ t. t && true) (no_cr_alone b o))
lf_line (b ∷ c ∷ cs) rest h o =
    let f = first_of b (c ∷ cs) h in
    inner_step b ((c ∷ cs) ++ 10 ∷ rest) f.no_lf
    (inside b c (cs ++ 10 ∷ rest) (first_of c cs f.others).no_lf)
    ∙ ap (joined b) (lf_line (c ∷ cs) rest f.others (λ s e. o (b ∷ s) (ap (λ x. b ∷ x) e)))

cr_lf_line : (line rest : List ℕ) → HasNo 10 line → lines (line ++ 13 ∷ 10 ∷ rest) ≡ line ∷ lines rest
cr_lf_line [] rest h = refl
cr_lf_line (b ∷ []) rest h =
    inner_step b (13 ∷ 10 ∷ rest) (first_of b [] h).no_lf (inside b 13 (10 ∷ rest) refl)
cr_lf_line (b ∷ c ∷ cs) rest h =
    let f = first_of b (c ∷ cs) h in
    inner_step b ((c ∷ cs) ++ 13 ∷ 10 ∷ rest) f.no_lf
    (inside b c (cs ++ 13 ∷ 10 ∷ rest) (first_of c cs f.others).no_lf)
    ∙ ap (joined b) (cr_lf_line (c ∷ cs) rest f.others)

last_line : (line : List ℕ) → HasNo 10 line → 0 < length line → lines line ≡ line ∷ []
last_line [] h some = absurd (omega arith)
last_line (b ∷ []) h some = inner_step b [] (first_of b [] h).no_lf (and_false (b == 13))
last_line (b ∷ c ∷ cs) h some =
    let f = first_of b (c ∷ cs) h in
    inner_step b (c ∷ cs) f.no_lf (inside b c cs (first_of c cs f.others).no_lf)
    ∙ ap (joined b) (last_line (c ∷ cs) f.others (omega arith))

line_ended : (bytes line rest : List ℕ) (ls : List (List ℕ)) → HasNo 10 line → IsEnded bytes line rest
    → lines rest ≡ ls → lines bytes ≡ line ∷ ls
line_ended bytes line rest ls h (by_lf e o) q = ap lines e ∙ lf_line line rest h o ∙ ap (λ x. line ∷ x) q
line_ended bytes line rest ls h (by_cr_lf e) q = ap lines e ∙ cr_lf_line line rest h ∙ ap (λ x. line ∷ x) q
line_ended bytes line rest ls h (by_the_text e some r) q =
    ap lines e ∙ last_line line h some ∙ ap (λ x. line ∷ x) (ap lines (sym r) ∙ q)

are_lines : (bytes : List ℕ) (ls : List (List ℕ)) → AreLines bytes ls → lines bytes ≡ ls
are_lines bytes [] a = ap lines a
are_lines bytes (line ∷ ls) a = line_ended bytes line a.0 ls a.1 a.2 (are_lines a.0 ls a.3)

pub lines_law : (bytes : List ℕ) (ls : List (List ℕ)) → (lines bytes ≡ ls) ↔ AreLines bytes ls
lines_law bytes ls = (λ e. subst (AreLines bytes) e (made bytes).here, are_lines bytes ls)
