-- No line of a dump has an LF, so that the lines of its text are its lines.
use Rattle.std.proofs.Common.{◌≡◌, ℕ, zero, suc, ◌+◌, ◌/◌, ◌%◌, ◌≤◌, Bool, true, false, not, cond, ◌==◌, ◌&&◌, nat_lt}
use Rattle.std.proofs.Common.{if◌then◌else◌, codes, decimal, List, [], ◌∷◌, ◌++◌, refl, ap, sym, subst, ◌∙◌, inl, inr}
use Rattle.std.proofs.Common.{append_assoc, arith}
use Rattle.std.proofs.lemmas.Bool.{cases_Bool, false≢true}
use Rattle.std.proofs.lemmas.Bool.Decides.{nat_tests}
use Rattle.std.proofs.lemmas.List.Folds.{list_all-append}
use Rattle.std.specs.Fmt.{digit_glyph, digits_onto, digits}
use Rattle.std.specs.List.{AllByRecursion, list_all}
use Rattle.fv_text.specs.declared.trace.Trace.{Trace}
use Rattle.fv_text.specs.declared.trace.TraceName.{TraceName}
use Rattle.vcd_dump.specs.Digits.{code, binary}
use Rattle.fv_lines.specs.Cuts.{HasNo, whole_lines}
use Rattle.fv_lines.proofs.Parts.{whole_cut}
use Rattle.vcd_text.specs.Reading.{is_plain, IsPlain, IsReadable}
use Rattle.vcd_dump.specs.Vcd.{text_of, name_line, name_lines, header_lines, value_of, value_line, value_lines}
use Rattle.vcd_dump.specs.Vcd.{change_line, change_lines, time_line, later_lines, first_lines, cycle_lines, vcd_lines}
use Rattle.vcd_dump.specs.Vcd.{vcd_text}
use Rattle.vcd_dump.proofs.DigitsLemmas.{when, unless}
use Rattle.vcd_text.proofs.Values.{true_and, number_no}
use Rattle.vcd_text.proofs.Names.{name_line_is, code_no}
use Rattle.vcd_text.proofs.Lists.{all_append}

-- bytes without an LF
abbrev pub IsLine : List ℕ → Type 0
IsLine bytes = HasNo 10 bytes

above : (c : ℕ) → 11 ≤ c → not (c == 10) ≡ true
above c l = let e : (c == 10) ≡ false = grind (arith, nat_tests) in ap not e

line_cons : (c : ℕ) (l : List ℕ) → 11 ≤ c → IsLine l → IsLine (c ∷ l)
line_cons c l h k = true_and (not (c == 10)) (list_all (λ z. not (z == 10)) l) (above c h) k

line_append : (a b : List ℕ) → IsLine a → IsLine b → IsLine (a ++ b)
line_append a b h k = list_all-append (λ z. not (z == 10)) a b
    ∙ true_and (list_all (λ z. not (z == 10)) a) (list_all (λ z. not (z == 10)) b) h k

glyph_above : (d : ℕ) → 11 ≤ digit_glyph false d
glyph_above d = choice (nat_lt d 10) (48 + d) (87 + d) (omega arith) (omega arith) where
  choice : (b : Bool) (x y : ℕ) → 11 ≤ x → 11 ≤ y → 11 ≤ (if b then x else y)
  choice true x y h k = h
  choice false x y h k = k

onto_line : (k n : ℕ) (l : List ℕ) → IsLine l → IsLine (digits_onto k 10 false n l)
onto_line zero n l h = h
onto_line (suc k) n l h = choice (n / 10 == 0) (digit_glyph false (n % 10) ∷ l)
    (digits_onto k 10 false (n / 10) (digit_glyph false (n % 10) ∷ l))
    (line_cons (digit_glyph false (n % 10)) l (glyph_above (n % 10)) h)
    (onto_line k (n / 10) (digit_glyph false (n % 10) ∷ l)
    (line_cons (digit_glyph false (n % 10)) l (glyph_above (n % 10)) h)) where
      choice : (b : Bool) (x y : List ℕ) → IsLine x → IsLine y → IsLine (if b then x else y)
      choice true x y h k = h
      choice false x y h k = k

decimal_line : (n : ℕ) → IsLine (decimal n)
unfolding digits
decimal_line n = onto_line 64 n [] refl

plain_line : (t : List ℕ) → list_all is_plain t ≡ true → IsLine t
plain_line [] h = refl
plain_line (c ∷ t) h =
    let p = parts (is_plain c) (list_all is_plain t) h in
    let q = parts (nat_lt 32 c) (not (c == 127)) p.0 in
    let l : 11 ≤ c = below (nat_lt 32 c) c q.0 refl in
    line_cons c t l (plain_line t p.1) where
      parts : (a b : Bool) → (a && b) ≡ true → (a ≡ true) × (b ≡ true)
      parts true b h = (refl, h)
      parts false b h = absurd (false≢true h)

      below : (b : Bool) (c : ℕ) → b ≡ true → b ≡ nat_lt 32 c → 11 ≤ c
      below b c h e = let k : nat_lt 32 c ≡ true = sym e ∙ h in grind (arith, nat_tests)

name_is_line : (i : ℕ) (n : TraceName) → IsPlain n → IsLine (name_line i n)
name_is_line i n p = subst IsLine (sym (name_line_is i n))
    (line_append (codes "$var wire ") (decimal n.width ++ 32 ∷ (code i ++ 32 ∷ (n.text ++ codes " $end"))) refl
    (line_append (decimal n.width) (32 ∷ (code i ++ 32 ∷ (n.text ++ codes " $end"))) (decimal_line n.width)
    (line_cons 32 (code i ++ 32 ∷ (n.text ++ codes " $end")) (omega arith)
    (line_append (code i) (32 ∷ (n.text ++ codes " $end")) (code_no 10 i i (omega arith) (omega arith))
    (line_cons 32 (n.text ++ codes " $end") (omega arith)
    (line_append n.text (codes " $end") (plain_line n.text p) refl))))))

value_is_line : (i : ℕ) (n : TraceName) (v : ℕ) → IsLine (value_line i n v)
value_is_line i n v = line_append (value_of n.width v) (code i) (elim (cases_Bool (n.width == 1)) [
  | inl t ↦ subst IsLine (sym (when (n.width == 1) (binary v) (codes "b" ++ binary v ++ 32 ∷ []) t))
      (number_no 10 2 v v (omega arith) (omega arith) (omega arith))
  | inr f ↦ subst IsLine (sym (unless (n.width == 1) (binary v) (codes "b" ++ binary v ++ 32 ∷ []) f))
      (line_append (codes "b" ++ binary v) (32 ∷ [])
      (line_append (codes "b") (binary v) refl (number_no 10 2 v v (omega arith) (omega arith) (omega arith))) refl)
]) (code_no 10 i i (omega arith) (omega arith))

abbrev AreLines : List (List ℕ) → Type 0
AreLines ls = AllByRecursion IsLine ls

name_lines_are : (i : ℕ) (ns : List TraceName) → AllByRecursion IsPlain ns → AreLines (name_lines i ns)
name_lines_are i [] p = tt
name_lines_are i (n ∷ ns) p = (name_is_line i n p.0, name_lines_are (i + 1) ns p.1)

value_lines_are : (i : ℕ) (ns : List TraceName) (vs : List ℕ) → AreLines (value_lines i ns vs)
value_lines_are i [] vs = tt
value_lines_are i (n ∷ ns) [] = tt
value_lines_are i (n ∷ ns) (v ∷ vs) = (value_is_line i n v, value_lines_are (i + 1) ns vs)

change_line_is : (i : ℕ) (n : TraceName) (b v : ℕ) → AreLines (change_line i n b v)
change_line_is i n b v = choice (b == v) (value_line i n v) (value_is_line i n v) where
  choice : (t : Bool) (l : List ℕ) → IsLine l → AreLines (cond t [] (l ∷ []))
  choice true l h = tt
  choice false l h = (h, tt)

change_lines_are : (i : ℕ) (ns : List TraceName) (bs vs : List ℕ) → AreLines (change_lines i ns bs vs)
change_lines_are i [] bs vs = tt
change_lines_are i (n ∷ ns) [] vs = tt
change_lines_are i (n ∷ ns) (b ∷ bs) [] = tt
change_lines_are i (n ∷ ns) (b ∷ bs) (v ∷ vs) = all_append IsLine (change_line i n b v)
    (change_lines (i + 1) ns bs vs) (change_line_is i n b v) (change_lines_are (i + 1) ns bs vs)

time_is_line : (t : ℕ) → IsLine (time_line t)
time_is_line t = line_append (codes "#") (decimal t) refl (decimal_line t)

later_lines_are : (ns : List TraceName) (t : ℕ) (bs : List ℕ) (cycles : List (List ℕ))
    → AreLines (later_lines ns t bs cycles)
later_lines_are ns t bs [] = (time_is_line t, tt)
later_lines_are ns t bs (c ∷ cycles) = (
  time_is_line t,
  all_append IsLine (change_lines 0 ns bs c)
      (later_lines ns (t + 1) c cycles) (change_lines_are 0 ns bs c) (later_lines_are ns (t + 1) c cycles),
)

first_lines_are : (ns : List TraceName) (vs : List ℕ) → AreLines (first_lines ns vs)
first_lines_are ns vs =
    (refl, (refl, all_append IsLine (value_lines 0 ns vs) (codes "$end" ∷ []) (value_lines_are 0 ns vs) (refl, tt)))

cycle_lines_are : (ns : List TraceName) (cycles : List (List ℕ)) → AreLines (cycle_lines ns cycles)
cycle_lines_are ns [] = tt
cycle_lines_are ns (c ∷ cycles) = all_append IsLine (first_lines ns c) (later_lines ns 1 c cycles)
    (first_lines_are ns c) (later_lines_are ns 1 c cycles)

header_lines_are : (ns : List TraceName) → AllByRecursion IsPlain ns → AreLines (header_lines ns)
header_lines_are ns p = (
  refl,
  (
    refl,
    all_append IsLine (name_lines 0 ns)
        (codes "$upscope $end" ∷ codes "$enddefinitions $end" ∷ []) (name_lines_are 0 ns p) (refl, (refl, tt)),
  ),
)

whole_text : (ls : List (List ℕ)) → AreLines ls → whole_lines (text_of ls) ≡ ls
whole_text [] h = refl
whole_text (l ∷ ls) h = ap whole_lines (append_assoc l (10 ∷ []) (text_of ls)) ∙ whole_cut l (text_of ls) h.0
    ∙ ap (λ z. l ∷ z) (whole_text ls h.1)

-- the lines of a dump are the lines of its text
pub dump_lines : (t : Trace) (bytes : List ℕ) → IsReadable t → vcd_text t ≡ bytes → vcd_lines t ≡ whole_lines bytes
dump_lines t bytes r e = sym (whole_text (vcd_lines t)
    (all_append IsLine (header_lines t.names) (cycle_lines t.names t.cycles) (header_lines_are t.names r.plain)
    (cycle_lines_are t.names t.cycles))) ∙ ap whole_lines e
