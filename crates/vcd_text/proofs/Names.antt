-- Lines that declare a name.
use Rattle.std.proofs.Common.{◌≡◌, ℕ, zero, suc, ◌+◌, ◌/◌, ◌%◌, ◌^◌, ◌<◌, ◌≤◌, true, false, not, ◌==◌, codes, decimal}
use Rattle.std.proofs.Common.{List, [], ◌∷◌, ◌++◌, refl, ap, sym, subst, ◌∙◌, inl, inr, append_assoc, arith}
use Rattle.std.proofs.lemmas.Bool.{cases_lt}
use Rattle.std.proofs.lemmas.Bool.Decides.{nat_tests}
use Rattle.std.proofs.lemmas.List.{append_cancel_left, append_cancel_right}
use Rattle.std.specs.List.{list_all}
use Rattle.std.proofs.lemmas.Fmt.{decimal_by_steps}
use Rattle.fv_text.specs.declared.trace.TraceName.{TraceName}
use Rattle.vcd_dump.specs.Digits.{code, number}
use Rattle.fv_lines.specs.Cuts.{HasNo, IsCut}
use Rattle.vcd_dump.specs.Vcd.{name_line}
use Rattle.vcd_dump.proofs.DigitsLemmas.{code_small, code_more, number_small, number_more}
use Rattle.vcd_text.proofs.Written.{number_writes, written_same}
use Rattle.vcd_text.proofs.Values.{cut_same, number_no, true_and}

-- the digits of a width
pub decimal_is : (n : ℕ) → n < 2 ^ 64 → decimal n ≡ number 10 n
decimal_is n l = let P : ℕ → List ℕ → Type 0 = λ m ds. ds ≡ number 10 m
    in decimal_by_steps P (λ m s. sym (number_small 10 m (omega arith) s))
    (λ m ds b e. ap (λ x. x ++ (48 + m % 10) ∷ []) e ∙ sym (number_more 10 m (omega arith) b)) n l

pub width_is : (n : ℕ) → n ≤ 128 → decimal n ≡ number 10 n
width_is n l = decimal_is n (omega (arith, l))

pub no_width : (digits : List ℕ) → ((n : ℕ) → n ≤ 128 → digits ≡ number 10 n → ⊥) → (w : ℕ) → 1 ≤ w → w ≤ 128
    → digits ≡ decimal w → ⊥
no_width digits h w a b e = h w b (e ∙ width_is w b)

pub zero_width : (digits : List ℕ) (z : ℕ) → digits ≡ number 10 z → z ≡ 0 → (w : ℕ) → 1 ≤ w → w ≤ 128
    → digits ≡ decimal w → ⊥
zero_width digits z d o w a b e =
    let ten : 2 ≤ 10 = omega arith in
    let s : w ≡ z = written_same (number_writes 10 ten) w w z (omega arith) (sym (e ∙ width_is w b) ∙ d)
    in omega (arith, s, o, a)

-- the parts of the line, one behind another
pub name_line_is : (index : ℕ) (n : TraceName)
    → name_line index n ≡ codes "$var wire " ++ (decimal n.width ++ 32 ∷ (code index ++ 32 ∷ (n.text ++ codes " $end")))
name_line_is index n = group (codes "$var wire ") (decimal n.width) (code index) n.text (codes " $end") where
  group : (f d c t z : List ℕ) → f ++ d ++ 32 ∷ [] ++ c ++ 32 ∷ [] ++ t ++ z ≡ f ++ (d ++ 32 ∷ (c ++ 32 ∷ (t ++ z)))
  group f d c t z =
      append_assoc (f ++ d ++ 32 ∷ [] ++ c ++ 32 ∷ []) t z
      ∙ append_assoc (f ++ d ++ 32 ∷ [] ++ c) (32 ∷ []) (t ++ z)
      ∙ append_assoc (f ++ d ++ 32 ∷ []) c (32 ∷ (t ++ z))
      ∙ append_assoc (f ++ d) (32 ∷ []) (c ++ 32 ∷ (t ++ z))
      ∙ append_assoc f d (32 ∷ (c ++ 32 ∷ (t ++ z)))

-- what must stand behind each part
pub behind_front : (index : ℕ) (n : TraceName) (line rest : List ℕ) → line ≡ codes "$var wire " ++ rest
    → line ≡ name_line index n → rest ≡ decimal n.width ++ 32 ∷ (code index ++ 32 ∷ (n.text ++ codes " $end"))
behind_front index n line rest p e = append_cancel_left (codes "$var wire ") rest
    (decimal n.width ++ 32 ∷ (code index ++ 32 ∷ (n.text ++ codes " $end"))) (sym p ∙ e ∙ name_line_is index n)

pub width_no : (w : ℕ) → w ≤ 128 → HasNo 32 (decimal w)
width_no w l = subst (HasNo 32) (sym (width_is w l)) (number_no 32 10 w w (omega arith) (omega arith) (omega arith))

pub width_cut : (index : ℕ) (n : TraceName) (line rest digits rest2 : List ℕ) → n.width ≤ 128
    → line ≡ codes "$var wire " ++ rest → IsCut 32 rest digits rest2 → line ≡ name_line index n
    → (digits ≡ decimal n.width) × (rest2 ≡ code index ++ 32 ∷ (n.text ++ codes " $end"))
width_cut index n line rest digits rest2 l p k e = cut_same 32 digits (decimal n.width) rest2
    (code index ++ 32 ∷ (n.text ++ codes " $end")) k.1 (width_no n.width l)
    (sym k.0 ∙ behind_front index n line rest p e)

character_no : (mark d : ℕ) → mark < 33 → not (33 + d == mark) ≡ true
character_no mark d m = let e : (33 + d == mark) ≡ false = grind (arith, nat_tests) in ap not e

-- codes have neither blanks nor control bytes
pub code_no : (mark f n : ℕ) → mark < 33 → n ≤ f → HasNo mark (code n)
code_no mark zero n m l = ap (list_all (λ z. not (z == mark))) (code_small n (omega (arith, l)))
    ∙ true_and (not (33 + n == mark)) true (character_no mark n m) refl
code_no mark (suc f) n m l = elim (cases_lt n 94) [
  | inl s ↦ ap (list_all (λ z. not (z == mark))) (code_small n s)
      ∙ true_and (not (33 + n == mark)) true (character_no mark n m) refl
  | inr h ↦ ap (list_all (λ z. not (z == mark))) (code_more n h)
      ∙ true_and (not (33 + n % 94 == mark)) (list_all (λ z. not (z == mark)) (code (n / 94)))
      (character_no mark (n % 94) m) (code_no mark f (n / 94) m (omega (arith, h, l)))
]

pub code_cut : (index : ℕ) (n : TraceName) (rest2 characters rest3 : List ℕ) → IsCut 32 rest2 characters rest3
    → rest2 ≡ code index ++ 32 ∷ (n.text ++ codes " $end") → (characters ≡ code index)
    × (rest3 ≡ n.text ++ codes " $end")
code_cut index n rest2 characters rest3 k e = cut_same 32 characters (code index) rest3 (n.text ++ codes " $end") k.1
    (code_no 32 index index (omega arith) (omega arith)) (sym k.0 ∙ e)

pub text_is : (n : TraceName) (rest3 text : List ℕ) → rest3 ≡ text ++ codes " $end" → rest3 ≡ n.text ++ codes " $end"
    → text ≡ n.text
text_is n rest3 text p e = append_cancel_right text n.text (codes " $end") (sym p ∙ e)
