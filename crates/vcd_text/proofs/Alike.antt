-- Lines that are alike, and lines that can't be.
use Rattle.std.proofs.Common.{◌≡◌, ℕ, ◌+◌, ◌^◌, ◌<◌, ◌≤◌, ◌==◌, codes, decimal, List, [], ◌∷◌, ◌++◌, refl, ap, sym}
use Rattle.std.proofs.Common.{◌∙◌, inl, inr, arith}
use Rattle.std.proofs.lemmas.Bool.{cases_Bool}
use Rattle.std.proofs.lemmas.Fmt.{decimal_injective}
use Rattle.std.proofs.lemmas.List.{append_cancel_right}
use Rattle.fv_text.specs.declared.trace.TraceName.{TraceName}
use Rattle.vcd_dump.specs.Digits.{code, binary}
use Rattle.vcd_dump.specs.Vcd.{IsWide, name_line, value_line, time_line}
use Rattle.vcd_text.proofs.Written.{number_writes, written_same, cons_same}
use Rattle.vcd_text.proofs.Values.{bit_line, wide_line, bit_below, code_same, cut_same, binary_no_blank}
use Rattle.vcd_text.proofs.Names.{name_line_is, width_cut, code_cut, width_no, code_no}

binary_same : (v w : ℕ) → binary v ≡ binary w → v ≡ w
binary_same v w e = let two : 2 ≤ 2 = omega arith in written_same (number_writes 2 two) v v w (omega arith) e

-- a value line says its index and its value
pub value_line_same : (i j v w : ℕ) (n m : TraceName) → v < 2 ^ n.width → w < 2 ^ m.width
    → value_line i n v ≡ value_line j m w → (i ≡ j) × (v ≡ w)
value_line_same i j v w n m l k e = elim (cases_Bool (n.width == 1)) [
  | inl a ↦ elim (cases_Bool (m.width == 1)) [
    | inl b ↦ let q = cons_same (48 + v) (48 + w) (code i) (code j)
        (sym (bit_line i v n a l) ∙ e ∙ bit_line j w m b k) in (code_same i j q.1, omega (arith, q.0))
    | inr b ↦ absurd (let q = cons_same (48 + v) 98 (code i) (binary w ++ 32 ∷ code j)
        (sym (bit_line i v n a l) ∙ e ∙ wide_line j w m b) in let s = bit_below n.width v a l in omega (arith, q.0, s))
  ]
  | inr a ↦ elim (cases_Bool (m.width == 1)) [
    | inl b ↦ absurd (let q = cons_same 98 (48 + w) (binary v ++ 32 ∷ code i) (code j)
        (sym (wide_line i v n a) ∙ e ∙ bit_line j w m b k) in let s = bit_below m.width w b k in omega (arith, q.0, s))
    | inr b ↦
        let q = cons_same 98 98 (binary v ++ 32 ∷ code i) (binary w ++ 32 ∷ code j)
        (sym (wide_line i v n a) ∙ e ∙ wide_line j w m b) in
        let r = cut_same 32 (binary v) (binary w) (code i) (code j) (binary_no_blank v) (binary_no_blank w) q.1 in
        (code_same i j r.1, binary_same v w r.0)
  ]
]

pub value_not_time : (i v t : ℕ) (n : TraceName) → v < 2 ^ n.width → value_line i n v ≡ time_line t → ⊥
value_not_time i v t n l e = elim (cases_Bool (n.width == 1)) [
  | inl a ↦ let q = cons_same (48 + v) 35 (code i) (decimal t) (sym (bit_line i v n a l) ∙ e) in omega (arith, q.0)
  | inr a ↦ let q =
      cons_same 98 35 (binary v ++ 32 ∷ code i) (decimal t) (sym (wide_line i v n a) ∙ e) in omega (arith, q.0)
]

second : List ℕ → ℕ
second [] = 0
second (x ∷ []) = 0
second (x ∷ y ∷ l) = y

pub name_not_end : (i : ℕ) (n : TraceName) → name_line i n ≡ codes "$upscope $end" → ⊥
unfolding second
name_not_end i n e = let f : 118 ≡ 117 = ap second (sym (name_line_is i n) ∙ e) in omega (arith, f)

abbrev named : List ℕ → ℕ → TraceName
named t w = record { text = t; width = w }

-- a name line says its name
pub name_line_same : (i : ℕ) (n m : TraceName) → IsWide n → IsWide m → name_line i n ≡ name_line i m → n ≡ m
name_line_same i n m a b e =
    let rest2 = code i ++ 32 ∷ (m.text ++ codes " $end") in
    let rest = decimal m.width ++ 32 ∷ rest2 in
    let k = width_cut i n (name_line i m) rest (decimal m.width) rest2 a.1 (name_line_is i m)
    (refl, width_no m.width b.1) (sym e) in
    let c = code_cut i n rest2 (code i) (m.text ++ codes " $end")
    (refl, code_no 32 i i (omega arith) (omega arith)) k.1 in
    let s : m.text ≡ n.text = append_cancel_right m.text n.text (codes " $end") c.1 in
    let w : m.width ≡ n.width = decimal_injective m.width n.width (omega (arith, b.1)) (omega (arith, a.1)) k.0 in
    sym (ap (λ x. named x m.width) s ∙ ap (λ x. named n.text x) w)
