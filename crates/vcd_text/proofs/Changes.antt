-- The first of the lines that say what changed.
use Rattle.std.proofs.Common.{◌≡◌, ℕ, zero, suc, ◌+◌, ◌^◌, ◌<◌, ◌⊎◌, ◌==◌, List, [], ◌∷◌, ◌++◌, length, take, drop}
use Rattle.std.proofs.Common.{get_or, refl, ap, sym, ◌∙◌, inl, inr, arith}
use Rattle.std.proofs.lemmas.Bool.{cases_Bool}
use Rattle.fv_text.specs.declared.trace.TraceName.{TraceName}
use Rattle.vcd_text.specs.Reading.{IsAt}
use Rattle.vcd_dump.specs.Vcd.{AreValues, value_line, change_lines}
use Rattle.vcd_dump.proofs.DigitsLemmas.{when, unless}
use Rattle.vcd_text.proofs.Values.{at_same}
use Rattle.vcd_text.proofs.Lists.{lines_same, eq_true, eq_same, eq_false, differs}

-- the first value that isn't the one before, and what stands behind its line
pub record IsFirstChange (i : ℕ) (ms : List TraceName) (bs os line : List ℕ) (more rest : List (List ℕ)) : Type 0 where
  pub place : ℕ
  pub value : ℕ
  pub name : TraceName
  pub others : List ℕ
  pub within : place < length bs
  pub name_is : IsAt ms place name
  pub values_are : os ≡ take place bs ++ value ∷ others
  pub changed : get_or bs place 0 ≡ value → ⊥
  pub fits : value < 2 ^ name.width
  pub line_is : line ≡ value_line (i + place) name value
  pub rest_is : rest ≡ change_lines (i + place + 1) (drop (suc place) ms) (drop (suc place) bs) others ++ more

abbrev pub AreChanges : ℕ → List TraceName → List ℕ → List ℕ → List ℕ → List (List ℕ) → List (List ℕ) → Type 0
AreChanges i ms bs os line more rest = ((os ≡ bs) × (more ≡ line ∷ rest)) ⊎ IsFirstChange i ms bs os line more rest

-- a value behind one that stayed
behind_same : (i : ℕ) (n : TraceName) (ms : List TraceName) (x o : ℕ) (bs os line : List ℕ)
    (more rest : List (List ℕ)) → x ≡ o → AreChanges (i + 1) ms bs os line more rest
    → AreChanges i (n ∷ ms) (x ∷ bs) (o ∷ os) line more rest
behind_same i n ms x o bs os line more rest s (inl h) = inl (ap (λ z. z ∷ os) (sym s) ∙ ap (λ z. x ∷ z) h.0, h.1)
behind_same i n ms x o bs os line more rest s (inr h) = inr (record {
  place = suc h.place;
  value = h.value;
  name = h.name;
  others = h.others;
  within = let l = h.within in omega (arith, l);
  name_is = h.name_is;
  values_are = ap (λ z. z ∷ os) (sym s) ∙ ap (λ z. x ∷ z) h.values_are;
  changed = h.changed;
  fits = h.fits;
  line_is = h.line_is ∙ ap (λ z. value_line z h.name h.value)
      (let e : i + 1 + h.place ≡ i + suc h.place = omega arith in e);
  rest_is = h.rest_is ∙ ap (λ z. change_lines z (drop (suc h.place) ms) (drop (suc h.place) bs) h.others ++ more)
      (let e : i + 1 + h.place + 1 ≡ i + suc h.place + 1 = omega arith in e);
})

pub first_change : (i : ℕ) (ms : List TraceName) (bs os line : List ℕ) (more rest : List (List ℕ)) → AreValues ms bs
    → AreValues ms os → line ∷ rest ≡ change_lines i ms bs os ++ more → AreChanges i ms bs os line more rest
first_change i [] [] [] line more rest a b e = inl (refl, sym e)
first_change i [] [] (o ∷ os) line more rest a b e = absurd b
first_change i [] (x ∷ bs) os line more rest a b e = absurd a
first_change i (n ∷ ms) [] os line more rest a b e = absurd a
first_change i (n ∷ ms) (x ∷ bs) [] line more rest a b e = absurd b
first_change i (n ∷ ms) (x ∷ bs) (o ∷ os) line more rest a b e = elim (cases_Bool (x == o)) [
  | inl t ↦
      let s : line ∷ rest ≡ change_lines (i + 1) ms bs os ++ more = e
      ∙ ap (λ z. (z ++ change_lines (i + 1) ms bs os) ++ more) (when (x == o) [] (value_line i n o ∷ []) t) in
      behind_same i n ms x o bs os line more rest (eq_same x o t)
      (first_change (i + 1) ms bs os line more rest a.1 b.1 s)
  | inr f ↦
      let s : line ∷ rest ≡ value_line i n o ∷ (change_lines (i + 1) ms bs os ++ more) = e
      ∙ ap (λ z. (z ++ change_lines (i + 1) ms bs os) ++ more) (unless (x == o) [] (value_line i n o ∷ []) f) in
      let q = lines_same line (value_line i n o) rest (change_lines (i + 1) ms bs os ++ more) s in
      let z0 : i ≡ i + 0 = omega arith in
      inr (record {
        place = 0;
        value = o;
        name = n;
        others = os;
        within = let l : 0 < length (x ∷ bs) = omega arith in l;
        name_is = refl;
        values_are = refl;
        changed = differs x o f;
        fits = b.0;
        line_is = q.0 ∙ ap (λ z. value_line z n o) z0;
        rest_is = q.1 ∙ ap (λ z. change_lines (z + 1) ms bs os ++ more) z0;
      })
]

-- the lines from such a value on
pub changes_at : (i : ℕ) (ms : List TraceName) (bs : List ℕ) (d v : ℕ) (n : TraceName) (os : List ℕ)
    → AreValues ms bs → d < length bs → IsAt ms d n → (get_or bs d 0 ≡ v → ⊥)
    → change_lines i ms bs (take d bs ++ v ∷ os) ≡ value_line (i + d) n v
    ∷ change_lines (i + d + 1) (drop (suc d) ms) (drop (suc d) bs) os
changes_at i [] [] d v n os a l b c = absurd (omega (arith, l))
changes_at i [] (x ∷ bs) d v n os a l b c = absurd a
changes_at i (m ∷ ms) [] d v n os a l b c = absurd a
changes_at i (m ∷ ms) (x ∷ bs) zero v n os a l b c =
    let z0 : i ≡ i + 0 = omega arith in
    let e : m ≡ n = at_same (m ∷ ms) 0 0 m n refl refl b in
    ap (λ z. z ++ change_lines (i + 1) ms bs os) (unless (x == v) [] (value_line i m v ∷ []) (eq_false x v c))
    ∙ ap (λ z. value_line z m v ∷ change_lines (z + 1) ms bs os) z0
    ∙ ap (λ z. value_line (i + 0) z v ∷ change_lines (i + 0 + 1) ms bs os) e
changes_at i (m ∷ ms) (x ∷ bs) (suc d) v n os a l b c =
    let e : i + 1 + d ≡ i + suc d = omega arith in
    ap (λ z. z ++ change_lines (i + 1) ms bs (take d bs ++ v ∷ os))
    (when (x == x) [] (value_line i m x ∷ []) (eq_true x x refl))
    ∙ changes_at (i + 1) ms bs d v n os a.1 (omega (arith, l)) b c
    ∙ ap (λ z. value_line z n v ∷ change_lines (z + 1) (drop (suc d) ms) (drop (suc d) bs) os) e

pub no_changes : (i : ℕ) (ms : List TraceName) (bs : List ℕ) → change_lines i ms bs bs ≡ []
no_changes i [] bs = refl
no_changes i (n ∷ ms) [] = refl
no_changes i (n ∷ ms) (b ∷ bs) = ap (λ z. z ++ change_lines (i + 1) ms bs bs)
    (when (b == b) [] (value_line i n b ∷ []) (eq_true b b refl)) ∙ no_changes (i + 1) ms bs
