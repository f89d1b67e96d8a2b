-- Values of a line, and the name that each is of.
use Rattle.std.proofs.Common.{◌≡◌, ℕ, zero, suc, ◌+◌, ◌/◌, ◌%◌, ◌^◌, ◌<◌, ◌≤◌, Bool, true, false, not, ◌==◌, ◌&&◌}
use Rattle.std.proofs.Common.{codes, List, [], ◌∷◌, ◌++◌, length, get_or, slice_get, Option, Some, None, refl, ap}
use Rattle.std.proofs.Common.{sym, subst, ◌∙◌, inl, inr, append_assoc, arith}
use Rattle.std.specs.List.{list_all}
use Rattle.std.proofs.lemmas.Bool.{cases_Bool, cases_lt, false≢true}
use Rattle.std.proofs.lemmas.Bool.Decides.{nat_tests}
use Rattle.std.proofs.lemmas.List.{nil_from_length}
use Rattle.std.proofs.lemmas.List.Folds.{list_all-append}
use Rattle.std.proofs.Math.Nat.{div-lt_self}
use Rattle.fv_text.specs.declared.trace.TraceName.{TraceName}
use Rattle.vcd_dump.specs.Digits.{code, number, binary}
use Rattle.fv_lines.specs.Cuts.{HasNo, IsCut}
use Rattle.vcd_text.specs.Reading.{IsAt, IsValue, FindsParts, FindsValue}
use Rattle.vcd_dump.specs.Vcd.{value_of, value_line}
use Rattle.vcd_dump.proofs.DigitsLemmas.{when, unless, number_small, number_more}
use Rattle.vcd_text.proofs.Written.{code_writes, written_same, cons_same, not_nil}

is_mark : (mark c : ℕ) (more : Bool) → (not (c == mark) && more) ≡ true → c ≡ mark → ⊥
is_mark mark c more h e = let t : (c == mark) ≡ true = grind (arith, nat_tests) in off (c == mark) more h t where
  off : (b more : Bool) → (not b && more) ≡ true → b ≡ true → ⊥
  off true more h t = false≢true h
  off false more h t = false≢true t

rest_of : (a b : Bool) → (a && b) ≡ true → b ≡ true
rest_of true b h = h
rest_of false b h = absurd (false≢true h)

pub true_and : (a b : Bool) → a ≡ true → b ≡ true → (a && b) ≡ true
true_and true b h k = k
true_and false b h k = absurd (false≢true h)

not_false : (b : Bool) → false ≡ not b → b ≡ true
not_false true e = refl
not_false false e = absurd (false≢true e)

not_true' : (b : Bool) → true ≡ not b → b ≡ false
not_true' true e = absurd (false≢true (sym e))
not_true' false e = refl

right_nil : (xs ys : List ℕ) → xs ++ ys ≡ [] → ys ≡ []
right_nil [] ys e = e
right_nil (x ∷ xs) ys e = absurd (not_nil (x ∷ (xs ++ ys)) (omega arith) e)

-- no two names have one code
pub code_same : (a b : ℕ) → code a ≡ code b → a ≡ b
code_same a b e = written_same code_writes a a b (omega arith) e

pub at_index : (ns : List TraceName) (i : ℕ) (n : TraceName) → i < length ns → n ≡ get_or ns i n → IsAt ns i n
at_index [] i n l e = absurd (omega (arith, l))
at_index (m ∷ ns) zero n l e = ap Some (sym e)
at_index (m ∷ ns) (suc i) n l e = at_index ns i n (omega (arith, l)) e

some_same : (a b : TraceName) → Some a ≡ Some b → a ≡ b
some_same a b e = cc

pub at_same : (ns : List TraceName) (i j : ℕ) (n m : TraceName) → i ≡ j → IsAt ns i n → IsAt ns j m → n ≡ m
at_same ns i j n m e p q = some_same n m (sym p ∙ ap (slice_get ns) e ∙ q)

-- a value of the name with this code, where that name has none
pub no_value : (wide : Bool) (digits characters : List ℕ) (ns : List TraceName) (index : ℕ) (name : TraceName)
    → characters ≡ code index → IsAt ns index name
    → ((v : ℕ) → wide ≡ not (name.width == 1) → digits ≡ binary v → v < 2 ^ name.width → ⊥)
    → (i v : ℕ) (n : TraceName) → IsAt ns i n → IsValue wide digits characters i v n → ⊥
no_value wide digits characters ns index name c a h i v n b w =
    let same : n ≡ name = at_same ns i index n name (code_same i index (sym w.code_is ∙ c)) b a in
    h v (w.form ∙ ap (λ m. not (m.width == 1)) same) w.digits_are (subst (λ m. v < 2 ^ m.width) same w.fits)

-- the first mark parts a list in one way
pub cut_same : (mark : ℕ) (a b x y : List ℕ) → HasNo mark a → HasNo mark b → a ++ mark ∷ x ≡ b ++ mark ∷ y → (a ≡ b)
    × (x ≡ y)
cut_same mark [] [] x y h k e = (refl, (cons_same mark mark x y e).1)
cut_same mark [] (c ∷ b) x y h k e =
    absurd (is_mark mark c (list_all (λ z. not (z == mark)) b) k (sym (cons_same mark c x (b ++ mark ∷ y) e).0))
cut_same mark (c ∷ a) [] x y h k e =
    absurd (is_mark mark c (list_all (λ z. not (z == mark)) a) h (cons_same c mark (a ++ mark ∷ x) y e).0)
cut_same mark (c ∷ a) (d ∷ b) x y h k e =
    let p = cons_same c d (a ++ mark ∷ x) (b ++ mark ∷ y) e in
    let q = cut_same mark a b x y (rest_of (not (c == mark)) (list_all (λ z. not (z == mark)) a) h)
    (rest_of (not (d == mark)) (list_all (λ z. not (z == mark)) b) k) p.1 in
    (ap (λ z. z ∷ a) p.0 ∙ ap (λ z. d ∷ z) q.0, q.1)

-- a mark is in what it stands in
pub has_mark : (mark : ℕ) (a x : List ℕ) → HasNo mark (a ++ mark ∷ x) → ⊥
has_mark mark [] x h = is_mark mark mark (list_all (λ z. not (z == mark)) x) h refl
has_mark mark (c ∷ a) x h =
    has_mark mark a x (rest_of (not (c == mark)) (list_all (λ z. not (z == mark)) (a ++ mark ∷ x)) h)

-- digits have neither blanks nor control bytes
digit_no : (mark d : ℕ) → mark < 33 → not (48 + d == mark) ≡ true
digit_no mark d m = let e : (48 + d == mark) ≡ false = grind (arith, nat_tests) in ap not e

pub number_no : (mark base f n : ℕ) → mark < 33 → 2 ≤ base → n ≤ f → HasNo mark (number base n)
number_no mark base zero n m b l = ap (list_all (λ z. not (z == mark))) (number_small base n b (omega (arith, b, l)))
    ∙ true_and (not (48 + n == mark)) true (digit_no mark n m) refl
number_no mark base (suc f) n m b l = elim (cases_lt n base) [
  | inl s ↦ ap (list_all (λ z. not (z == mark))) (number_small base n b s)
      ∙ true_and (not (48 + n == mark)) true (digit_no mark n m) refl
  | inr h ↦
      let p : 0 < n = omega (arith, h, b) in
      let q : 1 < base = omega (arith, b) in
      let r : n / base < n = div-lt_self p q in
      ap (list_all (λ z. not (z == mark))) (number_more base n b h)
      ∙ list_all-append (λ z. not (z == mark)) (number base (n / base)) ((48 + n % base) ∷ [])
      ∙ true_and (list_all (λ z. not (z == mark)) (number base (n / base))) (not (48 + n % base == mark) && true)
      (number_no mark base f (n / base) m b (omega (arith, r, l)))
      (true_and (not (48 + n % base == mark)) true (digit_no mark (n % base) m) refl)
]

pub binary_no_blank : (n : ℕ) → HasNo 32 (binary n)
binary_no_blank n = number_no 32 2 n n (omega arith) (omega arith) (omega arith)

-- the text of a value by the name's width
one_bit : (w v : ℕ) → (w == 1) ≡ true → value_of w v ≡ binary v
one_bit w v e = when (w == 1) (binary v) (codes "b" ++ binary v ++ 32 ∷ []) e

many_bits : (w v : ℕ) → (w == 1) ≡ false → value_of w v ≡ codes "b" ++ binary v ++ 32 ∷ []
many_bits w v e = unless (w == 1) (binary v) (codes "b" ++ binary v ++ 32 ∷ []) e

is_one : (w : ℕ) → (w == 1) ≡ true → w ≡ 1
is_one w e = grind (arith, nat_tests)

pub bit_below : (w v : ℕ) → (w == 1) ≡ true → v < 2 ^ w → v < 2
bit_below w v e l =
    let P : ℕ → Type 0 = λ k. v < 2 ^ k in let h : v < 2 ^ 1 = subst P (is_one w e) l in omega (arith, h)

pub bit_line : (i v : ℕ) (n : TraceName) → (n.width == 1) ≡ true → v < 2 ^ n.width
    → value_line i n v ≡ (48 + v) ∷ code i
bit_line i v n e l =
    ap (λ x. x ++ code i) (one_bit n.width v e ∙ number_small 2 v (omega arith) (bit_below n.width v e l))

pub wide_line : (i v : ℕ) (n : TraceName) → (n.width == 1) ≡ false → value_line i n v ≡ 98 ∷ (binary v ++ 32 ∷ code i)
wide_line i v n e =
    ap (λ x. x ++ code i) (many_bits n.width v e) ∙ ap (λ x. 98 ∷ x) (append_assoc (binary v) (32 ∷ []) (code i))

pub no_empty : (line : List ℕ) → length line ≡ 0 → (i v : ℕ) (n : TraceName) → line ≡ value_line i n v → ⊥
no_empty line z i v n e =
    code_writes.filled i (right_nil (value_of n.width v) (code i) (sym e ∙ nil_from_length line z))

pub narrow : (ns : List TraceName) (line rest : List ℕ) (first : ℕ) (r : Option (ℕ × ℕ)) → line ≡ first ∷ rest
    → (first ≡ 98 → ⊥) → FindsParts ns false (first ∷ []) rest r → FindsValue ns line r
narrow ns line rest first None p b h = λ i v n a l e. elim (cases_Bool (n.width == 1)) [
  | inl t ↦
      let q = cons_same first (48 + v) rest (code i) (sym p ∙ e ∙ bit_line i v n t l) in
      h i v n a (record {
        form = sym (ap not t);
        digits_are = ap (λ x. x ∷ []) q.0 ∙ sym (number_small 2 v (omega arith) (bit_below n.width v t l));
        code_is = q.1;
        fits = l;
      })
  | inr t ↦ b (cons_same first 98 rest (binary v ++ 32 ∷ code i) (sym p ∙ e ∙ wide_line i v n t)).0
]
narrow ns line rest first (Some x) p b h = (
  h.0,
  h.1,
  h.2.fits,
  p ∙ ap (λ y. y ++ rest) h.2.digits_are ∙ ap (λ y. binary x.1 ++ y) h.2.code_is
      ∙ ap (λ y. y ++ code x.0) (sym (one_bit h.0.width x.1 (not_false (h.0.width == 1) h.2.form))),
)

pub broad : (ns : List TraceName) (line rest digits characters : List ℕ) (first : ℕ) (r : Option (ℕ × ℕ))
    → line ≡ first ∷ rest → first ≡ 98 → IsCut 32 rest digits characters → FindsParts ns true digits characters r
    → FindsValue ns line r
broad ns line rest digits characters first None p b k h = λ i v n a l e. elim (cases_Bool (n.width == 1)) [
  | inl t ↦ let q = cons_same first (48 + v) rest (code i) (sym p ∙ e ∙ bit_line i v n t l)
      in let s = bit_below n.width v t l in omega (arith, q.0, b, s)
  | inr t ↦
      let q = cons_same first 98 rest (binary v ++ 32 ∷ code i) (sym p ∙ e ∙ wide_line i v n t) in
      let c = cut_same 32 digits (binary v) characters (code i) k.1 (binary_no_blank v) (sym k.0 ∙ q.1) in
      h i v n a (record { form = sym (ap not t); digits_are = c.0; code_is = c.1; fits = l })
]
broad ns line rest digits characters first (Some x) p b k h = (
  h.0,
  h.1,
  h.2.fits,
  p ∙ ap (λ y. y ∷ rest) b ∙ ap (λ y. 98 ∷ y)
      (k.0 ∙ ap (λ y. y ++ 32 ∷ characters) h.2.digits_are ∙ ap (λ y. binary x.1 ++ 32 ∷ y) h.2.code_is)
      ∙ sym (wide_line x.0 x.1 h.0 (not_true' (h.0.width == 1) h.2.form)),
)

pub no_cut : (line rest : List ℕ) (first : ℕ) → line ≡ first ∷ rest → first ≡ 98 → HasNo 32 rest
    → (i v : ℕ) (n : TraceName) → v < 2 ^ n.width → line ≡ value_line i n v → ⊥
no_cut line rest first p b k i v n l e = elim (cases_Bool (n.width == 1)) [
  | inl t ↦ let q = cons_same first (48 + v) rest (code i) (sym p ∙ e ∙ bit_line i v n t l)
      in let s = bit_below n.width v t l in omega (arith, q.0, b, s)
  | inr t ↦
      let q = cons_same first 98 rest (binary v ++ 32 ∷ code i) (sym p ∙ e ∙ wide_line i v n t) in
      has_mark 32 (binary v) (code i) (subst (HasNo 32) q.1 k)
]
