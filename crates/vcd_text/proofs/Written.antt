-- Numbers written in a base, and read back from the last of their digits.
use Rattle.std.proofs.Common.{◌≡◌, ℕ, zero, suc, Bool, true, false, ◌==◌, ◌+◌, ◌-◌, ◌*◌, ◌/◌, ◌%◌, ◌<◌, ◌≤◌, ◌⊎◌, ◌↔◌}
use Rattle.std.proofs.Common.{List, [], ◌∷◌, ◌++◌, length, Option, Some, None, MatchOption, ap, sym, ◌∙◌, inl, inr}
use Rattle.std.proofs.Common.{length-append, arith}
use Rattle.std.proofs.lemmas.Bool.{cases_lt}
use Rattle.std.proofs.lemmas.Bool.Decides.{nat_tests}
use Rattle.std.proofs.Math.Nat.{div-mul-le_self, div-add-mod', mod-lt, le-div_iff_mul-le, mul-add-mod_self_right}
use Rattle.std.proofs.Math.Nat.{mod-eq_of_lt, div-lt_self, mul-le-mul_left}
use Rattle.std.proofs.lemmas.List.{nil_from_length, same_from_push}
use Rattle.std.proofs.lemmas.Nat.{div-mul-add}
use Rattle.vcd_dump.specs.Digits.{code, number}
use Rattle.vcd_dump.proofs.DigitsLemmas.{code_small, code_more, number_small, number_more}

-- which digit stands last (or first), and what the others write
pub record Parts (base first : ℕ) (spell : ℕ → List ℕ) (others : List ℕ) (digit n : ℕ) : Type 0 where
  pub more : base ≤ n
  pub high : others ≡ spell (n / base)
  pub low : digit ≡ first + n % base

pub record Single (base first : ℕ) (others : List ℕ) (digit n : ℕ) : Type 0 where
  pub small : n < base
  pub none : others ≡ []
  pub low : digit ≡ first + n

-- a way to write numbers: `join` puts a digit to the others, and the digit of 0 is `first`
pub record Writes (base first : ℕ) (join : List ℕ → ℕ → List ℕ) (spell : ℕ → List ℕ) : Type 0 where
  pub two : 2 ≤ base
  pub filled : (n : ℕ) → spell n ≡ [] → ⊥
  pub parts : (others : List ℕ) (digit n : ℕ) → join others digit ≡ spell n → Single base first others digit n
      ⊎ Parts base first spell others digit n
  pub small : (n : ℕ) → n < base → spell n ≡ join [] (first + n)
  pub more : (n : ℕ) → base ≤ n → spell n ≡ join (spell (n / base)) (first + n % base)

same_number : (base a b : ℕ) → a / base ≡ b / base → a % base ≡ b % base → a ≡ b
same_number base a b d m = sym (div-add-mod' a base) ∙ ap (λ x. x * base + a % base) d
    ∙ ap (λ x. b / base * base + x) m ∙ div-add-mod' b base

mod_below : (n base : ℕ) → 2 ≤ base → n % base < base
mod_below n base h = let p : 0 < base = omega (arith, h) in mod-lt n p

small_same : {base first : ℕ} {join : List ℕ → ℕ → List ℕ} {spell : ℕ → List ℕ} → Writes base first join spell
    → (a b : ℕ) → a < base → spell a ≡ spell b → a ≡ b
small_same {base = base} {first = first} w a b s e = elim (w.parts [] (first + a) b (sym (w.small a s) ∙ e)) [
  | inl x ↦ omega (arith, x.low)
  | inr x ↦ absurd (w.filled (b / base) (sym x.high))
]

-- no two numbers are written alike
pub written_same : {base first : ℕ} {join : List ℕ → ℕ → List ℕ} {spell : ℕ → List ℕ} → Writes base first join spell
    → (f a b : ℕ) → a ≤ f → spell a ≡ spell b → a ≡ b
written_same w zero a b l e = small_same w a b (omega (arith, l, w.two)) e
written_same {base = base} {first = first} {spell = spell} w (suc f) a b l e = elim (cases_lt a base) [
  | inl s ↦ small_same w a b s e
  | inr m ↦ elim (w.parts (spell (a / base)) (first + a % base) b (sym (w.more a m) ∙ e)) [
    | inl x ↦ absurd (w.filled (a / base) x.none)
    | inr x ↦
        let p : 0 < a = omega (arith, m, w.two) in
        let q : 1 < base = omega (arith, w.two) in
        let r : a / base < a = div-lt_self p q in
        same_number base a b (written_same w f (a / base) (b / base) (omega (arith, r, l)) x.high)
        (omega (arith, x.low))
  ]
]

-- what is read: a digit, and a number
abbrev pub DigitIs : ℕ → ℕ → ℕ → ℕ → Option ℕ → Type 0
DigitIs base first digit most r = MatchOption r ((d : ℕ) → d < base → d ≤ most → digit ≡ first + d → ⊥)
    (λ d. (d < base) × (d ≤ most) × (digit ≡ first + d))

abbrev pub NumberIs : (ℕ → List ℕ) → List ℕ → ℕ → Option ℕ → Type 0
NumberIs spell ds most r = MatchOption r ((n : ℕ) → n ≤ most → ds ≡ spell n → ⊥) (λ n. (n ≤ most) × (ds ≡ spell n))

pub one_digit : {base first : ℕ} {join : List ℕ → ℕ → List ℕ} {spell : ℕ → List ℕ} → Writes base first join spell
    → (ds others : List ℕ) (digit most : ℕ) → ds ≡ join others digit → others ≡ [] → (r : Option ℕ)
    → DigitIs base first digit most r → NumberIs spell ds most r
one_digit {base = base} w ds others digit most p o None h = λ n l e. elim (w.parts others digit n (sym p ∙ e)) [
  | inl x ↦ h n x.small l x.low
  | inr x ↦ w.filled (n / base) (sym x.high ∙ o)
]
one_digit {join = join} w ds others digit most p o (Some d) h =
    (h.1, p ∙ ap (λ x. join x digit) o ∙ ap (λ x. join [] x) h.2 ∙ sym (w.small d h.0))

pub not_nil : (xs : List ℕ) → 0 < length xs → xs ≡ [] → ⊥
not_nil [] h e = omega (arith, h)
not_nil (x ∷ xs) h e = let f : length (x ∷ xs) ≡ length {A = ℕ} [] = ap length e in omega (arith, f)

pub too_long : {base first : ℕ} {join : List ℕ → ℕ → List ℕ} {spell : ℕ → List ℕ} → Writes base first join spell
    → (ds others : List ℕ) (digit most : ℕ) → ds ≡ join others digit → 0 < length others → most < base → (n : ℕ)
    → n ≤ most → ds ≡ spell n → ⊥
too_long w ds others digit most p o m n l e = elim (w.parts others digit n (sym p ∙ e)) [
  | inl x ↦ not_nil others o x.none
  | inr x ↦ omega (arith, x.more, l, m)
]

quotient_up_to : (base n most : ℕ) → 2 ≤ base → n ≤ most → n / base ≤ most / base
quotient_up_to base n most b l =
    let p : 0 < base = omega (arith, b) in
    let q : n / base * base ≤ n = div-mul-le_self n base in
    let r : n / base * base ≤ most = omega (arith, q, l) in
    let i : (n / base ≤ most / base) ↔ (n / base * base ≤ most) = le-div_iff_mul-le p in i.1 r

pub no_high : {base first : ℕ} {join : List ℕ → ℕ → List ℕ} {spell : ℕ → List ℕ} → Writes base first join spell
    → (ds others : List ℕ) (digit most : ℕ) → ds ≡ join others digit → 0 < length others
    → ((k : ℕ) → k ≤ most / base → others ≡ spell k → ⊥) → (n : ℕ) → n ≤ most → ds ≡ spell n → ⊥
no_high {base = base} w ds others digit most p o h n l e = elim (w.parts others digit n (sym p ∙ e)) [
  | inl x ↦ not_nil others o x.none
  | inr x ↦ h (n / base) (quotient_up_to base n most w.two l) x.high
]

pub zero_high : {base first : ℕ} {join : List ℕ → ℕ → List ℕ} {spell : ℕ → List ℕ} → Writes base first join spell
    → (ds others : List ℕ) (digit most : ℕ) → ds ≡ join others digit → 0 < length others → others ≡ spell 0 → (n : ℕ)
    → n ≤ most → ds ≡ spell n → ⊥
zero_high {base = base} w ds others digit most p o z n l e = elim (w.parts others digit n (sym p ∙ e)) [
  | inl x ↦ not_nil others o x.none
  | inr x ↦
      let q : 0 < base = omega (arith, w.two) in
      let i : (1 ≤ n / base) ↔ (1 * base ≤ n) = le-div_iff_mul-le q in
      let one : 1 ≤ n / base = i.1 (omega (arith, x.more)) in
      let same : n / base ≡ 0 = written_same w (n / base) (n / base) 0 (omega arith) (sym x.high ∙ z) in
      omega (arith, one, same)
]

pub no_low : {base first : ℕ} {join : List ℕ → ℕ → List ℕ} {spell : ℕ → List ℕ} → Writes base first join spell
    → (ds others : List ℕ) (digit most high : ℕ) → ds ≡ join others digit → 0 < length others → others ≡ spell high
    → ((d : ℕ) → d < base → d ≤ most - high * base → digit ≡ first + d → ⊥) → (n : ℕ) → n ≤ most → ds ≡ spell n → ⊥
no_low {base = base} w ds others digit most high p o h d n l e = elim (w.parts others digit n (sym p ∙ e)) [
  | inl x ↦ not_nil others o x.none
  | inr x ↦
      let same : n / base ≡ high = written_same w (n / base) (n / base) high (omega arith) (sym x.high ∙ h) in
      let g : n / base * base + n % base ≡ n = div-add-mod' n base in
      let k : n / base * base ≡ high * base = ap (λ y. y * base) same in
      d (n % base) (mod_below n base w.two) (omega (arith, g, k, l)) x.low
]

pub whole : {base first : ℕ} {join : List ℕ → ℕ → List ℕ} {spell : ℕ → List ℕ} → Writes base first join spell
    → (ds others : List ℕ) (digit most high low : ℕ) → ds ≡ join others digit → others ≡ spell high → 0 < high
    → high ≤ most / base → low < base → low ≤ most - high * base → digit ≡ first + low → (high * base + low ≤ most)
    × (ds ≡ spell (high * base + low))
whole {base = base} {first = first} {join = join} {spell = spell} w ds others digit most high low p h z m b l d =
    let q : 0 < base = omega (arith, w.two) in
    let i : (high ≤ most / base) ↔ (high * base ≤ most) = le-div_iff_mul-le q in
    let within : high * base ≤ most = i.0 m in
    let least : base * 1 ≤ base * high = mul-le-mul_left base z in
    let quotient : (high * base + low) / base ≡ high = div-mul-add high base low b in
    let small : low % base ≡ low = mod-eq_of_lt b in
    let rest : (high * base + low) % base ≡ low = mul-add-mod_self_right high base low ∙ small in (
      omega (arith, within, l),
      p ∙ ap (λ x. join x digit) h ∙ ap (λ x. join (spell high) x) d
          ∙ sym (w.more (high * base + low) (omega (arith, least))
          ∙ ap (λ x. join (spell x) (first + (high * base + low) % base)) quotient
          ∙ ap (λ x. join (spell high) (first + x)) rest),
    )

pub cons_same : (x y : ℕ) (xs ys : List ℕ) → x ∷ xs ≡ y ∷ ys → (x ≡ y) × (xs ≡ ys)
cons_same x y xs ys e = (cc, cc)

-- digits in a base up to ten, the highest first
pub number_writes : (base : ℕ) → 2 ≤ base → Writes base 48 (λ others digit. others ++ digit ∷ []) (number base)
number_writes base b = record {
  two = b;
  filled = filled;
  parts = parts;
  small = λ n s. number_small base n b s;
  more = λ n m. number_more base n b m;
} where
  filled : (n : ℕ) → number base n ≡ [] → ⊥
  filled n e = elim (cases_lt n base) [
    | inl s ↦ not_nil ((48 + n) ∷ []) (omega arith) (sym (number_small base n b s) ∙ e)
    | inr m ↦
        let g : length (number base (n / base) ++ (48 + n % base) ∷ []) ≡ length (number base (n / base))
        + 1 = length-append (number base (n / base)) ((48 + n % base) ∷ []) in
        not_nil (number base (n / base) ++ (48 + n % base) ∷ []) (omega (arith, g)) (sym (number_more base n b m) ∙ e)
  ]

  parts : (others : List ℕ) (digit n : ℕ) → others ++ digit ∷ [] ≡ number base n → Single base 48 others digit n
      ⊎ Parts base 48 (number base) others digit n
  parts others digit n e = elim (cases_lt n base) [
    | inl s ↦ let h = same_from_push others [] digit (48 + n) (e ∙ number_small base n b s)
        in inl (record { small = s; none = h.0; low = h.1 })
    | inr m ↦ let h = same_from_push others (number base (n / base)) digit (48 + n % base)
        (e ∙ number_more base n b m) in inr (record { more = m; high = h.0; low = h.1 })
  ]

-- codes, their lowest digit first
pub code_writes : Writes 94 33 (λ others digit. digit ∷ others) code
code_writes = record {
  two = omega arith;
  filled = filled;
  parts = parts;
  small = code_small;
  more = code_more;
} where
  filled : (n : ℕ) → code n ≡ [] → ⊥
  filled n e = elim (cases_lt n 94) [
    | inl s ↦ not_nil ((33 + n) ∷ []) (omega arith) (sym (code_small n s) ∙ e)
    | inr m ↦ not_nil ((33 + n % 94) ∷ code (n / 94)) (omega arith) (sym (code_more n m) ∙ e)
  ]

  parts : (others : List ℕ) (digit n : ℕ) → digit ∷ others ≡ code n → Single 94 33 others digit n
      ⊎ Parts 94 33 code others digit n
  parts others digit n e = elim (cases_lt n 94) [
    | inl s ↦ let h =
        cons_same digit (33 + n) others [] (e ∙ code_small n s) in inl (record { small = s; none = h.1; low = h.0 })
    | inr m ↦ let h = cons_same digit (33 + n % 94) others (code (n / 94)) (e ∙ code_more n m)
        in inr (record { more = m; high = h.1; low = h.0 })
  ]

pub is_nil : (b : Bool) (xs : List ℕ) → b ≡ (length xs == 0) → b ≡ true → xs ≡ []
is_nil b xs e t = nil_from_length xs (let h : (length xs == 0) ≡ true = sym e ∙ t in grind (arith, nat_tests))

pub is_filled : (b : Bool) (xs : List ℕ) → b ≡ (length xs == 0) → b ≡ false → 0 < length xs
is_filled b xs e t = let h : (length xs == 0) ≡ false = sym e ∙ t in grind (arith, nat_tests)
