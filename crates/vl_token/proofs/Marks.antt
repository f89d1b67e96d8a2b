-- The bits of `x`, `z` and `?`, with those that fill.
use Rattle.std.proofs.Common.{◌≡◌, ℕ, ◌+◌, ◌-◌, ◌*◌, ◌%◌, ◌^◌, ◌<◌, ◌≤◌, Bool, true, false, not, cond, ◌||◌, ◌==◌}
use Rattle.std.proofs.Common.{List, [], ◌∷◌, Some, None, length, zero, suc, refl, ap, sym, ◌∙◌, subst, arith, lit≤}
use Rattle.std.specs.Prelude.{filter, find, replicate}
use Rattle.std.proofs.lemmas.Bool.{ne_eqb}
use Rattle.std.proofs.lemmas.List.Sums.{fold-append}
use Rattle.std.proofs.lemmas.Nat.{mod-mul-add, pow-add, pow_pos}
use Rattle.std.proofs.Math.Nat.{pow-suc}
use Rattle.std.proofs.Math.Pow.{mod-mod-pow}
use Rattle.vl_token.specs.Bytes.{first_is, small, is_empty}
use Rattle.vl_token.specs.Numeral.{is_mark, is_wild, is_unknown}
use Rattle.vl_token.specs.Number.{digits_of, bits_of, filled, filling, mark_radix, number_by, worth}
use Rattle.vl_token.specs.Marks.{mark_worth, all_bits}
use Rattle.vl_token.proofs.Folds.{steps, steps_mod}

some_at : (test q : ℕ → Bool) (x y : ℕ) (xs : List ℕ) (c : Bool)
    → (find q xs ≡ Some y → first_is test (filter q xs) ≡ test y)
    → cond c (Some x) (find q xs) ≡ Some y → first_is test (cond c (x ∷ filter q xs) (filter q xs)) ≡ test y
some_at test q x y xs true h e = let one : x ≡ y = cc in ap test one
some_at test q x y xs false h e = h e

pub first_some : (test q : ℕ → Bool) (xs : List ℕ) (y : ℕ) → find q xs ≡ Some y → first_is test (filter q xs) ≡ test y
first_some test q [] y e = absurd (let f : ⊥ = cc in f)
first_some test q (x ∷ xs) y e = some_at test q x y xs (q x) (first_some test q xs y) e

none_at : (test q : ℕ → Bool) (x : ℕ) (xs : List ℕ) (c : Bool)
    → (find q xs ≡ None → first_is test (filter q xs) ≡ false)
    → cond c (Some x) (find q xs) ≡ None → first_is test (cond c (x ∷ filter q xs) (filter q xs)) ≡ false
none_at test q x xs true h e = absurd (let f : ⊥ = cc in f)
none_at test q x xs false h e = h e

pub first_none : (test q : ℕ → Bool) (xs : List ℕ) → find q xs ≡ None → first_is test (filter q xs) ≡ false
first_none test q [] e = refl
first_none test q (x ∷ xs) e = none_at test q x xs (q x) (first_none test q xs) e

pub first_digit_some : (test : ℕ → Bool) (xs : List ℕ) (y : ℕ) → find (λ b. not (b == 95)) xs ≡ Some y
    → first_is test (digits_of xs) ≡ test y
first_digit_some test xs y e = first_some test (λ b. not (b == 95)) xs y e

pub first_digit_none : (test : ℕ → Bool) (xs : List ℕ) → find (λ b. not (b == 95)) xs ≡ None
    → first_is test (digits_of xs) ≡ false
first_digit_none test xs e = first_none test (λ b. not (b == 95)) xs e

pub ruleset first_digits = (first_digit_some, first_digit_none)

-- n copies of a digit that stands for all bits of its place
ones_step : (r q a j p k : ℕ) → r ≡ 2 * q → 1 ≤ q → k ≡ r - 1 → a + 1 ≡ 2 ^ j * p → a * r + k + 1 ≡ 2 ^ suc j * (p * q)
ones_step r q a j p k er pos ek ea =
    let grown : a * r + k + 1 ≡ (a + 1) * r = rw (er, ek, er) (omega arith) in
    let doubled : 2 ^ suc j ≡ 2 ^ j * 2 = pow-suc 2 j in
    grown ∙ (ap (λ z. z * r) ea ∙ (ap (λ z. 2 ^ j * p * z) er ∙ rw doubled (shuffled (2 ^ j) p q)))
  where
    shuffled : (x p q : ℕ) → x * p * (2 * q) ≡ x * 2 * (p * q)
    shuffled x p q = omega arith

pub ones : (count : ℕ → ℕ) (r q x : ℕ) → r ≡ 2 * q → 1 ≤ q → count x ≡ r - 1 → (n j a p k : ℕ) → k ≡ n + j
    → a + 1 ≡ 2 ^ j * p
    → (p' : ℕ) × (steps count r a (replicate n x) + 1 ≡ 2 ^ k * p')
ones count r q x er pos ek zero j a p k e ea = (p, subst (λ z. a + 1 ≡ 2 ^ z * p) (let f : j ≡ k = omega arith in f) ea)
ones count r q x er pos ek (suc n) j a p k e ea =
    ones count r q x er pos ek n (suc j) (a * r + count x) (p * q) k (omega arith)
    (ones_step r q a j p (count x) er pos ek ea)

zeros : (count : ℕ → ℕ) (r x : ℕ) → count x ≡ 0 → (n a : ℕ) → a ≡ 0 → steps count r a (replicate n x) ≡ 0
zeros count r x e zero a ea = ea
zeros count r x e (suc n) a ea = zeros count r x e n (a * r + count x) (rw (ea, e) (omega arith))

-- one less than a multiple of a power
low_at : (s w p : ℕ) → s + 1 ≡ w * suc p → 0 < w → s ≡ p * w + (w - 1)
low_at s w p e pos = grind arith

pub low : (s w p : ℕ) → s + 1 ≡ 2 ^ w * p → s % 2 ^ w ≡ 2 ^ w - 1
low s w zero e =
    absurd (let z : 2 ^ w * 0 ≡ 0 = omega arith in let f : s + 1 ≡ 0 = e ∙ z in let g : ⊥ = absurd (omega arith) in g)
low s w (suc p) e =
    let pos : 0 < 2 ^ w = pow_pos w in
    rw (low_at s (2 ^ w) p e pos) (mod-mul-add p (2 ^ w) (2 ^ w - 1) (omega arith))

cut_mod : (n w : ℕ) → w ≤ 128 → n % 2 ^ 128 % 2 ^ w ≡ n % 2 ^ w
cut_mod n w h = subst (λ k. n % 2 ^ k % 2 ^ w ≡ n % 2 ^ w) (let f : 128 - w + w ≡ 128 = omega arith in f)
    (mod-mod-pow n (128 - w) w)

pub cut_long : (n w x v : ℕ) → w ≤ 128 → x ≡ n % 2 ^ 128 → v ≡ x % 2 ^ w → v ≡ n % 2 ^ w
cut_long n w x v h ex ev = ev ∙ (ap (λ z. z % 2 ^ w) ex ∙ cut_mod n w h)

-- the filling digits, and bits without end, leave the same low bits
same_low : (test : ℕ → Bool) (r q w : ℕ) (ds : List ℕ) (b : ℕ) (c : Bool) → test b ≡ c → w ≤ 128 → r ≡ 2 * q → 1 ≤ q
    → steps (mark_worth test r) r 0 (replicate w b) % 2 ^ w ≡ cond c (2 ^ 128 - 1) 0 % 2 ^ w
same_low test r q w ds b true e h er pos =
    let k : mark_worth test r b ≡ r - 1 = rw e refl in
    let some = ones (mark_worth test r) r q b er pos k w 0 0 1 w (omega arith) refl in
    let front : steps (mark_worth test r) r 0 (replicate w b) % 2 ^ w
    ≡ 2 ^ w - 1 = low (steps (mark_worth test r) r 0 (replicate w b)) w some.0 some.1 in
    let long : 2 ^ 128 - 1 + 1 ≡ 2 ^ w * 2 ^ (128 - w) = split 128 w h in
    front ∙ sym (low (2 ^ 128 - 1) w (2 ^ (128 - w)) long)
  where
    split : (m w : ℕ) → w ≤ m → 2 ^ m - 1 + 1 ≡ 2 ^ w * 2 ^ (m - w)
    split m w h = let e : w + (m - w) ≡ m = omega arith
        in let s : 2 ^ (w + (m - w)) ≡ 2 ^ w * 2 ^ (m - w) = pow-add 2 w (m - w) in
        let t : 2 ^ m ≡ 2 ^ w * 2 ^ (m - w) = subst (λ z. 2 ^ z ≡ 2 ^ w * 2 ^ (m - w)) e s
        in let pos : 0 < 2 ^ m = pow_pos m in let u : 2 ^ m - 1 + 1 ≡ 2 ^ m = omega arith in u ∙ t
same_low test r q w ds b false e h er pos =
    let k : mark_worth test r b ≡ 0 = rw e refl in
    ap (λ z. z % 2 ^ w) (zeros (mark_worth test r) r b k w 0 refl)

-- the first digit fills where it has the mark
fills : (test : ℕ → Bool) → ((b : ℕ) → test b ≡ true → is_mark b ≡ true) → test 48 ≡ false → (ds : List ℕ)
    → test (filling ds) ≡ first_is test ds
fills test marks none [] = none
fills test marks none (b ∷ bs) = by_mark (test b) (is_mark b) refl refl
  where
    by_mark : (c m : Bool) → test b ≡ c → is_mark b ≡ m → test (cond m b 48) ≡ test b
    by_mark c true e f = refl
    by_mark true false e f = absurd (let g : true ≡ false = sym (marks b e) ∙ f in let h : ⊥ = cc in h)
    by_mark false false e f = none ∙ sym e

pub bits_same : (test : ℕ → Bool) → ((b : ℕ) → test b ≡ true → is_mark b ≡ true) → test 48 ≡ false
    → (r q w : ℕ) (ds : List ℕ) → w ≤ 128 → r ≡ 2 * q → 1 ≤ q
    → steps (mark_worth test r) r (all_bits test ds) ds % 2 ^ w ≡ bits_of test r w ds
bits_same test marks none r q w ds h er pos =
    let f = mark_worth test r in
    let front : steps f r 0 (replicate w (filling ds)) % 2 ^ w
    ≡ all_bits test ds % 2 ^ w = same_low test r q w ds (filling ds) (first_is test ds)
    (fills test marks none ds) h er pos in
    let joined : steps f r 0 (filled w ds) ≡ steps f r (steps f r 0 (replicate w (filling ds))) ds = fold-append
    (λ n b. n * r + f b) 0 (replicate w (filling ds)) ds in
    sym (steps_mod f r (all_bits test ds) (2 ^ w) ds)
    ∙ (ap (λ z. steps f r z ds % 2 ^ w) (sym front)
    ∙ (steps_mod f r (steps f r 0 (replicate w (filling ds))) (2 ^ w) ds ∙ ap (λ z. z % 2 ^ w) (sym joined)))

-- the radix of the marks is even
even_at : (a b c : Bool) → (q : ℕ) × (cond a 2 (cond b 2 (cond c 8 (cond a 10 16))) ≡ 2 * q) × (1 ≤ q)
even_at true b c = (1, refl, lit≤ tt)
even_at false true c = (1, refl, lit≤ tt)
even_at false false true = (4, refl, lit≤ tt)
even_at false false false = (8, refl, lit≤ tt)

pub even : (base : ℕ) → (q : ℕ) × (mark_radix base ≡ 2 * q) × (1 ≤ q)
even base = even_at (small base == 100) (small base == 98) (small base == 111)

or_true : (x y : Bool) → y ≡ true → (x || y) ≡ true
or_true true y e = refl
or_true false y e = e

pub wild_marks : (b : ℕ) → is_wild b ≡ true → is_mark b ≡ true
wild_marks b e = or_true (is_unknown b) (is_wild b) e

or_first : (x y : Bool) → x ≡ true → (x || y) ≡ true
or_first true y e = refl
or_first false y e = absurd (let f : ⊥ = cc in f)

pub unknown_marks : (b : ℕ) → is_unknown b ≡ true → is_mark b ≡ true
unknown_marks b e = or_first (is_unknown b) (is_wild b) e

pub wild_bits : (base w x v : ℕ) (ds : List ℕ) → w ≤ 128
    → x ≡ steps (mark_worth is_wild (mark_radix base)) (mark_radix base) (all_bits is_wild ds) ds % 2 ^ 128
    → v ≡ x % 2 ^ w
    → v ≡ bits_of is_wild (mark_radix base) w ds
wild_bits base w x v ds h ex ev =
    let q = even base in
    cut_long (steps (mark_worth is_wild (mark_radix base)) (mark_radix base) (all_bits is_wild ds) ds) w x v h ex ev
    ∙ bits_same is_wild wild_marks refl (mark_radix base) q.0 w ds h q.1 q.2

pub unknown_bits : (base w x v : ℕ) (ds : List ℕ) → w ≤ 128
    → x ≡ steps (mark_worth is_unknown (mark_radix base)) (mark_radix base) (all_bits is_unknown ds) ds % 2 ^ 128
    → v ≡ x % 2 ^ w
    → v ≡ bits_of is_unknown (mark_radix base) w ds
unknown_bits base w x v ds h ex ev =
    let q = even base in
    cut_long (steps (mark_worth is_unknown (mark_radix base)) (mark_radix base)
    (all_bits is_unknown ds) ds) w x v h ex ev
    ∙ bits_same is_unknown unknown_marks refl (mark_radix base) q.0 w ds h q.1 q.2

pub neither : (x y : Bool) → x ≡ false → y ≡ false → (x || y) ≡ false
neither true y e f = absurd (let g : ⊥ = cc in g)
neither false y e f = f

pub no_items : (xs : List ℕ) (r : Bool) → r ≡ (length xs == 0) → not r ≡ not (is_empty xs)
no_items [] r e = ap not e
no_items (x ∷ xs) r e = ap not (e ∙ far)
  where
    far : (length (x ∷ xs) == 0) ≡ false
    far = ne_eqb (length (x ∷ xs)) 0 (λ z. omega arith)

-- the same in another radix
pub long_in : (r s x : ℕ) (ds : List ℕ) → r ≡ s → x ≡ number_by worth r ds % 2 ^ 128
    → x ≡ number_by worth s ds % 2 ^ 128
long_in r s x ds e h = subst (λ z. x ≡ number_by worth z ds % 2 ^ 128) e h

pub marks_in : (test : ℕ → Bool) (r s x : ℕ) (ds : List ℕ) → r ≡ s
    → x ≡ steps (mark_worth test r) r (all_bits test ds) ds % 2 ^ 128
    → x ≡ steps (mark_worth test s) s (all_bits test ds) ds % 2 ^ 128
marks_in test r s x ds e h = subst (λ z. x ≡ steps (mark_worth test z) z (all_bits test ds) ds % 2 ^ 128) e h
