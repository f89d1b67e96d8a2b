-- A word is read as a number exactly where it says this number.
use Rattle.std.proofs.Common.{◌≡◌, ℕ, zero, suc, ◌+◌, ◌-◌, ◌*◌, ◌^◌, ◌≤◌, Bool, true, false, cond, ◌&&◌, ◌==◌}
use Rattle.std.proofs.Common.{List, [], ◌∷◌, length, ℤ, pos, neg_ℤ, Option, Some, None, pow-suc}
use Rattle.std.proofs.Common.{refl, ap, sym, ◌∙◌, inl, inr, arith}
use Rattle.std.specs.Prelude.{nat_le, option_map, unsigned_abs}
use Rattle.std.specs.List.{list_all}
use Rattle.std.proofs.lemmas.Bool.{false≢true, cases_Bool}
use Rattle.std.proofs.lemmas.Bool.Decides.{nat_tests}
use Rattle.fv_lines.specs.Numbers.{is_digit, continued, natural_of, at_most, number_up_to, signed}
use Rattle.lrat_texts.specs.Numerals.{worth, SaysNumber, without_sign, signed_as}

some_is : {X : Type 0} (x y : X) → Some x ≡ Some y → x ≡ y
some_is x y e = cc

pub none_some : {X : Type 0} (x : X) → None ≡ Some x → ⊥
none_some x e = cc

pub and_parts : (a b : Bool) → (a && b) ≡ true → (a ≡ true) × (b ≡ true)
and_parts true b e = (refl, e)
and_parts false b e = absurd (false≢true e)

-- ---- digits

one_more : (m d p w n : ℕ) → (10 * m + d) * p + w ≡ n → m * (10 * p) + (d * p + w) ≡ n
one_more m d p w n e = grind arith

ten_times : (k : ℕ) → 10 ^ suc k ≡ 10 * 10 ^ k
ten_times k = grind (arith, pow-suc)

continued_is : (m n : ℕ) (ds : List ℕ) → continued m ds ≡ Some n
    → (list_all is_digit ds ≡ true) × (m * 10 ^ length ds + worth ds ≡ n)
continued_is m n [] e = let k = some_is m n e in (refl, omega (arith, k))
continued_is m n (d ∷ ds) e = elim (cases_Bool (is_digit d)) [
  | inl h ↦
      let r = continued_is (10 * m + (d - 48)) n ds
      (sym (ap (λ b. cond b (continued (10 * m + (d - 48)) ds) None) h) ∙ e) in (
        ap (λ b. b && list_all is_digit ds) h ∙ r.0,
        ap (λ p. m * p + ((d - 48) * 10 ^ length ds + worth ds)) (ten_times (length ds))
            ∙ one_more m (d - 48) (10 ^ length ds) (worth ds) n r.1,
      )
  | inr h ↦ absurd (none_some n (sym (ap (λ b. cond b (continued (10 * m + (d - 48)) ds) None) h) ∙ e))
]

continued_from : (m : ℕ) (ds : List ℕ) → list_all is_digit ds ≡ true
    → continued m ds ≡ Some (m * 10 ^ length ds + worth ds)
continued_from m [] h = let e : m ≡ m * 1 + 0 = omega arith in ap (λ x. Some x) e
continued_from m (d ∷ ds) h =
    let p = and_parts (is_digit d) (list_all is_digit ds) h in
    let value : ℕ = (10 * m + (d - 48)) * 10 ^ length ds + worth ds in
    let e = one_more m (d - 48) (10 ^ length ds) (worth ds) value refl in
    ap (λ b. cond b (continued (10 * m + (d - 48)) ds) None) p.0 ∙ continued_from (10 * m + (d - 48)) ds p.1
    ∙ ap (λ x. Some x) (sym e)
    ∙ ap (λ q. Some (m * q + ((d - 48) * 10 ^ length ds + worth ds))) (sym (ten_times (length ds)))

pub number_said : (word : List ℕ) (n : ℕ) → natural_of word ≡ Some n → SaysNumber word n
number_said [] n e = absurd (none_some n e)
number_said (d ∷ ds) n e =
    let p = continued_is 0 n (d ∷ ds) e in
    let same : worth (d ∷ ds) ≡ 0 * 10 ^ length (d ∷ ds) + worth (d ∷ ds) = omega arith in
    record { some = omega arith; digits = p.0; worth_is = same ∙ p.1 }

pub number_read : (word : List ℕ) (n : ℕ) → SaysNumber word n → natural_of word ≡ Some n
number_read [] n s = absurd (omega (arith, s.some))
number_read (d ∷ ds) n s =
    let same : 0 * 10 ^ length (d ∷ ds) + worth (d ∷ ds) ≡ worth (d ∷ ds) = omega arith in
    continued_from 0 (d ∷ ds) s.digits ∙ ap (λ x. Some x) (same ∙ s.worth_is)

-- ---- numbers up to a limit

kept : {X : Type 0} (t : Bool) (o : Option X) (x : X) → cond t o None ≡ Some x → (t ≡ true) × (o ≡ Some x)
kept true o x e = (refl, e)
kept false o x e = absurd (none_some x e)

is_le : (n m : ℕ) → nat_le n m ≡ true → n ≤ m
is_le n m h = grind (arith, nat_tests)

le_is : (n m : ℕ) → n ≤ m → nat_le n m ≡ true
le_is n m h = grind (arith, nat_tests)

bounded_is : (limit n : ℕ) (o : Option ℕ) → at_most limit o ≡ Some n → (o ≡ Some n) × (n ≤ limit)
bounded_is limit n None e = absurd (none_some n e)
bounded_is limit n (Some k) e =
    let p = kept (nat_le k limit) (Some k) n e in
    let same = some_is k n p.1 in
    let le = is_le k limit p.0 in
    (p.1, omega (arith, same, le))

bounded_by : (limit n : ℕ) (o : Option ℕ) → o ≡ Some n → n ≤ limit → at_most limit o ≡ Some n
bounded_by limit n o e h = ap (at_most limit) e ∙ ap (λ b. cond b (Some n) None) (le_is n limit h)

pub up_to_said : (limit n : ℕ) (word : List ℕ) → number_up_to limit word ≡ Some n → SaysNumber word n × (n ≤ limit)
up_to_said limit n word e =
    let p = bounded_is limit n (natural_of word) e in (number_said word n p.0, p.1)

pub up_to_read : (limit n : ℕ) (word : List ℕ) → SaysNumber word n → n ≤ limit → number_up_to limit word ≡ Some n
up_to_read limit n word s h = bounded_by limit n (natural_of word) (number_read word n s) h

-- ---- signs

mapped : (f : ℕ → ℤ) (o : Option ℕ) (l : ℤ) → option_map f o ≡ Some l → (n : ℕ) × (o ≡ Some n) × (f n ≡ l)
mapped f None l e = absurd (none_some l e)
mapped f (Some n) l e = (n, refl, some_is (f n) l e)

size_of_negative : (n : ℕ) → unsigned_abs (neg_ℤ (pos n)) ≡ n
size_of_negative zero = refl
size_of_negative (suc n) = omega arith

abbrev read_by : Bool → Option ℕ → Option ℕ → Option ℤ
read_by minus o p = cond minus (option_map (λ n. neg_ℤ (pos n)) o) (option_map pos p)

by_sign : (number : List ℕ → Option ℕ) (minus : Bool) (bs cs : List ℕ) (l : ℤ)
    → read_by minus (number bs) (number cs) ≡ Some l
    → (number (cond minus bs cs) ≡ Some (unsigned_abs l))
    × (l ≡ cond minus (neg_ℤ (pos (unsigned_abs l))) (pos (unsigned_abs l)))
by_sign number true bs cs l e =
    let m = mapped (λ n. neg_ℤ (pos n)) (number bs) l e in
    let size : unsigned_abs l ≡ m.0 = ap unsigned_abs (sym m.2) ∙ size_of_negative m.0 in
    (m.1 ∙ ap (λ x. Some x) (sym size), sym m.2 ∙ ap (λ n. neg_ℤ (pos n)) (sym size))
by_sign number false bs cs l e =
    let m = mapped pos (number cs) l e in
    let size : unsigned_abs l ≡ m.0 = ap unsigned_abs (sym m.2) in
    (m.1 ∙ ap (λ x. Some x) (sym size), sym m.2 ∙ ap pos (sym size))

sign_by : (number : List ℕ → Option ℕ) (minus : Bool) (bs cs : List ℕ) (l : ℤ)
    → number (cond minus bs cs) ≡ Some (unsigned_abs l)
    → l ≡ cond minus (neg_ℤ (pos (unsigned_abs l))) (pos (unsigned_abs l))
    → read_by minus (number bs) (number cs) ≡ Some l
sign_by number true bs cs l e s = ap (option_map (λ n. neg_ℤ (pos n))) e ∙ ap (λ x. Some x) (sym s)
sign_by number false bs cs l e s = ap (option_map pos) e ∙ ap (λ x. Some x) (sym s)

pub signed_said : (number : List ℕ → Option ℕ) (word : List ℕ) (l : ℤ) → signed number word ≡ Some l
    → (number (without_sign word) ≡ Some (unsigned_abs l)) × (l ≡ signed_as word (unsigned_abs l))
signed_said number [] l e = by_sign number false [] [] l e
signed_said number (b ∷ bs) l e = by_sign number (b == 45) bs (b ∷ bs) l e

pub signed_read : (number : List ℕ → Option ℕ) (word : List ℕ) (l : ℤ)
    → number (without_sign word) ≡ Some (unsigned_abs l) → l ≡ signed_as word (unsigned_abs l)
    → signed number word ≡ Some l
signed_read number [] l e s = sign_by number false [] [] l e s
signed_read number (b ∷ bs) l e s = sign_by number (b == 45) bs (b ∷ bs) l e s
