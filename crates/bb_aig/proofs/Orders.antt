-- Numbers compared by their bits.
use Rattle.std.specs.Prelude.{◌≡◌, refl, ℕ, zero, suc, ◌+◌, ◌-◌, ◌*◌, ◌<◌, ◌≤◌, ◌==◌, Bool, true, false, not, ◌&&◌}
use Rattle.std.specs.Prelude.{◌||◌, List, [], ◌∷◌, length, nat_lt, nat_le}
use Rattle.std.proofs.Common.{ap, sym, ◌∙◌, arith, subst}
use Rattle.std.proofs.lemmas.Bool.{ltb-true, ltb-false, leb-true, leb-false, eqb-true, eqb-false, lt-ltb, le-ltb}
use Rattle.std.proofs.lemmas.Bool.{le-leb, lt-leb, eq-eqb, ne_eqb}
use Rattle.fv_bits.specs.Bits.{bit}
use Rattle.bb_aig.specs.Bits.{number, differ, pick, less_bits, same_bits, any_bit}

pub same_tests : (s t : Bool) → (s ≡ true → t ≡ true) → (t ≡ true → s ≡ true) → s ≡ t
same_tests true t f g = sym (f refl)
same_tests false true f g = g refl
same_tests false false f g = refl

le_le : (a b c d : ℕ) → (a ≤ b → c ≤ d) → (c ≤ d → a ≤ b) → nat_le a b ≡ nat_le c d
le_le a b c d f g =
    same_tests (nat_le a b) (nat_le c d) (λ h. le-leb c d (f (leb-true a b h))) (λ h. le-leb a b (g (leb-true c d h)))

pub lt_lt : (a b c d : ℕ) → (a < b → c < d) → (c < d → a < b) → nat_lt a b ≡ nat_lt c d
lt_lt a b c d f g =
    same_tests (nat_lt a b) (nat_lt c d) (λ h. lt-ltb c d (f (ltb-true a b h))) (λ h. lt-ltb a b (g (ltb-true c d h)))

le_lt : (a b c d : ℕ) → (a ≤ b → c < d) → (c < d → a ≤ b) → nat_le a b ≡ nat_lt c d
le_lt a b c d f g =
    same_tests (nat_le a b) (nat_lt c d) (λ h. lt-ltb c d (f (leb-true a b h))) (λ h. le-leb a b (g (ltb-true c d h)))

lt_le : (a b c d : ℕ) → (a < b → c ≤ d) → (c ≤ d → a < b) → nat_lt a b ≡ nat_le c d
lt_le a b c d f g = sym (le_lt c d a b g f)

eq_eq : (a b c d : ℕ) → (a ≡ b → c ≡ d) → (c ≡ d → a ≡ b) → (a == b) ≡ (c == d)
eq_eq a b c d f g =
    same_tests (a == b) (c == d) (λ h. eq-eqb c d (f (eqb-true a b h))) (λ h. eq-eqb a b (g (eqb-true c d h)))

-- less, or, where both are equal, what is told
abbrev pub less : Bool → ℕ → ℕ → Bool
less true m n = nat_le m n
less false m n = nat_lt m n

less_step : (r x y : Bool) (m n : ℕ) → less (pick (differ x y) y r) m n ≡ less r (bit x + 2 * m) (bit y + 2 * n)
less_step true true true m n = le_le _ _ _ _ (λ h. omega arith) (λ h. omega arith)
less_step true false false m n = le_le _ _ _ _ (λ h. omega arith) (λ h. omega arith)
less_step true true false m n = lt_le _ _ _ _ (λ h. omega arith) (λ h. omega arith)
less_step true false true m n = le_le _ _ _ _ (λ h. omega arith) (λ h. omega arith)
less_step false true true m n = lt_lt _ _ _ _ (λ h. omega arith) (λ h. omega arith)
less_step false false false m n = lt_lt _ _ _ _ (λ h. omega arith) (λ h. omega arith)
less_step false true false m n = lt_lt _ _ _ _ (λ h. omega arith) (λ h. omega arith)
less_step false false true m n = le_lt _ _ _ _ (λ h. omega arith) (λ h. omega arith)

pub number_less : (r : Bool) (xs ys : List Bool) → length ys ≡ length xs
    → less_bits r xs ys ≡ less r (number xs) (number ys)
number_less true [] [] h = refl
number_less false [] [] h = refl
number_less r [] (y ∷ ys) h = absurd (omega arith)
number_less r (x ∷ xs) [] h = absurd (omega arith)
number_less r (x ∷ xs) (y ∷ ys) h =
    number_less (pick (differ x y) y r) xs ys (omega arith) ∙ less_step r x y (number xs) (number ys)

pub number_ult : (xs ys : List Bool) → length ys ≡ length xs → less_bits false xs ys ≡ nat_lt (number xs) (number ys)
number_ult xs ys h = number_less false xs ys h

same_step : (r x y : Bool) (m n : ℕ) → ((r && not (differ x y)) && (m == n)) ≡ (r && (bit x + 2 * m == bit y + 2 * n))
same_step false x y m n = refl
same_step true true true m n = eq_eq _ _ _ _ (λ h. omega arith) (λ h. omega arith)
same_step true false false m n = eq_eq _ _ _ _ (λ h. omega arith) (λ h. omega arith)
same_step true true false m n = sym (ne_eqb (1 + 2 * m) (0 + 2 * n) (λ h. omega arith))
same_step true false true m n = sym (ne_eqb (0 + 2 * m) (1 + 2 * n) (λ h. omega arith))

number_same : (r : Bool) (xs ys : List Bool) → length ys ≡ length xs
    → same_bits r xs ys ≡ (r && (number xs == number ys))
number_same true [] [] h = refl
number_same false [] [] h = refl
number_same r [] (y ∷ ys) h = absurd (omega arith)
number_same r (x ∷ xs) [] h = absurd (omega arith)
number_same r (x ∷ xs) (y ∷ ys) h =
    number_same (r && not (differ x y)) xs ys (omega arith) ∙ same_step r x y (number xs) (number ys)

pub number_eq : (xs ys : List Bool) → length ys ≡ length xs → same_bits true xs ys ≡ (number xs == number ys)
number_eq xs ys h = number_same true xs ys h

any_step : (r x : Bool) (m : ℕ) → ((r || x) || not (m == 0)) ≡ (r || not (bit x + 2 * m == 0))
any_step true x m = refl
any_step false true m = sym (ap not (ne_eqb (1 + 2 * m) 0 (λ h. omega arith)))
any_step false false m = ap not (eq_eq m 0 (0 + 2 * m) 0 (λ h. omega arith) (λ h. omega arith))

number_any : (r : Bool) (xs : List Bool) → any_bit r xs ≡ (r || not (number xs == 0))
number_any true [] = refl
number_any false [] = refl
number_any r (x ∷ xs) = number_any (r || x) xs ∙ any_step r x (number xs)

pub number_nonzero : (xs : List Bool) → any_bit false xs ≡ not (number xs == 0)
number_nonzero xs = number_any false xs
