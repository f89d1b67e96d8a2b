-- Runs of bytes.
use Rattle.std.proofs.Common.{◌≡◌, ℕ, ◌+◌, ◌≤◌, Bool, true, false, cond, List, [], ◌∷◌, ◌++◌, length, take, drop, suc}
use Rattle.std.proofs.Common.{refl, ap, subst, arith, length-append}
use Rattle.std.specs.List.{prefix_len, list_all}
use Rattle.std.proofs.Math.Seq.{take-append_seam, drop-append_seam}
use Rattle.std.proofs.lemmas.List.Sums.{prefix_len-le-length}
use Rattle.std.proofs.lemmas.Bool.{and_parts, and_from}
use Rattle.vl_token.specs.Bytes.{run, behind, first_is}
use Rattle.vl_token.specs.Numeral.{is_digit, goes_on}
use Rattle.vl_token.specs.Cut.{digits_front, digits_rest}

take_step : (b : Bool) (x : ℕ) (n : ℕ) (xs ys : List ℕ) → take n xs ≡ ys
    → take (cond b (1 + n) 0) (x ∷ xs) ≡ cond b (x ∷ ys) []
take_step true x n xs ys h = let e : 1 + n ≡ suc n = omega arith in rw e (ap (λ zs. x ∷ zs) h)
take_step false x n xs ys h = refl

drop_step : (b : Bool) (x : ℕ) (n : ℕ) (xs ys : List ℕ) → drop n xs ≡ ys
    → drop (cond b (1 + n) 0) (x ∷ xs) ≡ cond b ys (x ∷ xs)
drop_step true x n xs ys h = let e : 1 + n ≡ suc n = omega arith in rw e h
drop_step false x n xs ys h = refl

pub take-prefix_len : (p : ℕ → Bool) (xs : List ℕ) → take (prefix_len p xs) xs ≡ run p xs
take-prefix_len p [] = refl
take-prefix_len p (x ∷ xs) = take_step (p x) x (prefix_len p xs) xs (run p xs) (take-prefix_len p xs)

pub drop-prefix_len : (p : ℕ → Bool) (xs : List ℕ) → drop (prefix_len p xs) xs ≡ behind p xs
drop-prefix_len p [] = refl
drop-prefix_len p (x ∷ xs) = drop_step (p x) x (prefix_len p xs) xs (behind p xs) (drop-prefix_len p xs)

pub prefix_fits : (p : ℕ → Bool) (xs : List ℕ) → prefix_len p xs ≤ length xs
prefix_fits p xs = prefix_len-le-length p xs

pub ruleset splits = (take-prefix_len, drop-prefix_len, prefix_fits)

-- a run and what stands behind it
join_step : (b : Bool) (x : ℕ) (xs ys zs : List ℕ) → ys ++ zs ≡ xs → cond b (x ∷ ys) [] ++ cond b zs (x ∷ xs) ≡ x ∷ xs
join_step true x xs ys zs h = ap (λ ws. x ∷ ws) h
join_step false x xs ys zs h = refl

pub run-behind : (p : ℕ → Bool) (xs : List ℕ) → run p xs ++ behind p xs ≡ xs
run-behind p [] = refl
run-behind p (x ∷ xs) = join_step (p x) x xs (run p xs) (behind p xs) (run-behind p xs)

all_step : (p : ℕ → Bool) (b : Bool) (x : ℕ) (ys : List ℕ) → p x ≡ b → list_all p ys ≡ true
    → list_all p (cond b (x ∷ ys) []) ≡ true
all_step p true x ys e h = and_from (p x) (list_all p ys) e h
all_step p false x ys e h = refl

pub run_all : (p : ℕ → Bool) (xs : List ℕ) → list_all p (run p xs) ≡ true
run_all p [] = refl
run_all p (x ∷ xs) = all_step p (p x) x (run p xs) refl (run_all p xs)

stop_step : (p : ℕ → Bool) (b : Bool) (x : ℕ) (xs ys : List ℕ) → p x ≡ b → first_is p ys ≡ false
    → first_is p (cond b ys (x ∷ xs)) ≡ false
stop_step p true x xs ys e h = h
stop_step p false x xs ys e h = e

pub behind_stops : (p : ℕ → Bool) (xs : List ℕ) → first_is p (behind p xs) ≡ false
behind_stops p [] = refl
behind_stops p (x ∷ xs) = stop_step p (p x) x xs (behind p xs) refl (behind_stops p xs)

-- such a run is all of it
run_none : (p : ℕ → Bool) (rest : List ℕ) → first_is p rest ≡ false → run p rest ≡ []
run_none p [] h = refl
run_none p (x ∷ xs) h = rw h refl

behind_none : (p : ℕ → Bool) (rest : List ℕ) → first_is p rest ≡ false → behind p rest ≡ rest
behind_none p [] h = refl
behind_none p (x ∷ xs) h = rw h refl

pub run_is : (p : ℕ → Bool) (xs rest : List ℕ) → list_all p xs ≡ true → first_is p rest ≡ false
    → run p (xs ++ rest) ≡ xs
run_is p [] rest all stops = run_none p rest stops
run_is p (x ∷ xs) rest all stops =
    let both = and_parts (p x) (list_all p xs) all in rw both.0 (ap (λ ys. x ∷ ys) (run_is p xs rest both.1 stops))

pub behind_is : (p : ℕ → Bool) (xs rest : List ℕ) → list_all p xs ≡ true → first_is p rest ≡ false
    → behind p (xs ++ rest) ≡ rest
behind_is p [] rest all stops = behind_none p rest stops
behind_is p (x ∷ xs) rest all stops =
    let both = and_parts (p x) (list_all p xs) all in rw both.0 (behind_is p xs rest both.1 stops)

-- a split by a length
pub take_seam : (xs front rest : List ℕ) → front ++ rest ≡ xs → take (length front) xs ≡ front
take_seam xs front rest e = subst (λ ys. take (length front) ys ≡ front) e (take-append_seam front rest)

pub drop_seam : (xs front rest : List ℕ) → front ++ rest ≡ xs → drop (length front) xs ≡ rest
drop_seam xs front rest e = subst (λ ys. drop (length front) ys ≡ rest) e (drop-append_seam front rest)

pub length_seam : (xs front rest : List ℕ) → front ++ rest ≡ xs → length front ≤ length xs
length_seam xs front rest e = subst (λ ys. length front ≤ length ys) e (omega (arith, length-append front rest))

digits_step : (b : Bool) (x : ℕ) (xs ys zs : List ℕ) → ys ++ zs ≡ xs → cond b (x ∷ ys) [] ++ cond b zs (x ∷ xs) ≡ x ∷ xs
digits_step true x xs ys zs h = ap (λ ws. x ∷ ws) h
digits_step false x xs ys zs h = refl

pub digits_join : (base : ℕ) (xs : List ℕ) → digits_front base xs ++ digits_rest base xs ≡ xs
digits_join base [] = refl
digits_join base (x ∷ xs) =
    digits_step (is_digit x) x xs (run (goes_on base) xs) (behind (goes_on base) xs) (run-behind (goes_on base) xs)

pub take_digits : (base : ℕ) (xs : List ℕ) → take (length (digits_front base xs)) xs ≡ digits_front base xs
take_digits base xs = take_seam xs (digits_front base xs) (digits_rest base xs) (digits_join base xs)

pub drop_digits : (base : ℕ) (xs : List ℕ) → drop (length (digits_front base xs)) xs ≡ digits_rest base xs
drop_digits base xs = drop_seam xs (digits_front base xs) (digits_rest base xs) (digits_join base xs)

pub digits_fit : (base : ℕ) (xs : List ℕ) → length (digits_front base xs) ≤ length xs
digits_fit base xs = length_seam xs (digits_front base xs) (digits_rest base xs) (digits_join base xs)

pub ruleset digit_splits = (take_digits, drop_digits, digits_fit)
