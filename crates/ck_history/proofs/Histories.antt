-- What a history shows in a run.
use Rattle.std.specs.Prelude.{◌≡◌, refl, ℕ, zero, suc, ◌+◌, ◌*◌, ◌<◌, ◌≤◌, List, [], ◌∷◌, ◌++◌, length, take, drop}
use Rattle.std.specs.Prelude.{slice_index}
use Rattle.std.proofs.Common.{ap, sym, ◌∙◌, arith, subst}
use Rattle.wn_net.specs.declared.parts.State.{State}
use Rattle.wn_net.specs.Net.{Netlist, value_at}
use Rattle.wn_run.specs.Runs.{cycle_at}
use Rattle.ck_history.specs.Entries.{Entry, Show}
use Rattle.ck_history.specs.Lines.{IsBehind, IsHistory, past}
use Rattle.ck_history.proofs.Entries.{show_append}

-- one cycle later the next nodes show the same
shifted : (net : Netlist) (inputs : ℕ → List ℕ) (start : State) (k : ℕ) (ids later : List ℕ) (es : List Entry)
    → length later ≡ length ids
    → ((i : ℕ) → i < length ids → IsBehind net (slice_index ids i) (slice_index later i))
    → Show net (cycle_at net inputs start k) ids es → Show net (cycle_at net inputs start (suc k)) later es
shifted net inputs start k [] [] [] long behind show = tt
shifted net inputs start k (id ∷ ids) (x ∷ xs) (e ∷ es) long behind show = (
  behind 0 (omega arith) inputs start k ∙ show.0,
  show.1,
  shifted net inputs start k ids xs es (omega (arith, long)) (λ i below. behind (suc i) (omega (arith, below))) show.2,
)
shifted net inputs start k [] (x ∷ xs) es long behind show = absurd (omega (arith, long))
shifted net inputs start k (id ∷ ids) [] es long behind show = absurd (omega (arith, long))
shifted net inputs start k [] [] (e ∷ es) long behind show = absurd show
shifted net inputs start k (id ∷ ids) (x ∷ xs) [] long behind show = absurd show

at_first : (n : ℕ) (xs : List ℕ) (i : ℕ) → i < length (take n xs) → slice_index (take n xs) i ≡ slice_index xs i
at_first zero xs i below = absurd (omega (arith, below))
at_first (suc n) [] i below = refl
at_first (suc n) (x ∷ xs) zero below = refl
at_first (suc n) (x ∷ xs) (suc i) below = at_first n xs i (omega (arith, below))

at_last : (n : ℕ) (xs : List ℕ) (i : ℕ) → slice_index (drop n xs) i ≡ slice_index xs (i + n)
at_last zero xs i = let e : i ≡ i + 0 = omega arith in ap (slice_index xs) e
at_last (suc n) [] i = refl
at_last (suc n) (x ∷ xs) i = let e : i + suc n ≡ suc (i + n) = omega arith in
    at_last n xs i ∙ sym (ap (slice_index (x ∷ xs)) e)

take_first : (m n : ℕ) (xs : List ℕ) → m ≤ n → take m (take n xs) ≡ take m xs
take_first zero n xs h = refl
take_first (suc m) zero xs h = absurd (omega (arith, h))
take_first (suc m) (suc n) [] h = refl
take_first (suc m) (suc n) (x ∷ xs) h = ap (λ ys. x ∷ ys) (take_first m n xs (omega (arith, h)))

long_first : (n : ℕ) (xs : List ℕ) → n ≤ length xs → length (take n xs) ≡ n
long_first zero xs h = refl
long_first (suc n) [] h = absurd (omega (arith, h))
long_first (suc n) (x ∷ xs) h = ap suc (long_first n xs (omega (arith, h)))

long_last : (n m : ℕ) (xs : List ℕ) → length xs ≡ n + m → length (drop n xs) ≡ m
long_last zero m xs h = omega (arith, h)
long_last (suc n) m [] h = absurd (omega (arith, h))
long_last (suc n) m (x ∷ xs) h = long_last n m xs (omega (arith, h))

parts : (n : ℕ) (xs : List ℕ) → take n xs ++ drop n xs ≡ xs
parts zero xs = refl
parts (suc n) [] = refl
parts (suc n) (x ∷ xs) = ap (λ ys. x ∷ ys) (parts n xs)

whole : (n : ℕ) (xs : List ℕ) → length xs ≡ n → take n xs ≡ xs
whole zero [] h = refl
whole zero (x ∷ xs) h = absurd (omega (arith, h))
whole (suc n) [] h = refl
whole (suc n) (x ∷ xs) h = ap (λ ys. x ∷ ys) (whole n xs (omega (arith, h)))

history_first : (net : Netlist) (each m : ℕ) (ids : List ℕ) → IsHistory net each ids → m ≤ length ids
    → IsHistory net each (take m ids)
history_first net each m ids h within i below =
    let P : ℕ → Type 0 = λ a. IsBehind net a (slice_index (take m ids) (i + each)) in
    let Q : ℕ → Type 0 = λ b. IsBehind net (slice_index ids i) b in
    subst P (sym (at_first m ids i (omega (arith, below))))
    (subst Q (sym (at_first m ids (i + each) below))
    (h i (omega (arith, below, long_first m ids within, within))))

-- In the last of so many cycles behind the first one a history shows the entries of all of them, the last ones first.
pub history_shows : (net : Netlist) (inputs : ℕ → List ℕ) (start : State) (entries : ℕ → List Entry)
    (words ids : List ℕ) (first count : ℕ)
    → ((k : ℕ) → Show net (cycle_at net inputs start k) words (entries k))
    → length ids ≡ length words * (count + 1) → take (length words) ids ≡ words → IsHistory net (length words) ids
    → Show net (cycle_at net inputs start (first + count)) ids (past entries first (count + 1))
history_shows net inputs start entries words ids first zero now long front behind =
    let n = length words in
    let P : List ℕ → Type 0 = λ xs. Show net (cycle_at net inputs start (first + 0)) xs (past entries first 1) in
    let Q : List Entry → Type 0 = λ es. Show net (cycle_at net inputs start (first + 0)) words es in
    let e : length ids ≡ n = omega (arith, long) in
    subst P (sym front ∙ whole n ids e) (subst Q (sym (no_more (entries (first + 0)))) (now (first + 0)))
  where
    no_more : (es : List Entry) → es ++ [] ≡ es
    no_more [] = refl
    no_more (x ∷ xs) = ap (λ ys. x ∷ ys) (no_more xs)
history_shows net inputs start entries words ids first (suc count) now long front behind =
    let n = length words in
    let m = n * (count + 1) in
    let total : length ids ≡ n + m = omega (arith, long) in
    let before = take m ids in
    let later = drop n ids in
    let before_long : length before ≡ m = long_first m ids (omega (arith, total)) in
    let later_long : length later ≡ m = long_last n m ids total in
    let few : n ≤ m = omega arith in
    let earlier = history_shows net inputs start entries words before first count now before_long
    (take_first n m ids few ∙ front) (history_first net n m ids behind (omega (arith, total))) in
    let step : (i : ℕ) → i < length before → IsBehind net (slice_index before i) (slice_index later i) = (λ i below.
    let P : ℕ → Type 0 = λ a. IsBehind net a (slice_index later i) in
    let Q : ℕ → Type 0 = λ b. IsBehind net (slice_index ids i) b in
    subst P (sym (at_first m ids i below)) (subst Q (sym (at_last n ids i))
    (behind i (omega (arith, below, before_long, total))))) in
    let e : first + suc count ≡ suc (first + count) = omega arith in
    let f : suc count + 1 ≡ suc (count + 1) = omega arith in
    let g : first + (count + 1) ≡ first + suc count = omega arith in
    let rest : Show net (cycle_at net inputs start (suc (first + count))) later (past entries first (count + 1)) =
    shifted net inputs start (first + count) before later (past entries first (count + 1))
    (omega (arith, before_long, later_long)) step earlier in
    let P : ℕ → Type 0 = λ k. Show net (cycle_at net inputs start k) later (past entries first (count + 1)) in
    let Q : List ℕ → Type 0 = λ xs. Show net (cycle_at net inputs start (first + suc count)) xs
    (past entries first (suc count + 1)) in
    let R : List ℕ → Type 0 = λ xs. Show net (cycle_at net inputs start (first + suc count)) xs
    (entries (first + suc count)) in
    let S : List Entry → Type 0 = λ es. Show net (cycle_at net inputs start (first + suc count))
    (take n ids ++ later) es in
    let es : entries (first + suc count) ++ past entries first (count + 1) ≡ past entries first (suc count + 1) =
    sym (ap (past entries first) f ∙ ap (λ k. entries k ++ past entries first (count + 1)) g) in
    subst Q (parts n ids) (subst S es (show_append net (cycle_at net inputs start (first + suc count)) (take n ids)
    later (entries (first + suc count)) (past entries first (count + 1)) (subst R (sym front) (now (first + suc count)))
    (subst P (sym e) rest)))
