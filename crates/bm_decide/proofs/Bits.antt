-- The numbers of bits that stand one behind the other.
use Rattle.std.specs.Prelude.{◌≡◌, refl, ℕ, zero, suc, ◌+◌, ◌*◌, ◌<◌, ◌≤◌, ◌^◌, Bool, true, false, List, [], ◌∷◌, ◌++◌}
use Rattle.std.specs.Prelude.{drop, length, take}
use Rattle.std.specs.List.{AllByRecursion}
use Rattle.std.proofs.Common.{ap, sym, ◌∙◌, append_assoc, arith, get_or, subst}
use Rattle.std.specs.Int.{from_bool}
use Rattle.std.proofs.Math.Nat.{pow-le-pow_right}
use Rattle.std.proofs.lemmas.List.{append-nil, at_drop_all, at_drop_more, get_or-drop}
use Rattle.fv_bits.specs.Bits.{bit}
use Rattle.wn_net.specs.Width.{IsWidth}
use Rattle.bb_aig.specs.Bits.{number}
use Rattle.bb_aig.proofs.Numbers.{number_fits}
use Rattle.bb_blast.specs.Choice.{bits_from, numbers_from}
use Rattle.bm_decide.specs.Chosen.{bit_in}

-- ---- one number

length_left : (bits : List Bool) (i : ℕ) → i ≤ length bits → length (drop i bits) + i ≤ length bits
length_left bits zero below = omega arith
length_left [] (suc i) below = absurd (omega arith)
length_left (b ∷ bs) (suc i) below = let h = length_left bs i (omega arith) in omega arith

-- with room for one bit more, in a number of 128
pub number_small : (bits : List Bool) (i : ℕ) → length bits ≤ 128 → 0 < i → i ≤ length bits
    → number (drop i bits) < 2 ^ 127
number_small bits i few some below =
    let small = number_fits (drop i bits) in
    let less : length (drop i bits) ≤ 127 = omega (arith, length_left bits i below) in
    let high : 2 ^ length (drop i bits) ≤ 2 ^ 127 = pow-le-pow_right (omega arith) less in
    omega (arith, small, high)

pub bit_small : (b : Bool) (n : ℕ) → n ≡ from_bool b → n ≤ 1
bit_small true n e = omega (arith, e)
bit_small false n e = omega (arith, e)

-- ---- bits one behind the other

shift_bits : (x : ℕ → Bool) (k at w : ℕ) → bits_from x (k + at) w ≡ bits_from (λ i. x (k + i)) at w
shift_bits x k at zero = refl
shift_bits x k at (suc w) =
    let e : k + at + 1 ≡ k + (at + 1) = omega arith in
    ap (λ a. x (k + at) ∷ bits_from x a w) e ∙ ap (λ bs. x (k + at) ∷ bs) (shift_bits x k (at + 1) w)

shift_numbers : (x : ℕ → Bool) (k at : ℕ) (ws : List ℕ)
    → numbers_from x (k + at) ws ≡ numbers_from (λ i. x (k + i)) at ws
shift_numbers x k at [] = refl
shift_numbers x k at (w ∷ ws) =
    let e : k + at + w ≡ k + (at + w) = omega arith in
    let first = number (bits_from (λ i. x (k + i)) at w) in
    ap (λ bs. number bs ∷ numbers_from x (k + at + w) ws) (shift_bits x k at w)
    ∙ ap (λ a. first ∷ numbers_from x a ws) e ∙ ap (λ ns. first ∷ ns) (shift_numbers x k (at + w) ws)

bits_behind : (xs : List Bool) (k : ℕ) → (λ (i : ℕ). bit_in xs (k + i)) ≡ bit_in (drop k xs)
bits_behind xs k = λ p i. sym (get_or-drop k xs i false) p

none_in : (at w : ℕ) → number (bits_from (bit_in []) at w) ≡ 0
none_in at zero = refl
none_in at (suc w) = omega (arith, none_in (at + 1) w)

number_cut : (xs : List Bool) (w : ℕ) → number (bits_from (bit_in xs) 0 w) ≡ number (take w xs)
number_cut [] zero = refl
number_cut (b ∷ bs) zero = refl
number_cut [] (suc w) = none_in 0 (suc w)
number_cut (b ∷ bs) (suc w) =
    let shifted : bits_from (bit_in (b ∷ bs)) 1 w ≡ bits_from (bit_in bs) 0 w =
    shift_bits (bit_in (b ∷ bs)) 1 0 w ∙ ap (λ x. bits_from x 0 w) (bits_behind (b ∷ bs) 1) in
    ap (λ cs. bit b + 2 * number cs) shifted ∙ ap (λ n. bit b + 2 * n) (number_cut bs w)

-- ---- numbers one behind the other

pub numbers_next : (before after all : List ℕ) (rest word behind : List Bool) (i w n : ℕ) (ws : List ℕ)
    → i < length ws → w ≡ get_or ws i 0 → word ≡ take w rest → behind ≡ drop w rest → n ≡ number word
    → before ++ numbers_from (bit_in rest) 0 (drop i ws) ≡ all → after ≡ before ++ n ∷ []
    → after ++ numbers_from (bit_in behind) 0 (drop (i + 1) ws) ≡ all
numbers_next before after all rest word behind i w n ws below here is_word is_behind is own more =
    let left = drop (i + 1) ws in
    let z : 0 + w ≡ w + 0 = omega arith in
    let first : number (bits_from (bit_in rest) 0 w) ≡ n = number_cut rest w ∙ sym (is ∙ ap number is_word) in
    let second : numbers_from (bit_in rest) (0 + w) left ≡ numbers_from (bit_in behind) 0 left =
    ap (λ a. numbers_from (bit_in rest) a left) z ∙ shift_numbers (bit_in rest) w 0 left
    ∙ ap (λ x. numbers_from x 0 left) (bits_behind rest w)
    ∙ ap (λ bs. numbers_from (bit_in bs) 0 left) (sym is_behind) in
    ap (λ ns. ns ++ numbers_from (bit_in behind) 0 left) more
    ∙ append_assoc before (n ∷ []) (numbers_from (bit_in behind) 0 left)
    ∙ ap (λ ns. before ++ ns) (sym (at_drop_more (numbers_from (bit_in rest) 0) ws i 0 below
    ∙ ap (λ u. numbers_from (bit_in rest) 0 (u ∷ left)) (sym here) ∙ (λ p. first p ∷ second p)))
    ∙ own

pub numbers_end : (before all : List ℕ) (rest : List Bool) (i : ℕ) (ws : List ℕ) → length ws ≤ i
    → before ++ numbers_from (bit_in rest) 0 (drop i ws) ≡ all → before ≡ all
numbers_end before all rest i ws past own =
    sym (ap (λ ns. before ++ ns) (at_drop_all (numbers_from (bit_in rest) 0) ws i past) ∙ append-nil before) ∙ own

-- the widths behind one
pub widths_left : (ws : List ℕ) (i : ℕ) → i < length ws → AllByRecursion IsWidth (drop i ws)
    → AllByRecursion IsWidth (drop (i + 1) ws)
widths_left ws i below all =
    let own = subst (AllByRecursion IsWidth) (at_drop_more (λ vs. vs) ws i 0 below) all in
    own.1
