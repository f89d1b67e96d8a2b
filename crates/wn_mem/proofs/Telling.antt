-- Words told apart by a node each: whether a number is the place of the word.
use Rattle.std.specs.Prelude.{◌≡◌, refl, ℕ, zero, suc, ◌+◌, ◌-◌, ◌*◌, ◌/◌, ◌%◌, ◌<◌, ◌≤◌, ◌^◌, ◌==◌, Bool, true}
use Rattle.std.specs.Prelude.{false}
use Rattle.std.specs.Prelude.{if◌then◌else◌, bit_or, List, [], ◌∷◌, length, take, drop, slice_index, slice_set}
use Rattle.std.specs.Int.Bits.{or_zero_l, or_zero_r}
use Rattle.std.proofs.Common.{ap, sym, ◌∙◌, arith}
use Rattle.std.proofs.lemmas.Bool.Decides.{nat_tests}
use Rattle.std.proofs.lemmas.List.{get_or-take, get_or-set_same, get_or-set_other, take-map, drop-map, length-take-le}
use Rattle.std.proofs.lemmas.Nat.{mod-pow-add, mod_below, pow_pos}
use Rattle.std.proofs.lemmas.Nat.Bits.{bit_at-pow_same, bit_at-pow_other}
use Rattle.std.proofs.Math.Nat.{mod-eq_of_lt}
use Rattle.fv_bits.specs.Bits.{bit, low, part}
use Rattle.wn_net.specs.Value.{Given, word_at}
use Rattle.wn_net.specs.Net.{Netlist, IsNode, AreNodesOf, value_at}
use Rattle.wn_net.specs.Changes.{AddsNodes}
use Rattle.wn_net.proofs.Laws.{value_on}
use Rattle.wn_mem.specs.Words.{Tell, numbers_of, word_from}
use Rattle.wn_mem.proofs.Tree.{numbers_on, last_nodes}
use Rattle.wn_mem.proofs.After.{word_here}

-- the bit of a power is set at its exponent alone
pub bit_of_one : (v i : ℕ) → part i 1 (2 ^ v) ≡ bit (v == i)
bit_of_one v i = by (v == i) refl
  where
    by : (b : Bool) → (v == i) ≡ b → part i 1 (2 ^ v) ≡ bit b
    by true t =
        let same : v ≡ i = grind (arith, nat_tests, t) in
        (λ j. 2 ^ same j / 2 ^ i % 2) ∙ bit_at-pow_same i
    by false t =
        let other : i ≡ v → ⊥ = grind (arith, nat_tests, t) in bit_at-pow_other v i other

-- what nodes tell, in a net with more nodes
pub tell_on : (old new : Netlist) (g : Given) (marks : List ℕ) (n : ℕ) → AddsNodes old new → AreNodesOf old 1 marks
    → Tell old g marks n → Tell new g marks n
tell_on old new g marks n adds own tell = λ i below.
    value_on old new g (slice_index marks i) adds (word_here old 1 marks i (slice_index marks i) own below refl).0
    ∙ tell i below

-- one mark more
pub told_next : (old new : Netlist) (g : Given) (marks : List ℕ) (index mark n : ℕ) → AddsNodes old new
    → AreNodesOf old 1 (take index marks) → index < length marks
    → ((i : ℕ) → i < index → value_at old g (slice_index marks i) ≡ bit (n == i))
    → value_at new g mark ≡ bit (n == index)
    → (i : ℕ) → i < index + 1 → value_at new g (slice_index (slice_set marks index mark) i) ≡ bit (n == i)
told_next old new g marks index mark n adds own within so_far is i below = by (i == index) refl
  where
    by : (b : Bool) → (i == index) ≡ b
        → value_at new g (slice_index (slice_set marks index mark) i) ≡ bit (n == i)
    by true t =
        let same : i ≡ index = grind (arith, nat_tests, t) in
        ap (λ k. value_at new g (slice_index (slice_set marks index mark) k)) same
        ∙ ap (value_at new g) (get_or-set_same marks index mark 0 within)
        ∙ is ∙ ap (λ k. bit (n == k)) (sym same)
    by false t =
        let other : i ≡ index → ⊥ = grind (arith, nat_tests, t) in
        let less : i < index = grind (arith, nat_tests, t, below) in
        let read : slice_index (take index marks) i ≡ slice_index marks i = get_or-take index marks i 0 less in
        let long : length (take index marks) ≡ index = length-take-le index marks (omega (arith, within)) in
        ap (value_at new g) (get_or-set_other marks index i mark 0 other)
        ∙ value_on old new g (slice_index marks i) adds
        (word_here old 1 (take index marks) i (slice_index marks i) own (omega (arith, less, long)) (sym read)).0
        ∙ so_far i less

-- ---- the word with a number

none_from : (first n : ℕ) (ws : List ℕ) → n < first → word_from first n ws ≡ 0
none_from first n [] less = refl
none_from first n (w ∷ ws) less = by (n == first) refl (none_from (suc first) n ws (omega (arith, less)))
  where
    by : (b : Bool) → (n == first) ≡ b → word_from (suc first) n ws ≡ 0
        → (if b then w else word_from (suc first) n ws) ≡ 0
    by true t rest = absurd (grind (arith, nat_tests, t, less))
    by false t rest = rest

-- it stands in one of two parts
split_from : (k first n : ℕ) (ws : List ℕ)
    → word_from first n ws ≡ bit_or (word_from first n (take k ws)) (word_from (first + k) n (drop k ws))
split_from zero first n ws =
    let e : first + 0 ≡ first = omega arith in
    sym (or_zero_l (word_from (first + 0) n ws) ∙ ap (λ f. word_from f n ws) e)
split_from (suc k) first n [] = refl
split_from (suc k) first n (w ∷ ws) = by (n == first) refl (split_from k (suc first) n ws)
  where
    by : (b : Bool) → (n == first) ≡ b
        → word_from (suc first) n ws
        ≡ bit_or (word_from (suc first) n (take k ws)) (word_from (suc first + k) n (drop k ws))
        → (if b then w else word_from (suc first) n ws)
        ≡ bit_or (if b then w else word_from (suc first) n (take k ws)) (word_from (first + suc k) n (drop k ws))
    by true t rest =
        let same : n ≡ first = grind (arith, nat_tests, t) in
        sym (ap (bit_or w) (none_from (first + suc k) n (drop k ws) (omega (arith, same))) ∙ or_zero_r w)
    by false t rest =
        let e : suc first + k ≡ first + suc k = omega arith in
        rest ∙ ap (λ f. bit_or (word_from (suc first) n (take k ws)) (word_from f n (drop k ws))) e

-- counted from the first one it is the word at a place
pub first_from : (k first : ℕ) (ws : List ℕ) → word_from first (first + k) ws ≡ word_at ws k
first_from zero first [] = refl
first_from (suc k) first [] = refl
first_from zero first (w ∷ ws) = by (first + 0 == first) refl
  where
    by : (b : Bool) → (first + 0 == first) ≡ b
        → (if b then w else word_from (suc first) (first + 0) ws) ≡ w
    by true t = refl
    by false t = absurd (grind (arith, nat_tests, t))
first_from (suc k) first (w ∷ ws) = by (first + suc k == first) refl (first_from k (suc first) ws)
  where
    by : (b : Bool) → (first + suc k == first) ≡ b → word_from (suc first) (suc first + k) ws ≡ word_at ws k
        → (if b then w else word_from (suc first) (first + suc k) ws) ≡ word_at ws k
    by true t rest = absurd (grind (arith, nat_tests, t))
    by false t rest =
        let e : first + suc k ≡ suc first + k = omega arith in
        ap (λ n. word_from (suc first) n ws) e ∙ rest

pub first_word : (n : ℕ) (ws : List ℕ) → word_from 0 n ws ≡ word_at ws n
first_word n ws =
    let e : 0 + n ≡ n = omega arith in ap (λ k. word_from 0 k ws) (sym e) ∙ first_from n 0 ws

-- one word alone
pub one_from : (net : Netlist) (g : Given) (words : List ℕ) (first n word : ℕ) → length words ≡ 1
    → word ≡ slice_index words 0
    → (if n == first then value_at net g word else 0) ≡ word_from first n (numbers_of net g words)
one_from net g [] first n word one is = absurd (omega (arith, one))
one_from net g (w ∷ []) first n word one is = ap (λ x. if n == first then value_at net g x else 0) is
one_from net g (w ∷ v ∷ ws) first n word one is = absurd (omega (arith, one))

-- the word among two parts
pub marked_value : (old one two new : Netlist) (g : Given) (words front back : List ℕ)
    (w first n half low high found : ℕ)
    → front ≡ take half words → back ≡ drop half words → AreNodesOf old w words
    → AddsNodes old one → AddsNodes one two → IsNode one low
    → value_at one g low ≡ word_from first n (numbers_of old g front)
    → value_at two g high ≡ word_from (first + half) n (numbers_of one g back)
    → value_at new g found ≡ bit_or (value_at two g low) (value_at two g high)
    → value_at new g found ≡ word_from first n (numbers_of old g words)
marked_value old one two new g words front back w first n half low high found front_is back_is own before second
    low_own low_is high_is found_is =
    let nums = numbers_of old g words in
    let low_now : value_at two g low ≡ word_from first n (take half nums) =
    value_on one two g low second low_own ∙ low_is
    ∙ ap (λ ids. word_from first n (numbers_of old g ids)) front_is
    ∙ ap (word_from first n) (sym (take-map (value_at old g) half words)) in
    let high_now : value_at two g high ≡ word_from (first + half) n (drop half nums) =
    high_is ∙ ap (λ ids. word_from (first + half) n (numbers_of one g ids)) back_is
    ∙ ap (word_from (first + half) n)
    (numbers_on old one w g (drop half words) before (last_nodes old w half words own)
    ∙ sym (drop-map (value_at old g) half words)) in
    found_is ∙ (λ i. bit_or (low_now i) (high_now i)) ∙ sym (split_from half first n nums)

-- a number by its lowest four bits and those above
pub lowest_four : (v count : ℕ) → 4 ≤ count
    → low (count - 4) (part 4 (count - 4) v) * 16 + low 4 v ≡ low count v
lowest_four v count more =
    let k = count - 4 in
    let e : k + 4 ≡ count = omega (arith, more) in
    let twice : low k (part 4 k v) ≡ part 4 k v = mod-eq_of_lt (mod_below (v / 2 ^ 4) (2 ^ k) (pow_pos k)) in
    ap (λ x. x * 16 + low 4 v) twice
    ∙ sym (mod-pow-add v k 4)
    ∙ ap (λ c. low c v) e
