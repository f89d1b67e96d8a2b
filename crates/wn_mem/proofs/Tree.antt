-- Words by the bits of an address, the highest first.
use Rattle.std.specs.Prelude.{◌≡◌, refl, ℕ, zero, suc, ◌+◌, ◌-◌, ◌*◌, ◌/◌, ◌%◌, ◌<◌, ◌≤◌, ◌^◌, ◌==◌, nat_lt, min}
use Rattle.std.specs.Prelude.{Bool, true, false, if◌then◌else◌, List, [], ◌∷◌, ◌++◌, length, take, drop}
use Rattle.std.specs.Prelude.{slice_index_or, slice_get, slice_set, Some}
use Rattle.std.specs.List.{AllByRecursion}
use Rattle.std.proofs.Common.{ap, sym, ◌∙◌, arith, subst, add-one}
use Rattle.std.proofs.lemmas.Bool.Decides.{nat_tests}
use Rattle.std.proofs.lemmas.List.{get_or-take, get_or-drop, get_or_past, take_all, take_more_set, map_push, take-map}
use Rattle.std.proofs.lemmas.List.{drop-map, length-map, length_push, length-drop}
use Rattle.std.proofs.lemmas.Nat.{pow_pos, mod_below, shr-shr, div-add-mod', mod-mul-add}
use Rattle.std.proofs.Math.Nat.{mod-eq_of_lt, mul-le-mul_right}
use Rattle.std.proofs.Math.Pow.{pow_mono}
use Rattle.fv_text.specs.declared.word.Word.{Word}
use Rattle.fv_text.specs.Word.{number}
use Rattle.fv_bits.specs.Bits.{low, part, bit}
use Rattle.fv_bits.proofs.Limits.{none_left, left_of_fits}
use Rattle.wn_net.specs.declared.node.Node.{Node}
use Rattle.wn_net.specs.declared.node.Node.TheVariants as n
use Rattle.wn_net.specs.Value.{Given, word_at}
use Rattle.wn_net.specs.Net.{Netlist, IsNet, IsNode, IsNodeOf, AreNodesOf, width_at, value_at}
use Rattle.wn_net.specs.Given.{IsGiven}
use Rattle.wn_net.specs.Changes.{AddsNodes}
use Rattle.wn_net.proofs.Laws.{value_on, there_on, nodes_on}
use Rattle.wn_net.proofs.Moved.{value_within, value_below}
use Rattle.wn_run.proofs.Own.{each_value}
use Rattle.wn_mem.specs.Words.{numbers_of, number_of, IsZero}

-- the first words at a place
below : (xs : List ℕ) (first m : ℕ) → (first ≤ m → length xs ≤ first) → word_at (take first xs) m ≡ word_at xs m
below xs first m past = by (nat_lt m first) refl
  where
    by : (b : Bool) → nat_lt m first ≡ b → word_at (take first xs) m ≡ word_at xs m
    by true e = get_or-take first xs m 0 (grind (arith, nat_tests, e))
    by false e = ap (λ ys. word_at ys m) (take_all first xs (past (grind (arith, nat_tests, e))))

-- the words behind them
above : (xs : List ℕ) (h first m : ℕ) → first ≤ h → (first < h → length xs ≤ first)
    → word_at (drop first xs) m ≡ word_at xs (1 * h + m)
above xs h first m within past = by (nat_lt first h) refl
  where
    by : (b : Bool) → nat_lt first h ≡ b → word_at (drop first xs) m ≡ word_at xs (1 * h + m)
    by false e =
        let same : first + m ≡ 1 * h + m = grind (arith, nat_tests, e) in
        get_or-drop first xs m 0 ∙ ap (word_at xs) same
    by true e =
        let short : length xs ≤ first = past (grind (arith, nat_tests, e)) in
        get_or-drop first xs m 0 ∙ get_or_past xs (first + m) 0 (omega (arith, short))
        ∙ sym (get_or_past xs (1 * h + m) 0 (omega (arith, short, within)))

-- the highest bit says in which half a word is; a half may be shorter
pub halved : (xs : List ℕ) (h first b m : ℕ) → first ≤ h → first ≤ length xs → (first < h → length xs ≤ first)
    → b < 2 → m < h
    → word_at xs (b * h + m) ≡ (if b == 1 then word_at (drop first xs) m else word_at (take first xs) m)
halved xs h first zero m within most past small less =
    let e : 0 * h + m ≡ m = omega arith in
    ap (word_at xs) e ∙ sym (below xs first m (λ k. past (omega (arith, k, less))))
halved xs h first (suc zero) m within most past small less = sym (above xs h first m within past)
halved xs h first (suc (suc b)) m within most past small less = absurd (omega arith)

twice : (k : ℕ) → 2 ^ suc k ≡ 2 * 2 ^ k
twice k = omega arith

more : (k : ℕ) → 2 ^ (k + 1) ≡ 2 * 2 ^ k
more k = ap (λ j. 2 ^ j) (add-one k) ∙ twice k

pub number_below : (bs : List ℕ) → AllByRecursion (λ b. b < 2) bs → number_of bs < 2 ^ length bs
number_below [] h = omega arith
number_below (zero ∷ bs) h =
    let e : 2 ^ length (zero ∷ bs) ≡ 2 * 2 ^ length bs = twice (length bs) in omega (arith, e, number_below bs h.1)
number_below (suc zero ∷ bs) h =
    let e : 2 ^ length (suc zero ∷ bs) ≡ 2 * 2 ^ length bs = twice (length bs) in omega (arith, e, number_below bs h.1)
number_below (suc (suc b) ∷ bs) h = absurd (omega (arith, h.0))

pub bits_below : (net : Netlist) (g : Given) (ids : List ℕ) → IsNet net → IsGiven net g → AreNodesOf net 1 ids
    → AllByRecursion (λ b. b < 2) (numbers_of net g ids)
bits_below net g [] whole given own = tt
bits_below net g (id ∷ ids) whole given own =
    let small : value_at net g id < 2 ^ 1 = value_within net g 1 id whole given own.0 in
    (omega (arith, small), bits_below net g ids whole given own.1)

pub numbers_on : (old new : Netlist) (w : ℕ) (g : Given) (ids : List ℕ) → AddsNodes old new → AreNodesOf old w ids
    → numbers_of new g ids ≡ numbers_of old g ids
numbers_on old new w g [] h own = refl
numbers_on old new w g (id ∷ ids) h own =
    (λ i. value_on old new g id h own.0.0 i ∷ numbers_on old new w g ids h own.1 i)

pub first_nodes : (net : Netlist) (w k : ℕ) (ids : List ℕ) → AreNodesOf net w ids → AreNodesOf net w (take k ids)
first_nodes net w zero ids own = tt
first_nodes net w (suc k) [] own = tt
first_nodes net w (suc k) (id ∷ ids) own = (own.0, first_nodes net w k ids own.1)

pub last_nodes : (net : Netlist) (w k : ℕ) (ids : List ℕ) → AreNodesOf net w ids → AreNodesOf net w (drop k ids)
last_nodes net w zero ids own = own
last_nodes net w (suc k) [] own = tt
last_nodes net w (suc k) (id ∷ ids) own = last_nodes net w k ids own.1

pub zero_on : (old new : Netlist) (id : ℕ) → AddsNodes old new → IsZero old id → IsZero new id
zero_on old new id h z = record {
  there = there_on old new id h z.there;
  value = λ g. value_on old new g id h z.there ∙ z.value g;
}

-- the words at two halves of the bits, where each place of the bits has so many words
pub among_value : (old one two new : Netlist) (g : Given) (words bits : List ℕ) (w top : ℕ)
    (rest front back : List ℕ) (half low high found s n : ℕ)
    → front ≡ take half words → back ≡ drop half words → IsNet old → IsGiven old g → bits ≡ top ∷ rest
    → AreNodesOf old 1 bits → AreNodesOf old w words
    → half ≤ 2 ^ length rest * s → half ≤ length words → (half < 2 ^ length rest * s → length words ≤ half) → n < s
    → AddsNodes old one → AddsNodes one two → IsNode one low
    → value_at one g low ≡ word_at (numbers_of old g front) (number_of (numbers_of old g rest) * s + n)
    → value_at two g high ≡ word_at (numbers_of one g back) (number_of (numbers_of one g rest) * s + n)
    → value_at new g found ≡ (if value_at two g top == 1 then value_at two g high else value_at two g low)
    → value_at new g found ≡ word_at (numbers_of old g words) (number_of (numbers_of old g bits) * s + n)
among_value old one two new g words bits w top rest front back half low high found s n front_is back_is whole given
    split own words_own within most past few first second low_own low_is high_is found_is =
    let nums = numbers_of old g words in
    let p = 2 ^ length rest in
    let h = p * s in
    let P : List ℕ → Type 0 = λ ids. AreNodesOf old 1 ids in
    let both : AreNodesOf old 1 (top ∷ rest) = subst P split own in
    let k = number_of (numbers_of old g rest) in
    let m = k * s + n in
    let b = value_at old g top in
    let small : b < 2 ^ 1 = value_within old g 1 top whole given both.0 in
    let less0 = number_below (numbers_of old g rest) (bits_below old g rest whole given both.1) in
    let less1 : k + 1 ≤ p = omega (arith, less0, ap (λ j. 2 ^ j) (length-map rest (value_at old g))) in
    let less2 : (k + 1) * s ≤ p * s = mul-le-mul_right s less1 in
    let less : m < h = omega (arith, less2, few) in
    let top_is : value_at two g top ≡ b = value_on one two g top second (there_on old one top first both.0.0)
    ∙ value_on old one g top first both.0.0 in
    let low_now : value_at two g low ≡ word_at (take half nums) m =
    value_on one two g low second low_own ∙ low_is ∙ ap (λ ids. word_at (numbers_of old g ids) m) front_is
    ∙ ap (λ xs. word_at xs m) (sym (take-map (value_at old g) half words)) in
    let high_now : value_at two g high ≡ word_at (drop half nums) m =
    high_is ∙ ap (λ ids. word_at (numbers_of one g ids) (number_of (numbers_of one g rest) * s + n)) back_is
    ∙ (λ i. word_at (numbers_on old one w g (drop half words) first (last_nodes old w half words words_own) i)
    (number_of (numbers_on old one 1 g rest first both.1 i) * s + n))
    ∙ ap (λ xs. word_at xs m) (sym (drop-map (value_at old g) half words)) in
    let e : b * h + m ≡ (b * p + k) * s + n = omega arith in
    found_is
    ∙ (λ i. if top_is i == 1 then high_now i else low_now i)
    ∙ sym (halved nums h half b m within (omega (arith, most, length-map words (value_at old g)))
    (λ j. omega (arith, past j, length-map words (value_at old g))) (omega (arith, small)) less)
    ∙ ap (word_at nums) e
    ∙ ap (λ j. word_at nums ((b * 2 ^ j + k) * s + n)) (sym (length-map rest (value_at old g)))
    ∙ ap (λ ids. word_at nums (number_of (numbers_of old g ids) * s + n)) (sym split)

-- ---- the bits of an address

pub number_push : (bs : List ℕ) (b : ℕ) → number_of (bs ++ b ∷ []) ≡ number_of bs * 2 + b
number_push [] b = omega arith
number_push (c ∷ bs) b =
    let p = 2 ^ length bs in
    let e : 2 ^ length (bs ++ b ∷ []) ≡ 2 * p = ap (λ k. 2 ^ k) (length_push bs b) ∙ more (length bs) in
    let f : c * 2 ^ length (bs ++ b ∷ []) ≡ c * (2 * p) = ap (λ x. c * x) e in
    let g : c * (2 * p) ≡ c * p * 2 = omega arith in
    omega (arith, number_push bs b, f, g)

low_next : (w i : ℕ) → w / 2 % 2 ^ i * 2 + w % 2 ≡ w % 2 ^ (i + 1)
low_next w i =
    let p = 2 ^ i in
    let r = w / 2 % p in
    let q = w / 2 / p in
    let few : r * 2 + w % 2 < 2 * p = omega (arith, mod_below (w / 2) p (pow_pos i)) in
    let whole : w ≡ q * (2 * p) + (r * 2 + w % 2) = omega (arith, div-add-mod' (w / 2) p) in
    let whole_again : 2 * p ≡ 2 ^ (i + 1) = sym (more i) in
    sym (mod-mul-add q (2 * p) (r * 2 + w % 2) few) ∙ ap (λ n. n % (2 * p)) (sym whole) ∙ ap (λ d. w % d) whole_again

-- one more bit
pub bits_next : (v count i b n : ℕ) → i < count → b ≡ v / 2 ^ (count - 1 - i) % 2 → n ≡ v / 2 ^ (count - i) % 2 ^ i
    → n * 2 + b ≡ v / 2 ^ (count - (i + 1)) % 2 ^ (i + 1)
bits_next v count i b n below b_is n_is =
    let k = count - 1 - i in
    let e : count - i ≡ k + 1 = omega arith in
    let f : count - (i + 1) ≡ k = omega arith in
    let halves : v / 2 ^ (k + 1) ≡ v / 2 ^ k / 2 = sym (shr-shr v k 1) in
    (λ j. n_is j * 2 + b_is j)
    ∙ ap (λ c. v / 2 ^ c % 2 ^ i * 2 + v / 2 ^ k % 2) e
    ∙ ap (λ x. x % 2 ^ i * 2 + v / 2 ^ k % 2) halves
    ∙ low_next (v / 2 ^ k) i
    ∙ ap (λ c. v / 2 ^ c % 2 ^ (i + 1)) (sym f)

pub push_node : (net : Netlist) (w : ℕ) (ids : List ℕ) (id : ℕ) → AreNodesOf net w ids → IsNodeOf net w id
    → AreNodesOf net w (ids ++ id ∷ [])
push_node net w [] id h k = (k, tt)
push_node net w (x ∷ xs) id h k = (h.0, push_node net w xs id h.1 k)

-- one more bit of the address
pub next_bit : (old now new : Netlist) (g : Given) (bits : List ℕ) (addr count i bit : ℕ) → AddsNodes old now
    → AddsNodes now new → IsNode old addr
    → AreNodesOf now 1 (take i bits) → i < length bits → i < count
    → number_of (numbers_of now g (take i bits)) ≡ value_at old g addr / 2 ^ (count - i) % 2 ^ i
    → value_at new g bit ≡ part (count - 1 - i) 1 (value_at now g addr)
    → number_of (numbers_of new g (take (i + 1) (slice_set bits i bit)))
    ≡ value_at old g addr / 2 ^ (count - (i + 1)) % 2 ^ (i + 1)
next_bit old now new g bits addr count i bit first second there own room below so_far is =
    ap (λ ids. number_of (numbers_of new g ids)) (take_more_set bits i bit room)
    ∙ ap number_of (map_push (value_at new g) (take i bits) bit)
    ∙ number_push (numbers_of new g (take i bits)) (value_at new g bit)
    ∙ ap (λ ns. number_of ns * 2 + value_at new g bit) (numbers_on now new 1 g (take i bits) second own)
    ∙ bits_next (value_at old g addr) count i (value_at new g bit) (number_of (numbers_of now g (take i bits))) below
    (is ∙ ap (λ v. part (count - 1 - i) 1 v) (value_on old now g addr first there)) so_far

-- a constant's value
pub constant_value : (net : Netlist) (g : Given) (nodes : List Node) (id : ℕ) (word : Word) (d : Node) → IsNet net
    → nodes ≡ net.nodes
    → id < length net.nodes → slice_index_or nodes id d ≡ n.Konst word → value_at net g id ≡ number word
constant_value net g nodes id word d whole nodes_are below read =
    let P : List Node → Type 0 = λ xs. slice_get xs id ≡ Some (n.Konst word) in
    each_value net g id (n.Konst word) whole
    (subst P nodes_are (found nodes id d (n.Konst word) (omega (arith, ap length nodes_are, below)) read))
  where
    found : (xs : List Node) (i : ℕ) (y z : Node) → i < length xs → slice_index_or xs i y ≡ z → slice_get xs i ≡ Some z
    found [] i y z h e = absurd (omega arith)
    found (u ∷ us) zero y z h e = ap Some e
    found (u ∷ us) (suc i) y z h e = found us i y z (omega arith) e

pub bit_is_one : (b : Bool) (x y : ℕ) → (if bit b == 1 then x else y) ≡ (if b then x else y)
bit_is_one true x y = refl
bit_is_one false x y = refl

-- an address that has no bits from `count` on
pub narrow : (net : Netlist) (g : Given) (addr count x : ℕ) → IsNet net → IsGiven net g → width_at net addr ≤ count
    → x ≡ (if value_at net g addr / 2 ^ count == 0 then x else 0)
narrow net g addr count x whole given few =
    let v = value_at net g addr in
    let p : 2 ^ width_at net addr ≤ 2 ^ count = pow_mono few in
    let none : v / 2 ^ count ≡ 0 = left_of_fits v count (omega (arith, value_below net g whole given addr, p)) in
    ap (λ q. if q == 0 then x else 0) (sym none)

pub address_fits : (net : Netlist) (g : Given) (addr count rest : ℕ) → IsNet net → IsGiven net g
    → rest + count ≡ width_at net addr
    → value_at net g addr < 2 ^ (rest + count)
address_fits net g addr count rest whole given e =
    let P : ℕ → Type 0 = λ w. value_at net g addr < 2 ^ w in subst P (sym e) (value_below net g whole given addr)

-- ---- what is handed on to the second half

pub back_own : (old one : Netlist) (z half : ℕ) (words back : List ℕ) → AddsNodes old one → IsNode old z
    → AreNodesOf old (width_at old z) words → back ≡ drop half words → AreNodesOf one (width_at one z) back
back_own old one z half words back adds there own e =
    let P : ℕ → Type 0 = λ w. AreNodesOf one w (drop half words) in
    let Q : List ℕ → Type 0 = λ ids. AreNodesOf one (width_at one z) ids in
    subst Q (sym e) (subst P (sym (adds.keeps.widths z there))
    (nodes_on old one (width_at old z) (drop half words) adds (last_nodes old (width_at old z) half words own)))

pub rest_own : (old one : Netlist) (bits rest : List ℕ) (top : ℕ) → AddsNodes old one → bits ≡ top ∷ rest
    → AreNodesOf old 1 bits → AreNodesOf one 1 rest
rest_own old one bits rest top adds e own =
    let P : List ℕ → Type 0 = λ ids. AreNodesOf old 1 ids in
    nodes_on old one 1 rest adds (let both : AreNodesOf old 1 (top ∷ rest) = subst P e own in both.1)

pub back_short : (words back bits rest : List ℕ) (top half s : ℕ) → bits ≡ top ∷ rest
    → length words ≤ 2 ^ length bits * s → half ≡ min (length words) (2 ^ length rest * s)
    → back ≡ drop half words → length back ≤ 2 ^ length rest * s
back_short words back bits rest top half s e enough half_is back_is =
    let double : 2 ^ length bits ≡ 2 * 2 ^ length rest = ap (λ ids. 2 ^ length ids) e ∙ twice (length rest) in
    let more : 2 ^ length bits * s ≡ 2 * (2 ^ length rest * s) = ap (λ x. x * s) double ∙ (omega arith) in
    let long : length back ≡ length words - half = ap length back_is ∙ length-drop half words in
    omega (arith, more, long, enough, half_is)

-- ---- the whole tree

pub tree_word : (xs : List ℕ) (v count reached r : ℕ) → reached ≡ min (length xs) (2 ^ count)
    → (2 ^ count < length xs → v < 2 ^ count)
    → r ≡ (if v / 2 ^ count == 0 then word_at (take reached xs) (low count v) else 0) → r ≡ word_at xs v
tree_word xs v count reached r reached_is long e = e ∙ by (v / 2 ^ count == 0) refl
  where
    by : (b : Bool) → (v / 2 ^ count == 0) ≡ b
        → (if b then word_at (take reached xs) (low count v) else 0) ≡ word_at xs v
    by true t =
        let none : v / 2 ^ count ≡ 0 = grind (arith, nat_tests, t) in
        let fits : v < 2 ^ count = none_left v count none in
        ap (word_at (take reached xs)) (mod-eq_of_lt fits)
        ∙ below xs reached v (λ k. omega (arith, reached_is, fits, k))
    by false t =
        let some : v / 2 ^ count ≡ 0 → ⊥ = grind (arith, nat_tests, t) in
        sym (get_or_past xs v 0 (over some (nat_lt v (2 ^ count)) refl (nat_lt (2 ^ count) (length xs)) refl))
      where
        over : (v / 2 ^ count ≡ 0 → ⊥) → (b : Bool) → nat_lt v (2 ^ count) ≡ b → (d : Bool)
            → nat_lt (2 ^ count) (length xs) ≡ d → length xs ≤ v
        over some true t d u =
            absurd (some (left_of_fits v count (let less : v < 2 ^ count = grind (arith, nat_tests, t) in less)))
        over some false t true u =
            let more : 2 ^ count < length xs = grind (arith, nat_tests, u) in
            absurd (some (left_of_fits v count (long more)))
        over some false t false u =
            let most : length xs ≤ 2 ^ count = grind (arith, nat_tests, u) in
            let past : 2 ^ count ≤ v = grind (arith, nat_tests, t) in
            omega (arith, most, past)

pub tree_value : (old two new : Netlist) (g : Given) (words front : List ℕ)
    (w addr count reached found chosen : ℕ) → IsNet old → IsGiven old g
    → AddsNodes old two → IsNode old addr → AreNodesOf old w words → front ≡ take reached words
    → reached ≡ min (length words) (2 ^ count) → (2 ^ count < length words → width_at old addr ≤ count)
    → value_at two g found ≡ word_at (numbers_of old g front) (low count (value_at old g addr))
    → value_at new g chosen ≡ (if value_at two g addr / 2 ^ count == 0 then value_at two g found else 0)
    → value_at new g chosen ≡ word_at (numbers_of old g words) (value_at old g addr)
tree_value old two new g words front w addr count reached found chosen whole given adds there own front_is reached_is
    narrow_if found_is chosen_is =
    let nums = numbers_of old g words in
    let v = value_at old g addr in
    let long : length nums ≡ length words = length-map words (value_at old g) in
    let addr_is : value_at two g addr ≡ v = value_on old two g addr adds there in
    let front_are : numbers_of old g front ≡ take reached nums =
    ap (numbers_of old g) front_is ∙ sym (take-map (value_at old g) reached words) in
    let found_now : value_at two g found ≡ word_at (take reached nums) (low count v) =
    found_is ∙ (λ i. word_at (front_are i) (low count v)) in
    tree_word nums v count reached (value_at new g chosen) (reached_is ∙ ap (λ k. min k (2 ^ count)) (sym long))
    (λ more.
    let few : width_at old addr ≤ count = narrow_if (omega (arith, more, long)) in
    let p : 2 ^ width_at old addr ≤ 2 ^ count = pow_mono few in
    omega (arith, value_below old g whole given addr, p))
    (chosen_is ∙ (λ i. if addr_is i / 2 ^ count == 0 then found_now i else 0))

-- where the bits don't tell all words apart they are all of the address
pub all_bits : (k w count words : ℕ) → count ≡ min k w → words ≤ 2 ^ k → 2 ^ count < words → w ≤ count
all_bits k w count words e enough more = by (nat_lt w k) refl
  where
    by : (b : Bool) → nat_lt w k ≡ b → w ≤ count
    by true t = let less : w < k = grind (arith, nat_tests, t) in omega (arith, e, less)
    by false t =
        let most : k ≤ w = grind (arith, nat_tests, t) in
        let same : count ≡ k = omega (arith, e, most) in
        absurd (omega (arith, enough, more, ap (λ j. 2 ^ j) same))
