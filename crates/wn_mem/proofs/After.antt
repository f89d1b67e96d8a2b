-- Words after a write, by their values.
use Rattle.std.specs.Prelude.{◌≡◌, refl, ℕ, zero, suc, ◌+◌, ◌<◌, ◌≤◌, ◌^◌, ◌==◌, nat_lt, Bool, true}
use Rattle.std.specs.Prelude.{false, if◌then◌else◌, List, [], ◌∷◌, length, slice_index, slice_set}
use Rattle.std.specs.Prelude.{bit_and, bit_or, ◌&&◌, Option, None, Some, IfSome}
use Rattle.std.specs.Int.Bits.{or_zero_r, and_zero_l}
use Rattle.std.proofs.Common.{ap, sym, ◌∙◌, arith, subst}
use Rattle.std.proofs.lemmas.Bool.Decides.{nat_tests}
use Rattle.std.proofs.lemmas.List.{get_or-map, map-set}
use Rattle.std.proofs.lemmas.List.{set-get_or, set_past}
use Rattle.fv_bits.specs.Bits.{bit, complement, masked, joined}
use Rattle.wn_net.specs.Value.{Given, word_at}
use Rattle.wn_net.specs.Next.{written}
use Rattle.wn_net.specs.Net.{Netlist, IsNet, IsNode, IsNodeOf, AreNodesOf, width_at, value_at}
use Rattle.wn_net.specs.Given.{IsGiven}
use Rattle.wn_net.specs.Changes.{AddsNodes}
use Rattle.wn_net.proofs.Laws.{value_on, node_on, nodes_on, there_on}
use Rattle.wn_net.proofs.Moved.{value_within}
use Rattle.wn_net.specs.declared.parts.MemWrite.{MemWrite}
use Rattle.wn_mem.specs.Words.{AreShared, IsKept, IsRequest, ShareWrite, numbers_of}
use Rattle.wn_mem.proofs.Tree.{numbers_on}

-- ---- one word

-- a word among the words
pub word_here : (net : Netlist) (w : ℕ) (words : List ℕ) (i x : ℕ) → AreNodesOf net w words → i < length words
    → x ≡ slice_index words i
    → IsNodeOf net w x
word_here net w [] i x h below e = absurd (omega arith)
word_here net w (y ∷ ys) zero x h below e = let P : ℕ → Type 0 = λ k. IsNodeOf net w k in subst P (sym e) h.0
word_here net w (y ∷ ys) (suc i) x h below e = word_here net w ys i x h.1 (omega arith) e

-- and one put in its place
pub set_here : (net : Netlist) (w : ℕ) (words : List ℕ) (i x : ℕ) → AreNodesOf net w words → IsNodeOf net w x
    → AreNodesOf net w (slice_set words i x)
set_here net w [] i x h own = tt
set_here net w (y ∷ ys) zero x h own = (own, h.1)
set_here net w (y ∷ ys) (suc i) x h own = (h.0, set_here net w ys i x h.1 own)

set_either : (b : Bool) (xs : List ℕ) (i y : ℕ)
    → slice_set xs i (if b then y else word_at xs i) ≡ (if b then slice_set xs i y else xs)
set_either true xs i y = refl
set_either false xs i y = set-get_or xs i 0

-- the words, where one is put in its place
pub written_word : (old new : Netlist) (g : Given) (w : ℕ) (words : List ℕ) (i word after e mask number : ℕ)
    → AddsNodes old new → AreNodesOf old w words
    → i < length words → word ≡ slice_index words i
    → value_at new g after ≡ (if e == 1 then masked w mask (value_at old g word) number else value_at old g word)
    → numbers_of new g (slice_set words i after) ≡ written w (numbers_of old g words) e i mask number
written_word old new g w words i word after e mask number adds own below read after_is =
    let nums = numbers_of old g words in
    let word_is : value_at old g word ≡ word_at nums i = ap (value_at old g) read
    ∙ sym (get_or-map (value_at old g) words i 0 0 below) in
    map-set (value_at new g) words i after
    ∙ (λ j. slice_set (numbers_on old new w g words adds own j) i
    ((after_is ∙ (λ k. if e == 1 then masked w mask (word_is k) number else word_is k)) j))
    ∙ set_either (e == 1) nums i (masked w mask (word_at nums i) number)

-- ---- what the words share, in a net with more nodes

kept_there : (old new : Netlist) (w : ℕ) (k : Option ℕ) → AddsNodes old new → IfSome k (IsNodeOf old w)
    → IfSome k (IsNodeOf new w)
kept_there old new w None adds own = tt
kept_there old new w (Some k) adds own = node_on old new w k adds own

pub shared_on : (old new : Netlist) (z : ℕ) (k : Option ℕ) → AddsNodes old new → AreShared old (width_at old z) z k
    → AreShared new (width_at new z) z k
shared_on old new z k adds own =
    let P : ℕ → Type 0 = λ w. AreShared new w z k in
    subst P (sym (adds.keeps.widths z own.0.0))
    (node_on old new (width_at old z) z adds own.0, kept_there old new (width_at old z) k adds own.1)

pub words_on : (old new : Netlist) (z : ℕ) (words : List ℕ) → AddsNodes old new → IsNode old z
    → AreNodesOf old (width_at old z) words
    → AreNodesOf new (width_at new z) words
words_on old new z words adds there own =
    let P : ℕ → Type 0 = λ w. AreNodesOf new w words in
    subst P (sym (adds.keeps.widths z there)) (nodes_on old new (width_at old z) words adds own)

kept_on : (old new : Netlist) (g : Given) (w mask : ℕ) (k : Option ℕ) → AddsNodes old new
    → IfSome k (IsNodeOf old w) → IsKept old g w mask k → IsKept new g w mask k
kept_on old new g w mask None adds own is = is
kept_on old new g w mask (Some k) adds own is = value_on old new g k adds own.0 ∙ is

pub share_on : (old new : Netlist) (g : Given) (mask number z : ℕ) (k : Option ℕ) → AddsNodes old new
    → AreShared old (width_at old z) z k
    → ShareWrite old g (width_at old z) mask number z k → ShareWrite new g (width_at new z) mask number z k
share_on old new g mask number z k adds own s =
    let P : ℕ → Type 0 = λ w. ShareWrite new g w mask number z k in
    subst P (sym (adds.keeps.widths z own.0.0)) (record {
      changed_is = value_on old new g z adds own.0.0 ∙ s.changed_is;
      kept_is = kept_on old new g (width_at old z) mask k adds own.1 s.kept_is;
    })

-- a write that keeps no bits
pub changes_all : (net : Netlist) (g : Given) (w mask number word z : ℕ) (k : Option ℕ)
    → ShareWrite net g w mask number z k → k ≡ None → value_at net g z ≡ masked w mask word number
changes_all net g w mask number word z k s none =
    let P : Option ℕ → Type 0 = λ o. IsKept net g w mask o in
    let all : complement w mask ≡ 0 = subst P none s.kept_is in
    s.changed_is
    ∙ sym (or_zero_r (bit_and mask number))
    ∙ ap (bit_or (bit_and mask number)) (sym (ap (λ c. bit_and c word) all ∙ and_zero_l word))

-- the bits that a write keeps, by their node
pub kept_node : (net : Netlist) (g : Given) (w mask number z : ℕ) (o : Option ℕ) (k : ℕ)
    → ShareWrite net g w mask number z o → o ≡ Some k → value_at net g k ≡ complement w mask
kept_node net g w mask number z o k s some =
    let P : Option ℕ → Type 0 = λ x. IsKept net g w mask x in subst P some s.kept_is

-- ---- a write, one word after the other

-- past the words nothing is written
pub past : (w : ℕ) (xs : List ℕ) (e a mask n : ℕ) → length xs ≤ a → xs ≡ written w xs e a mask n
past w xs e a mask n h = by (e == 1)
  where
    by : (b : Bool) → xs ≡ (if b then slice_set xs a (masked w mask (word_at xs a) n) else xs)
    by true = sym (set_past xs a (masked w mask (word_at xs a) n) h)
    by false = refl

-- the words where those below an index are written
abbrev pub so_far : ℕ → List ℕ → ℕ → ℕ → ℕ → ℕ → ℕ → List ℕ
so_far w xs e a mask n i = if nat_lt a i then written w xs e a mask n else xs

-- before the first one
pub none_so_far : (w : ℕ) (xs : List ℕ) (e a mask n : ℕ) → xs ≡ so_far w xs e a mask n 0
none_so_far w xs e a mask n = by (nat_lt a 0) refl
  where
    by : (b : Bool) → nat_lt a 0 ≡ b → xs ≡ (if b then written w xs e a mask n else xs)
    by true t = let less : a < 0 = grind (arith, nat_tests, t) in absurd (omega (arith, less))
    by false t = refl

-- one word more
pub one_more : (w : ℕ) (xs : List ℕ) (e a mask n i : ℕ)
    → written w (so_far w xs e a mask n i) (bit (e == 1 && a == i)) i mask n ≡ so_far w xs e a mask n (suc i)
one_more w xs e a mask n i = by (nat_lt a i) refl (a == i) refl (nat_lt a (suc i)) refl (e == 1) refl
  where
    by : (b : Bool) → nat_lt a i ≡ b → (d : Bool) → (a == i) ≡ d → (f : Bool) → nat_lt a (suc i) ≡ f
        → (g : Bool) → (e == 1) ≡ g
        → written w (if b then (if g then slice_set xs a (masked w mask (word_at xs a) n) else xs) else xs)
        (bit (g && d)) i mask n
        ≡ (if f then (if g then slice_set xs a (masked w mask (word_at xs a) n) else xs) else xs)
    by true t true u f v g x = absurd (grind (arith, nat_tests, t, u))
    by true t false u true v true x = refl
    by true t false u true v false x = refl
    by true t false u false v g x = absurd (grind (arith, nat_tests, t, v))
    by false t true u true v true x =
        let same : a ≡ i = grind (arith, nat_tests, u) in
        sym (λ k. slice_set xs (same k) (masked w mask (word_at xs (same k)) n))
    by false t true u true v false x = refl
    by false t true u false v g x = absurd (grind (arith, nat_tests, u, v))
    by false t false u true v g x = absurd (grind (arith, nat_tests, t, u, v))
    by false t false u false v true x = refl
    by false t false u false v false x = refl

-- all words that the address reaches
pub all_so_far : (w : ℕ) (xs : List ℕ) (e a mask n i : ℕ) → (i < length xs → a < i)
    → so_far w xs e a mask n i ≡ written w xs e a mask n
all_so_far w xs e a mask n i reached = by (nat_lt a i) refl
  where
    by : (b : Bool) → nat_lt a i ≡ b
        → (if b then written w xs e a mask n else xs) ≡ written w xs e a mask n
    by true t = refl
    by false t = past w xs e a mask n (far (nat_lt i (length xs)) refl)
      where
        far : (b : Bool) → nat_lt i (length xs) ≡ b → length xs ≤ a
        far true u =
            let more : i < length xs = grind (arith, nat_tests, u) in
            let less : a < i = reached more in
            absurd (grind (arith, nat_tests, t, less))
        far false u = grind (arith, nat_tests, t, u)

-- ---- where a write asks

-- the bit in front of an address is that of a number with a bit there exactly where both parts are equal
pub asks_is : (count e a i : ℕ) → e < 2 → a < 2 ^ count → i < 2 ^ count
    → (joined count e a == 2 ^ count + i) ≡ (e == 1 && a == i)
asks_is count zero a i small fits less = by (joined count 0 a == 2 ^ count + i) refl
  where
    by : (b : Bool) → (joined count 0 a == 2 ^ count + i) ≡ b → b ≡ false
    by true t =
        let same : joined count 0 a ≡ 2 ^ count + i = grind (arith, nat_tests, t) in
        absurd (omega (arith, same, fits))
    by false t = refl
asks_is count (suc zero) a i small fits less = by (joined count 1 a == 2 ^ count + i) refl (a == i) refl
  where
    by : (b : Bool) → (joined count 1 a == 2 ^ count + i) ≡ b → (d : Bool) → (a == i) ≡ d → b ≡ d
    by true t true u = refl
    by false t false u = refl
    by true t false u =
        let same : joined count 1 a ≡ 2 ^ count + i = grind (arith, nat_tests, t) in
        let alike : a ≡ i = omega (arith, same) in
        absurd (grind (arith, nat_tests, u, alike))
    by false t true u =
        let alike : a ≡ i = grind (arith, nat_tests, u) in
        let same : joined count 1 a ≡ 2 ^ count + i = omega (arith, alike) in
        absurd (grind (arith, nat_tests, t, same))
asks_is count (suc (suc e)) a i small fits less = absurd (omega arith)

-- a node that asks, in a net with more nodes
pub asked_on : (old now new : Netlist) (w : MemWrite) (asked : Option ℕ) → AddsNodes now new → AddsNodes old now
    → IsNode old w.addr → IsNodeOf old 1 w.enable → IsRequest now w asked → IsRequest new w asked
asked_on old now new w None more before addr enable asked = tt
asked_on old now new w (Some id) more before addr enable asked =
    let wide : width_at new w.addr ≡ width_at now w.addr = more.keeps.widths w.addr (there_on old now w.addr before addr) in
    let P : ℕ → Type 0 = λ u. IsNodeOf new (1 + u) id in
    record {
      there = subst P (sym wide) (node_on now new (1 + width_at now w.addr) id more asked.there);
      few = omega (arith, wide, asked.few);
      value = λ g. value_on now new g id more asked.there.0 ∙ asked.value g
          ∙ sym (λ i. joined (wide i) (value_on now new g w.enable more (there_on old now w.enable before enable.0) i)
          (value_on now new g w.addr more (there_on old now w.addr before addr) i));
    }

-- two tests of one bit each
pub both_are : (e : ℕ) (b : Bool) → e < 2 → bit_and e (bit b) ≡ bit (e == 1 && b)
both_are zero true small = refl
both_are zero false small = refl
both_are (suc zero) true small = refl
both_are (suc zero) false small = refl
both_are (suc (suc e)) b small = absurd (omega arith)

pub one_bit : (net : Netlist) (g : Given) (id : ℕ) → IsNet net → IsGiven net g → IsNodeOf net 1 id
    → value_at net g id < 2
one_bit net g id whole given own =
    let small : value_at net g id < 2 ^ 1 = value_within net g 1 id whole given own in omega (arith, small)
