-- What is read of words behind writes.
use Rattle.std.specs.Prelude.{◌≡◌, refl, ℕ, ◌<◌, ◌≤◌, ◌^◌, nat_lt, Bool, true, false, if◌then◌else◌}
use Rattle.std.specs.Prelude.{List, [], ◌∷◌, ◌++◌, length}
use Rattle.std.specs.List.{AllByRecursion}
use Rattle.std.proofs.Common.{ap, sym, ◌∙◌, arith, subst}
use Rattle.std.proofs.lemmas.Bool.Decides.{nat_tests}
use Rattle.std.proofs.lemmas.List.{get_or_past, length-map}
use Rattle.wn_net.specs.declared.parts.MemWrite.{MemWrite}
use Rattle.wn_net.specs.Value.{Given, word_at}
use Rattle.wn_net.specs.Given.{IsGiven}
use Rattle.wn_net.specs.Next.{written}
use Rattle.wn_net.specs.Net.{Netlist, IsNet, IsNode, IsWriteOf, width_at, value_at}
use Rattle.wn_net.specs.Changes.{AddsNodes}
use Rattle.wn_net.proofs.Laws.{value_on}
use Rattle.wn_net.proofs.Moved.{value_below}
use Rattle.wn_mem.specs.Words.{AreWords, words_width, numbers_of}
use Rattle.wn_chain.specs.Writes.{written_by, written_at}
use Rattle.wn_chain.specs.Chains.{IsChain, words_in}
use Rattle.wn_chain.specs.declared.chain.Chain.{Chain}
use Rattle.wn_chain.proofs.Behind.{write_on, written_long, written_more}

-- one more write fits among the others
pub push_write : (net : Netlist) (w : ℕ) (xs : List MemWrite) (x : MemWrite) → AllByRecursion (IsWriteOf net w) xs
    → IsWriteOf net w x → AllByRecursion (IsWriteOf net w) (xs ++ x ∷ [])
push_write net w [] x own more = (more, tt)
push_write net w (y ∷ ys) x own more = (own.0, push_write net w ys x own.1 more)

-- writes of a net are writes of one with more nodes
pub writes_on : (old now : Netlist) (w u : ℕ) (xs : List MemWrite) → AddsNodes old now → u ≡ w
    → AllByRecursion (IsWriteOf old w) xs → AllByRecursion (IsWriteOf now u) xs
writes_on old now w u [] adds e own = tt
writes_on old now w u (x ∷ xs) adds e own = (write_on old now w u x adds e own.0, writes_on old now w u xs adds e own.1)

-- and do the same there
pub written_on : (old now : Netlist) (g : Given) (w : ℕ) (words : List ℕ) (xs : List MemWrite) → AddsNodes old now
    → AllByRecursion (IsWriteOf old w) xs → written_by now g w words xs ≡ written_by old g w words xs
written_on old now g w words [] adds own = refl
written_on old now g w words (x ∷ xs) adds own =
    ap (λ us. written_by now g w us xs)
    (λ i. written w words (value_on old now g x.enable adds own.0.enable.0 i) (value_on old now g x.addr adds own.0.addr i)
    (value_on old now g x.mask adds own.0.mask.0 i) (value_on old now g x.value adds own.0.value.0 i))
    ∙ written_on old now g w (written_at old g w words x) xs adds own.1

-- a number that has no more bits is below
enough : (w count : ℕ) → 1 ≤ w → w ≤ 128 → ((1 ≤ w) × (w ≤ 128) × (count < 2 ^ w) → ⊥) → 2 ^ w ≤ count
enough w count some few none = by (nat_lt count (2 ^ w)) refl
  where
    by : (b : Bool) → nat_lt count (2 ^ w) ≡ b → 2 ^ w ≤ count
    by true t = absurd (none (some, few, grind (arith, nat_tests, t)))
    by false t = grind (arith, nat_tests, t)

-- each address of a width is below a count that the width has no number for
pub below_all : (net : Netlist) (g : Given) (addr width count x y : ℕ) → IsNet net → IsGiven net g
    → width ≡ width_at net addr → 1 ≤ width → width ≤ 128
    → ((1 ≤ width) × (width ≤ 128) × (count < 2 ^ width) → ⊥)
    → x ≡ (if nat_lt (value_at net g addr) count then x else y)
below_all net g addr width count x y whole given wide some few none = by (nat_lt (value_at net g addr) count) refl
  where
    by : (b : Bool) → nat_lt (value_at net g addr) count ≡ b → x ≡ (if b then x else y)
    by true t = refl
    by false t =
        let past : count ≤ value_at net g addr = grind (arith, nat_tests, t) in
        let same : 2 ^ width ≡ 2 ^ width_at net addr = ap (λ k. 2 ^ k) wide in
        absurd (omega (arith, past, same, enough width count some few none, value_below net g whole given addr))

-- Where the address has a word it is the one that was found, and else what the words have there.
pub read_value : (old one two new : Netlist) (g : Given) (words : List ℕ) (writes : List MemWrite)
    (w addr first found read : ℕ)
    → AddsNodes old one → AddsNodes one two → IsNode old addr → IsNode one addr → IsNode one first
    → AllByRecursion (IsWriteOf old w) writes → width_at one first ≡ w
    → value_at one g first ≡ word_at (numbers_of old g words) (value_at old g addr)
    → ((us : List ℕ) → value_at one g addr < length us → value_at one g first ≡ word_at us (value_at one g addr)
    → value_at two g found ≡ word_at (written_by one g (width_at one first) us writes) (value_at one g addr))
    → value_at new g read ≡ (if nat_lt (value_at two g addr) (length words) then value_at two g found
    else value_at two g first)
    → value_at new g read ≡ word_at (written_by old g w (numbers_of old g words) writes) (value_at old g addr)
read_value old one two new g words writes w addr first found read adds more own own_one first_own writes_own wide
    first_is found_is read_is =
    let addr_two : value_at two g addr ≡ value_at old g addr = value_on one two g addr more own_one
    ∙ value_on old one g addr adds own in
    read_is
    ∙ (λ i. if nat_lt (addr_two i) (length words) then value_at two g found
    else (value_on one two g first more first_own ∙ first_is) i)
    ∙ by (nat_lt (value_at old g addr) (length words)) refl (length-map words (value_at old g))
  where
    by : (b : Bool) → nat_lt (value_at old g addr) (length words) ≡ b
        → length (numbers_of old g words) ≡ length words
        → (if b then value_at two g found else word_at (numbers_of old g words) (value_at old g addr))
        ≡ word_at (written_by old g w (numbers_of old g words) writes) (value_at old g addr)
    by true t long =
        let nums = numbers_of old g words in
        let less : value_at old g addr < length words = grind (arith, nat_tests, t) in
        let same : value_at one g addr ≡ value_at old g addr = value_on old one g addr adds own in
        found_is nums (omega (arith, less, long, same)) (first_is ∙ ap (word_at nums) (sym same))
        ∙ (λ i. word_at (written_by one g (wide i) nums writes) (same i))
        ∙ ap (λ us. word_at us (value_at old g addr)) (written_on old one g w nums writes adds writes_own)
    by false t long =
        let nums = numbers_of old g words in
        let past : length words ≤ value_at old g addr = grind (arith, nat_tests, t) in
        get_or_past nums (value_at old g addr) 0 (omega (arith, past, long))
        ∙ sym (get_or_past (written_by old g w nums writes) (value_at old g addr) 0
        (omega (arith, past, long, written_long old g w nums writes)))

-- a chain with one more write is one of the net
pub pushed : (net : Netlist) (old new : Chain) (x : MemWrite) → IsChain net old
    → IsWriteOf net (words_width net old.words) x → new.words ≡ old.words → new.writes ≡ old.writes ++ x ∷ []
    → IsChain net new
pushed net old new x own more same is =
    let P : List ℕ → Type 0 = λ ws. 1 ≤ length ws in
    let Q : List ℕ → Type 0 = λ ws. AreWords net ws in
    let R : List ℕ → Type 0 = λ ws. AllByRecursion (IsWriteOf net (words_width net ws)) new.writes in
    let S : List MemWrite → Type 0 = λ xs. AllByRecursion (IsWriteOf net (words_width net old.words)) xs in
    record {
      some = subst P (sym same) own.some;
      words = subst Q (sym same) own.words;
      writes = subst R (sym same) (subst S (sym is) (push_write net (words_width net old.words) old.writes x own.writes more));
    }

-- and its list is that behind the write
pub pushed_list : (net : Netlist) (g : Given) (old new : Chain) (x : MemWrite) → new.words ≡ old.words
    → new.writes ≡ old.writes ++ x ∷ []
    → words_in net g new ≡ written_at net g (words_width net old.words) (words_in net g old) x
pushed_list net g old new x same is =
    (λ i. written_by net g (words_width net (same i)) (numbers_of net g (same i)) (is i))
    ∙ written_more net g (words_width net old.words) (numbers_of net g old.words) old.writes x
