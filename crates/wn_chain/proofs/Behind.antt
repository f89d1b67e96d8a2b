-- A word after writes, by the values of nodes.
use Rattle.std.specs.Prelude.{◌≡◌, refl, ℕ, zero, suc, ◌+◌, ◌<◌, ◌≤◌, ◌==◌, ◌&&◌, Bool, true, false, if◌then◌else◌}
use Rattle.std.specs.Prelude.{List, [], ◌∷◌, ◌++◌, length, take, slice_set, slice_index_or}
use Rattle.std.specs.List.{AllByRecursion}
use Rattle.std.proofs.Common.{ap, sym, ◌∙◌, arith, subst}
use Rattle.std.proofs.lemmas.Bool.Decides.{nat_tests}
use Rattle.std.proofs.lemmas.List.{get_or-set_same, get_or-set_other, take_all, take_more}
use Rattle.fv_bits.specs.Bits.{bit, masked}
use Rattle.wn_net.specs.declared.parts.MemWrite.{MemWrite}
use Rattle.wn_net.specs.Value.{Given, word_at}
use Rattle.wn_net.specs.Next.{written}
use Rattle.wn_net.specs.Given.{IsGiven}
use Rattle.wn_net.specs.Net.{Netlist, IsNode, IsNodeOf, IsWriteOf, width_at, value_at}
use Rattle.wn_net.specs.Changes.{AddsNodes, Shows}
use Rattle.wn_net.proofs.Laws.{adds_on, adds_none, value_on, node_on, there_on, given_on}
use Rattle.wn_net.proofs.Moved.{length-written}
use Rattle.wn_chain.specs.Writes.{written_at, written_by}

-- a test of two numbers the other way round
pub turned : (a b : ℕ) → bit (a == b) ≡ bit (b == a)
turned a b = by (a == b) refl (b == a) refl
  where
    by : (c : Bool) → (a == b) ≡ c → (d : Bool) → (b == a) ≡ d → bit c ≡ bit d
    by true t true u = refl
    by false t false u = refl
    by true t false u = absurd (grind (arith, nat_tests, t, u))
    by false t true u = absurd (grind (arith, nat_tests, t, u))

-- a word behind a write
written_here : (w : ℕ) (ws : List ℕ) (e a m n at : ℕ) → at < length ws
    → word_at (written w ws e a m n) at
    ≡ (if e == 1 && a == at then masked w m (word_at ws at) n else word_at ws at)
written_here w ws e a m n at below = by (e == 1)
  where
    by : (b : Bool)
        → word_at (if b then slice_set ws a (masked w m (word_at ws a) n) else ws) at
        ≡ (if b && a == at then masked w m (word_at ws at) n else word_at ws at)
    by false = refl
    by true = same (a == at) refl
      where
        same : (d : Bool) → (a == at) ≡ d
            → word_at (slice_set ws a (masked w m (word_at ws a) n)) at
            ≡ (if d then masked w m (word_at ws at) n else word_at ws at)
        same true t =
            let alike : a ≡ at = grind (arith, nat_tests, t) in
            (λ i. word_at (slice_set ws (alike i) (masked w m (word_at ws (alike i)) n)) at)
            ∙ get_or-set_same ws at (masked w m (word_at ws at) n) 0 below
        same false t =
            let other : at ≡ a → ⊥ = grind (arith, nat_tests, t) in
            get_or-set_other ws a at (masked w m (word_at ws a) n) 0 other

pub written_long : (net : Netlist) (g : Given) (w : ℕ) (words : List ℕ) (ws : List MemWrite)
    → length (written_by net g w words ws) ≡ length words
written_long net g w words [] = refl
written_long net g w words (x ∷ xs) =
    written_long net g w (written_at net g w words x) xs
    ∙ length-written w words (value_at net g x.enable) (value_at net g x.addr) (value_at net g x.mask)
    (value_at net g x.value)

-- one write more
pub written_more : (net : Netlist) (g : Given) (w : ℕ) (words : List ℕ) (ws : List MemWrite) (x : MemWrite)
    → written_by net g w words (ws ++ x ∷ []) ≡ written_at net g w (written_by net g w words ws) x
written_more net g w words [] x = refl
written_more net g w words (y ∷ ys) x = written_more net g w (written_at net g w words y) ys x

take_next : (i : ℕ) (xs : List MemWrite) (d : MemWrite) → i < length xs
    → take (i + 1) xs ≡ take i xs ++ slice_index_or xs i d ∷ []
take_next i xs d below = take_more xs i d below

write_in : (net : Netlist) (w : ℕ) (xs : List MemWrite) (i : ℕ) (d : MemWrite) → AllByRecursion (IsWriteOf net w) xs
    → i < length xs → IsWriteOf net w (slice_index_or xs i d)
write_in net w [] i d own below = absurd (omega arith)
write_in net w (x ∷ xs) zero d own below = own.0
write_in net w (x ∷ xs) (suc i) d own below = write_in net w xs i d own.1 (omega arith)

pub write_on : (old now : Netlist) (w u : ℕ) (x : MemWrite) → AddsNodes old now → u ≡ w → IsWriteOf old w x
    → IsWriteOf now u x
write_on old now w u x adds e own =
    let P : ℕ → Type 0 = λ k. IsWriteOf now k x in
    subst P (sym e) (record {
      enable = node_on old now 1 x.enable adds own.enable;
      addr = there_on old now x.addr adds own.addr;
      mask = node_on old now w x.mask adds own.mask;
      value = node_on old now w x.value adds own.value;
    })

-- The node found so far is the word behind the first writes.
pub record Following (old now : Netlist) (writes : List MemWrite) (word addr i found : ℕ) : Type 0 where
  pub adds : AddsNodes old now
  pub there : IsNodeOf now (width_at old word) found
  pub value : (g : Given) (words : List ℕ) → IsGiven old g → value_at old g addr < length words
      → value_at old g word ≡ word_at words (value_at old g addr)
      → value_at now g found
      ≡ word_at (written_by old g (width_at old word) words (take i writes)) (value_at old g addr)

pub following_none : (old : Netlist) (writes : List MemWrite) (word addr : ℕ) → IsNode old word
    → Following old old writes word addr 0 word
following_none old writes word addr own = record {
  adds = adds_none old;
  there = (own, refl);
  value = λ g words given below is. is;
}

-- the next write is one of the net as it is now
pub next_write : (old now : Netlist) (writes : List MemWrite) (word addr i found : ℕ) (d : MemWrite)
    → AllByRecursion (IsWriteOf old (width_at old word)) writes → i < length writes
    → Following old now writes word addr i found → IsWriteOf now (width_at now found) (slice_index_or writes i d)
next_write old now writes word addr i found d own below h =
    write_on old now (width_at old word) (width_at now found) (slice_index_or writes i d) h.adds h.there.1
    (write_in old (width_at old word) writes i d own below)

pub following_next : (old now new : Netlist) (writes : List MemWrite) (word addr i found after : ℕ) (d : MemWrite)
    → AllByRecursion (IsWriteOf old (width_at old word)) writes → IsNode old addr → i < length writes
    → Following old now writes word addr i found → AddsNodes now new
    → Shows now new (width_at now found) (λ g. if value_at now g (slice_index_or writes i d).enable == 1
    && value_at now g (slice_index_or writes i d).addr == value_at now g addr
    then masked (width_at now found) (value_at now g (slice_index_or writes i d).mask) (value_at now g found)
    (value_at now g (slice_index_or writes i d).value)
    else value_at now g found) after
    → Following old new writes word addr (i + 1) after
following_next old now new writes word addr i found after d own addr_own below h more s =
    let x = slice_index_or writes i d in
    let w = width_at old word in
    let x_own : IsWriteOf old w x = write_in old w writes i d own below in
    record {
      adds = adds_on old now new h.adds more;
      there = (s.node.0, s.node.1 ∙ h.there.1);
      value = λ g words given within is.
          let v = value_at old g addr in
          let ws = written_by old g w words (take i writes) in
          let long : length ws ≡ length words = written_long old g w words (take i writes) in
          s.value g (given_on old now g h.adds given)
          ∙ (λ j. if value_on old now g x.enable h.adds x_own.enable.0 j == 1
          && value_on old now g x.addr h.adds x_own.addr j == value_on old now g addr h.adds addr_own j
          then masked (h.there.1 j) (value_on old now g x.mask h.adds x_own.mask.0 j) (h.value g words given within is j)
          (value_on old now g x.value h.adds x_own.value.0 j)
          else h.value g words given within is j)
          ∙ sym (written_here w ws (value_at old g x.enable) (value_at old g x.addr) (value_at old g x.mask)
          (value_at old g x.value) v (omega (arith, long, within)))
          ∙ ap (λ us. word_at us v) (sym (written_more old g w words (take i writes) x))
          ∙ ap (λ us. word_at (written_by old g w words us) v) (sym (take_next i writes d below));
    }

pub followed : (old now : Netlist) (writes : List MemWrite) (word addr i found : ℕ) → length writes ≤ i
    → Following old now writes word addr i found → (g : Given) (words : List ℕ) → IsGiven old g
    → value_at old g addr < length words → value_at old g word ≡ word_at words (value_at old g addr)
    → value_at now g found ≡ word_at (written_by old g (width_at old word) words writes) (value_at old g addr)
followed old now writes word addr i found past h g words given within is =
    h.value g words given within is
    ∙ ap (λ us. word_at (written_by old g (width_at old word) words us) (value_at old g addr)) (take_all i writes past)
