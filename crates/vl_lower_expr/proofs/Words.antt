-- Words of a memory at an address.
use Rattle.std.specs.Prelude.{◌≡◌, refl, ℕ, zero, suc, ◌+◌, ◌-◌, ◌<◌, ◌≤◌, Bool, true, false, nat_lt, MatchBool}
use Rattle.std.specs.Prelude.{if◌then◌else◌, List, [], ◌∷◌, length, map, take, drop, min, Option, Some, None}
use Rattle.std.specs.Prelude.{MatchOption, IfSome, IsSome, is_some, is_none}
use Rattle.std.specs.Prelude.{ℤ, pos, negsuc, ◌-ℤ◌, nat_abs, int_le, slice_get, slice_index, slice_index_or}
use Rattle.std.specs.Prelude.{slice_range}
use Rattle.std.proofs.Common.{ap, sym, ◌∙◌, arith, subst, true≢false}
use Rattle.std.proofs.lemmas.Bool.Decides.{nat_tests}
use Rattle.std.proofs.lemmas.Int.{ints}
use Rattle.std.proofs.lemmas.List.{get_or-drop, length-drop, length-take}
use Rattle.std.proofs.lemmas.Option.{same_Some, slice_get_within}
use Rattle.vl_size.specs.Size.{Cells, memory_word, is_bound}
use Rattle.vl_size.specs.Table.{span, is_between}
use Rattle.vl_size.specs.declared.decl.Decl.{Decl}
use Rattle.wn_net.specs.declared.parts.Mem.{Mem}
use Rattle.vl_mean.specs.FlatLaw.{IsMemory, name_count}
use Rattle.wn_net.specs.Value.{Given, word_at, words_of}
use Rattle.wn_net.specs.Net.{Netlist, IsNodeOf, AreNodesOf, value_at}
use Rattle.wn_net.specs.Given.{AreMemsOf}
use Rattle.vl_flow_cells.proofs.Ranges as ranges
use Rattle.vl_lower_nodes.specs.Points.{IsAddress, distance, past}
use Rattle.wn_mem.specs.Words.{words_width}
use Rattle.vl_lower_expr.specs.declared.place.Place.{Place}
use Rattle.vl_lower_expr.specs.declared.place.Place.TheVariants as place
use Rattle.vl_lower_expr.specs.Bound.{HasCell, IsMemoryIn, FitsPlace, IsPlaced, HasNumber, word_index}

-- ---- the address of an index

module _ (l r i : ℤ) (n : ℕ) (few : span l r ≤ past) where
  at_pos : (b : Bool) (k : ℕ) → distance b l i ≡ pos k → nat_abs (i -ℤ l) < span l r
      → MatchBool (nat_lt k past) (n ≡ k) (past ≤ n) → n ≡ nat_abs (i -ℤ l)
  at_pos b k d within h = by (nat_lt k past) refl h
    where
      size : (b : Bool) → distance b l i ≡ pos k → k ≡ nat_abs (i -ℤ l)
      size true d = omega (arith, ints, d)
      size false d = omega (arith, ints, d)

      by : (t : Bool) → nat_lt k past ≡ t → MatchBool t (n ≡ k) (past ≤ n) → n ≡ nat_abs (i -ℤ l)
      by true t h = h ∙ size b d
      by false t h =
          let far : past ≤ k = grind (arith, nat_tests, t) in absurd (omega (arith, far, size b d, within, few))

  between_pos : (b : Bool) (k : ℕ) → int_le l r ≡ b → is_between l r i ≡ true → distance b l i ≡ negsuc k → ⊥
  between_pos true k e h d = grind (arith, ints, e, h, d)
  between_pos false k e h d = grind (arith, ints, e, h, d)

  pub address_at : is_between l r i ≡ true → IsAddress n (distance (int_le l r) l i) → n ≡ nat_abs (i -ℤ l)
  address_at h a = by (distance (int_le l r) l i) refl a
    where
      by : (z : ℤ) → distance (int_le l r) l i ≡ z → IsAddress n z → n ≡ nat_abs (i -ℤ l)
      by (pos k) d a = at_pos (int_le l r) k d (ranges.word_at l r i h).0 a
      by (negsuc k) d a = absurd (between_pos (int_le l r) k refl h d)

  past_pos : (b : Bool) (k : ℕ) → int_le l r ≡ b → is_between l r i ≡ false → distance b l i ≡ pos k → span l r ≤ k
  past_pos true k e h d = grind (arith, ints, e, h, d)
  past_pos false k e h d = grind (arith, ints, e, h, d)

  pub address_past : is_between l r i ≡ false → IsAddress n (distance (int_le l r) l i) → span l r ≤ n
  address_past h a = by (distance (int_le l r) l i) refl a
    where
      near : (k : ℕ) (t : Bool) → span l r ≤ k → MatchBool t (n ≡ k) (past ≤ n) → span l r ≤ n
      near k true out a = omega (arith, out, a)
      near k false out a = omega (arith, few, a)

      by : (z : ℤ) → distance (int_le l r) l i ≡ z → IsAddress n z → span l r ≤ n
      by (pos k) d a = near k (nat_lt k past) (past_pos (int_le l r) k refl h d) a
      by (negsuc k) d a = omega (arith, few, a)

-- words by their places are those by their indices
pub word_is : (v : Cells) (d : Decl) (l r i : ℤ) (n : ℕ) (number : ℕ → ℕ) → span l r ≤ past
    → IsAddress n (distance (int_le l r) l i)
    → ((k : ℕ) → k < span l r → v d.name (Some (word_index (l, r) k)) ≡ number k)
    → ((k : ℕ) → span l r ≤ k → number k ≡ 0) → number n ≡ memory_word v d (Some (l, r)) i
word_is v d l r i n number few a inside outside = by (is_between l r i) refl
  where
    by : (b : Bool) → is_between l r i ≡ b → number n ≡ (if b then v d.name (Some i) else 0)
    by true e =
        let at = ranges.word_at l r i e in
        ap number (address_at l r i n few e a) ∙ sym (inside (nat_abs (i -ℤ l)) at.0)
        ∙ ap (λ z. v d.name (Some z)) at.1
    by false e = outside n (address_past l r i n few e a)

-- ---- words in cells

first_nodes : (net : Netlist) (w : ℕ) (xs : List ℕ) (n : ℕ)
    → ((k : ℕ) → k < n → MatchOption (slice_get xs k) ⊥ (IsNodeOf net w)) → AreNodesOf net w (take n xs)
first_nodes net w xs zero h = tt
first_nodes net w [] (suc n) h = absurd (h 0 (omega arith))
first_nodes net w (x ∷ xs) (suc n) h = (
  h 0 (omega arith),
  first_nodes net w xs n (λ k less. h (suc k) (omega
      (arith, less))),
)

get_drop : (xs : List ℕ) (at k : ℕ) → slice_get (drop at xs) k ≡ slice_get xs (at + k)
get_drop xs zero k = let e : k ≡ zero + k = omega arith in ap (slice_get xs) e
get_drop [] (suc at) k = refl
get_drop (x ∷ xs) (suc at) k =
    let e : suc (at + k) ≡ suc at + k = omega arith in get_drop xs at k ∙ ap (slice_get (x ∷ xs)) e

pub words_are : (net : Netlist) (cells : List ℕ) (w at n : ℕ) → ((k : ℕ) → k < n → HasCell net cells w (at + k))
    → AreNodesOf net w (slice_range cells at (at + n))
words_are net cells w at n h =
    let P : ℕ → Type 0 = λ m. AreNodesOf net w (take m (drop at cells)) in
    let count : n ≡ (at + n) - at = omega arith in
    subst P count (first_nodes net w (drop at cells) n (λ k less.
    let Q : Option ℕ → Type 0 = λ o. MatchOption o ⊥ (IsNodeOf net w) in
    subst Q (sym (get_drop cells at k)) (h k less)))

cell_within : (net : Netlist) (cells : List ℕ) (w k : ℕ) → HasCell net cells w k → k < length cells
cell_within net cells w k h = by (slice_get cells k) refl h
  where
    by : (o : Option ℕ) → slice_get cells k ≡ o → MatchOption o ⊥ (IsNodeOf net w) → k < length cells
    by None e h = absurd h
    by (Some x) e h = slice_get_within cells k x e

pub words_within : (net : Netlist) (cells : List ℕ) (w at n : ℕ) → 1 ≤ n
    → ((k : ℕ) → k < n → HasCell net cells w (at + k)) → at + n ≤ length cells
words_within net cells w at n some h =
    let last = cell_within net cells w (at + (n - 1)) (h (n - 1) (omega (arith, some))) in omega (arith, some, last)

-- they are there, and nodes of the width
pub record AreAmong (net : Netlist) (cells : List ℕ) (w at n : ℕ) : Type 0 where
  pub nodes : AreNodesOf net w (slice_range cells at (at + n))
  pub within : at + n ≤ length cells
  pub some : 1 ≤ length (slice_range cells at (at + n))

pub are_words : (net : Netlist) (cells : List ℕ) (w at n : ℕ) → 1 ≤ n → ((k : ℕ) → k < n → HasCell net cells w (at + k))
    → AreAmong net cells w at n
are_words net cells w at n some h =
    let within = words_within net cells w at n some h in
    let count : (at + n) - at ≡ n = omega arith in
    let long = length-take n (drop at cells) ∙ ap (min n) (length-drop at cells) in
    record {
      nodes = words_are net cells w at n h;
      within = within;
      some =
          let P : ℕ → Type 0 = λ m. 1 ≤ length (take m (drop at cells)) in
          subst P (sym count) (omega (arith, long, within, some));
    }

number_first : (f : ℕ → ℕ) (xs : List ℕ) (n k : ℕ) → k < n → k < length xs
    → slice_index (map f (take n xs)) k ≡ f (slice_index xs k)
number_first f xs zero k h within = absurd (omega (arith, h))
number_first f [] (suc n) k h within = absurd (omega (arith, within))
number_first f (x ∷ xs) (suc n) zero h within = refl
number_first f (x ∷ xs) (suc n) (suc k) h within = number_first f xs n k (omega (arith, h)) (omega (arith, within))

number_past : (f : ℕ → ℕ) (xs : List ℕ) (n k : ℕ) → n ≤ k → slice_index (map f (take n xs)) k ≡ 0
number_past f xs zero k h = refl
number_past f [] (suc n) k h = refl
number_past f (x ∷ xs) (suc n) zero h = absurd (omega (arith, h))
number_past f (x ∷ xs) (suc n) (suc k) h = number_past f xs n k (omega (arith, h))

pub number_in : (f : ℕ → ℕ) (cells : List ℕ) (at n k : ℕ) → k < n → at + n ≤ length cells
    → slice_index (map f (slice_range cells at (at + n))) k ≡ f (slice_index cells (at + k))
number_in f cells at n k h within =
    let count : (at + n) - at ≡ n = omega arith in
    ap (λ m. slice_index (map f (take m (drop at cells))) k) count
    ∙ number_first f (drop at cells) n k h (omega (arith, h, within, length-drop at cells)) ∙ ap f
    (get_or-drop at cells k 0)

pub number_out : (f : ℕ → ℕ) (cells : List ℕ) (at n k : ℕ) → n ≤ k
    → slice_index (map f (slice_range cells at (at + n))) k ≡ 0
number_out f cells at n k h =
    let count : (at + n) - at ≡ n = omega arith in
    ap (λ m. slice_index (map f (take m (drop at cells))) k) count ∙ number_past f (drop at cells) n k h

-- ---- words in a memory of the net

pub memory_words : (ms : List Mem) (all : List (List ℕ)) (m : ℕ) (memory : Mem) → AreMemsOf ms all
    → slice_get ms m ≡ Some memory → length (slice_index_or all m []) ≡ memory.words
memory_words [] all m memory h e = absurd (true≢false (ap is_none e))
memory_words (x ∷ ms) [] m memory h e = absurd h
memory_words (x ∷ ms) (words ∷ all) zero memory h e = h.0.each ∙ ap (λ y. y.words) (same_Some x memory e)
memory_words (x ∷ ms) (words ∷ all) (suc m) memory h e = memory_words ms all m memory h.1 e

pub memory_width : (ms : List Mem) (m : ℕ) (memory : Mem) → slice_get ms m ≡ Some memory
    → slice_index (map (λ y. y.width) ms) m ≡ memory.width
memory_width [] m memory e = absurd (true≢false (ap is_none e))
memory_width (x ∷ ms) zero memory e = ap (λ y. y.width) (same_Some x memory e)
memory_width (x ∷ ms) (suc m) memory e = memory_width ms m memory e

pub index_past : (xs : List ℕ) (k : ℕ) → length xs ≤ k → slice_index xs k ≡ 0
index_past [] k h = refl
index_past (x ∷ xs) zero h = absurd (omega (arith, h))
index_past (x ∷ xs) (suc k) h = index_past xs k (omega (arith, h))

-- ---- the place of a memory

pub record IsMemoryOf (d : Decl) (l r : ℤ) : Type 0 where
  pub left : is_bound l ≡ true
  pub right : is_bound r ≡ true
  pub few : span l r ≤ past

pub is_memory : (net : Netlist) (cells : List ℕ) (d : Decl) (p : Place) (l r : ℤ) → IsPlaced net cells d p
    → d.words ≡ Some (l, r) → IsMemoryOf d l r
is_memory net cells d p l r h e =
    let P : Option (ℤ × ℤ) → Type 0 = λ o. IsMemory o d in
    let bounds : IsMemory (Some (l, r)) d = subst P e h.kept.memory in
    let count : span l r + 1 ≤ past = subst (λ o. name_count o ≤ past) e h.few in
    record { left = bounds.0; right = bounds.1; few = omega (arith, count) }

pub in_cells : (net : Netlist) (cells : List ℕ) (d : Decl) (p : Place) (l r : ℤ) (at : ℕ) → FitsPlace net cells d p
    → p ≡ place.Words at → d.words ≡ Some (l, r) → (k : ℕ) → k < span l r → HasCell net cells d.width (at + k)
in_cells net cells d p l r at h e f =
    let P : Place → Type 0 = λ q. FitsPlace net cells d q in
    let Q : Option (ℤ × ℤ) → Type 0 =
    λ o. MatchOption o ⊥ (λ bounds. (k : ℕ) → k < span bounds.0 bounds.1 → HasCell net cells d.width (at + k)) in
    subst Q f (subst P e h)

pub cells_have : (net : Netlist) (g : Given) (v : Cells) (cells : List ℕ) (d : Decl) (p : Place) (l r : ℤ) (at : ℕ)
    → HasNumber net g v cells d p → p ≡ place.Words at → d.words ≡ Some (l, r) → (k : ℕ) → k < span l r
    → v d.name (Some (word_index (l, r) k)) ≡ value_at net g (slice_index cells (at + k))
cells_have net g v cells d p l r at h e f =
    let P : Place → Type 0 = λ q. HasNumber net g v cells d q in
    let Q : Option (ℤ × ℤ) → Type 0 = λ o. IfSome o (λ bounds. (k : ℕ) → k < span bounds.0 bounds.1
    → v d.name (Some (word_index bounds k)) ≡ value_at net g (slice_index cells (at + k))) in
    subst Q f (subst P e h)

pub record IsStored (net : Netlist) (d : Decl) (l r : ℤ) (m : ℕ) : Type 0 where
  pub memory : Mem
  pub there : slice_get net.mems m ≡ Some memory
  pub width : memory.width ≡ d.width
  pub words : memory.words ≡ span l r

pub is_stored : (net : Netlist) (cells : List ℕ) (d : Decl) (p : Place) (l r : ℤ) (m : ℕ) → FitsPlace net cells d p
    → p ≡ place.Memory m → d.words ≡ Some (l, r) → IsStored net d l r m
is_stored net cells d p l r m h e f =
    let P : Place → Type 0 = λ q. FitsPlace net cells d q in
    let Q : Option (ℤ × ℤ) → Type 0 = λ o. MatchOption o ⊥ (IsMemoryIn net.mems m d.width) in
    by (slice_get net.mems m) refl (subst Q f (subst P e h))
  where
    by : (o : Option Mem) → slice_get net.mems m ≡ o
        → MatchOption o ⊥ (λ memory. (memory.width ≡ d.width) × (memory.words ≡ span l r)) → IsStored net d l r m
    by None u h = absurd h
    by (Some memory) u h = record { memory = memory; there = u; width = h.0; words = h.1 }

pub memory_has : (net : Netlist) (g : Given) (v : Cells) (cells : List ℕ) (d : Decl) (p : Place) (l r : ℤ) (m : ℕ)
    → HasNumber net g v cells d p → p ≡ place.Memory m → d.words ≡ Some (l, r) → (k : ℕ) → k < span l r
    → v d.name (Some (word_index (l, r) k)) ≡ word_at (words_of g m) k
memory_has net g v cells d p l r m h e f =
    let P : Place → Type 0 = λ q. HasNumber net g v cells d q in
    let Q : Option (ℤ × ℤ) → Type 0 = λ o. IfSome o (λ bounds. (k : ℕ) → k < span bounds.0 bounds.1
    → v d.name (Some (word_index bounds k)) ≡ word_at (words_of g m) k) in
    subst Q f (subst P e h)

pub no_vector : (net : Netlist) (cells : List ℕ) (d : Decl) (p : Place) (at : ℕ) → FitsPlace net cells d p
    → p ≡ place.Vector at → IsSome d.words → ⊥
no_vector net cells d p at h e f =
    let P : Place → Type 0 = λ q. FitsPlace net cells d q in
    true≢false (sym f ∙ ap is_some (subst P e h).0)

-- words that are all of a width have it
pub words_width_is : (net : Netlist) (w : ℕ) (words : List ℕ) → 1 ≤ length words → AreNodesOf net w words
    → words_width net words ≡ w
words_width_is net w [] some h = absurd (omega (arith, some))
words_width_is net w (x ∷ words) some h = h.0.1
