-- The writes of one memory among others, and nodes from a place on.
use Rattle.std.specs.Prelude.{◌≡◌, refl, ℕ, zero, suc, ◌+◌, ◌<◌, ◌≤◌, List, [], ◌∷◌, ◌++◌, length, map, take, drop}
use Rattle.std.specs.Prelude.{Some}
use Rattle.std.specs.Prelude.{Option, is_none, slice_get, slice_index}
use Rattle.std.proofs.Common.{ap, ◌∙◌, arith, subst, true≢false}
use Rattle.std.proofs.lemmas.Option.{same_Some}
use Rattle.wn_net.specs.declared.parts.Mem.{Mem}
use Rattle.wn_net.specs.declared.parts.MemWrite.{MemWrite}
use Rattle.wn_net.specs.Changes.{with_write}
use Rattle.wn_net.specs.Net.{Netlist}
use Rattle.vl_lower_state.specs.Stores.{PutNodes, PutsNode}
use Rattle.vl_lower_state.specs.Writing.{with_writes, writes_at}

-- ---- one memory's writes

pub own_writes : (i : ℕ) (ms : List Mem) → with_writes i (writes_at ms i) ms ≡ ms
own_writes i [] = refl
own_writes zero (m ∷ ms) = refl
own_writes (suc i) (m ∷ ms) = (λ j. m ∷ own_writes i ms j)

pub written_at : (i : ℕ) (xs : List MemWrite) (ms : List Mem) (m : Mem) → slice_get ms i ≡ Some m
    → writes_at (with_writes i xs ms) i ≡ xs
written_at i xs [] m e = absurd (true≢false (ap is_none e))
written_at zero xs (n ∷ ms) m e = refl
written_at (suc i) xs (n ∷ ms) m e = written_at i xs ms m e

pub write_behind : (i : ℕ) (x : MemWrite) (xs : List MemWrite) (ms : List Mem)
    → with_write i x (with_writes i xs ms) ≡ with_writes i (xs ++ x ∷ []) ms
write_behind i x xs [] = refl
write_behind zero x xs (m ∷ ms) = refl
write_behind (suc i) x xs (m ∷ ms) = (λ j. m ∷ write_behind i x xs ms j)

pub other_at : (i j : ℕ) (xs : List MemWrite) (ms : List Mem) → (i ≡ j → ⊥)
    → slice_get (with_writes i xs ms) j ≡ slice_get ms j
other_at i j xs [] other = refl
other_at zero zero xs (m ∷ ms) other = absurd (other refl)
other_at zero (suc j) xs (m ∷ ms) other = refl
other_at (suc i) zero xs (m ∷ ms) other = refl
other_at (suc i) (suc j) xs (m ∷ ms) other = other_at i j xs ms (λ e. other (ap suc e))

pub this_at : (i : ℕ) (xs : List MemWrite) (ms : List Mem) (m : Mem) → slice_get ms i ≡ Some m
    → slice_get (with_writes i xs ms) i ≡ Some (record m { writes = xs })
this_at i xs [] m e = absurd (true≢false (ap is_none e))
this_at zero xs (n ∷ ms) m e = ap some_with (same_Some n m e)
  where
    some_with : Mem → Option Mem
    some_with z = Some (record z { writes = xs })
this_at (suc i) xs (n ∷ ms) m e = this_at i xs ms m e

pub width_at_place : (ms : List Mem) (i : ℕ) (m : Mem) → slice_get ms i ≡ Some m
    → slice_index (map (λ z. z.width) ms) i ≡ m.width
width_at_place [] i m e = absurd (true≢false (ap is_none e))
width_at_place (n ∷ ms) zero m e = ap (λ z. z.width) (same_Some n m e)
width_at_place (n ∷ ms) (suc i) m e = width_at_place ms i m e

-- ---- nodes from a place on

pub taken : (k : ℕ) (xs : List ℕ) → k ≤ length xs → length (take k xs) ≡ k
taken zero xs h = refl
taken (suc k) [] h = absurd (omega (arith, h))
taken (suc k) (x ∷ xs) h = let less : k ≤ length xs = omega (arith, h) in ap suc (taken k xs less)

pub left_over : (f : ℕ) (xs : List ℕ) → f ≤ length xs → f + length (drop f xs) ≡ length xs
left_over zero xs h = omega arith
left_over (suc f) [] h = absurd (omega (arith, h))
left_over (suc f) (x ∷ xs) h =
    let less : f ≤ length xs = omega (arith, h) in omega (arith, left_over f xs less)

one_more : (k : ℕ) (xs : List ℕ) → k < length xs → take (suc k) xs ≡ take k xs ++ slice_index xs k ∷ []
one_more k [] h = absurd (omega (arith, h))
one_more zero (x ∷ xs) h = refl
one_more (suc k) (x ∷ xs) h =
    let less : k < length xs = omega (arith, h) in (λ j. x ∷ one_more k xs less j)

pub index_behind : (f k : ℕ) (xs : List ℕ) → slice_index (drop f xs) k ≡ slice_index xs (f + k)
index_behind zero k xs = let same : k ≡ 0 + k = omega arith in ap (slice_index xs) same
index_behind (suc f) k [] = refl
index_behind (suc f) k (x ∷ xs) =
    let same : suc (f + k) ≡ suc f + k = omega arith in
    index_behind f k xs ∙ ap (slice_index (x ∷ xs)) same

pub next_node : (f k : ℕ) (xs : List ℕ) → f + k < length xs
    → take (k + 1) (drop f xs) ≡ take k (drop f xs) ++ slice_index xs (f + k) ∷ []
next_node f k xs h =
    let many = left_over f xs (omega (arith, h)) in
    let less : k < length (drop f xs) = omega (arith, h, many) in
    let same : k + 1 ≡ suc k = omega arith in
    ap (λ n. take n (drop f xs)) same ∙ one_more k (drop f xs) less
    ∙ ap (λ n. take k (drop f xs) ++ n ∷ []) (index_behind f k xs)

pub put_more : (net : Netlist) (w address : ℕ) (xs : List MemWrite) (ns : List ℕ) (x : MemWrite) (n : ℕ)
    → PutNodes net w address xs ns → PutsNode net w (address + length ns) n x
    → PutNodes net w address (xs ++ x ∷ []) (ns ++ n ∷ [])
put_more net w address [] [] x n h one =
    let same : address + 0 ≡ address = omega arith in (subst (λ a. PutsNode net w a n x) same one, tt)
put_more net w address [] (m ∷ ns) x n h one = absurd h
put_more net w address (y ∷ ys) [] x n h one = absurd h
put_more net w address (y ∷ ys) (m ∷ ns) x n h one =
    let same : address + suc (length ns) ≡ address + 1 + length ns = omega arith in
    (h.0, put_more net w (address + 1) ys ns x n h.1 (subst (λ a. PutsNode net w a n x) same one))
