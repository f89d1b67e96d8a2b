-- Nodes among cells.
use Rattle.std.specs.Prelude.{◌≡◌, refl, ℕ, zero, suc, ◌+◌, ◌-◌, ◌<◌, ◌≤◌, List, [], ◌∷◌, length, take, drop}
use Rattle.std.specs.Prelude.{slice_index}
use Rattle.std.specs.Prelude.{slice_range}
use Rattle.std.proofs.Common.{ap, sym, ◌∙◌, arith, subst}
use Rattle.wn_net.specs.Net.{Netlist, IsNodeOf, AreNodesOf}

index_drop : (xs : List ℕ) (at k : ℕ) → slice_index (drop at xs) k ≡ slice_index xs (at + k)
index_drop xs zero k = let e : k ≡ zero + k = omega arith in ap (slice_index xs) e
index_drop [] (suc at) k = refl
index_drop (x ∷ xs) (suc at) k =
    let e : suc (at + k) ≡ suc at + k = omega arith in index_drop xs at k ∙ ap (slice_index (x ∷ xs)) e

drop_long : (xs : List ℕ) (at n : ℕ) → at + n ≤ length xs → n ≤ length (drop at xs)
drop_long xs zero n h = omega (arith, h)
drop_long [] (suc at) n h = omega (arith, h)
drop_long (x ∷ xs) (suc at) n h = drop_long xs at n (omega (arith, h))

first_nodes : (net : Netlist) (w : ℕ) (xs : List ℕ) (n : ℕ) → n ≤ length xs
    → ((k : ℕ) → k < n → IsNodeOf net w (slice_index xs k)) → AreNodesOf net w (take n xs)
first_nodes net w xs zero long h = tt
first_nodes net w [] (suc n) long h = absurd (omega (arith, long))
first_nodes net w (x ∷ xs) (suc n) long h =
    (h 0 (omega arith), first_nodes net w xs n (omega (arith, long)) (λ k less. h (suc k) (omega (arith, less))))

-- so many cells from the first on
pub nodes_among : (net : Netlist) (w : ℕ) (cells : List ℕ) (first n : ℕ) → first + n ≤ length cells
    → ((k : ℕ) → k < n → IsNodeOf net w (slice_index cells (first + k)))
    → AreNodesOf net w (slice_range cells first (first + n))
nodes_among net w cells first n within h =
    let P : ℕ → Type 0 = λ m. AreNodesOf net w (take m (drop first cells)) in
    let Q : ℕ → Type 0 = λ id. IsNodeOf net w id in
    let count : n ≡ (first + n) - first = omega arith in
    subst P count (first_nodes net w (drop first cells) n (drop_long cells first n within)
    (λ k less. subst Q (sym (index_drop cells first k)) (h k less)))

index_take : (xs : List ℕ) (n k : ℕ) → k < n → slice_index (take n xs) k ≡ slice_index xs k
index_take [] n k less = at n k
  where
    at : (n k : ℕ) → slice_index (take n []) k ≡ 0
    at zero k = refl
    at (suc n) k = refl
index_take (x ∷ xs) zero k less = absurd (omega (arith, less))
index_take (x ∷ xs) (suc n) zero less = refl
index_take (x ∷ xs) (suc n) (suc k) less = index_take xs n k (omega (arith, less))

-- each of them
pub index_among : (cells : List ℕ) (first n k : ℕ) → k < n
    → slice_index (slice_range cells first (first + n)) k ≡ slice_index cells (first + k)
index_among cells first n k less =
    let count : (first + n) - first ≡ n = omega arith in
    ap (λ m. slice_index (take m (drop first cells)) k) count
    ∙ index_take (drop first cells) n k less ∙ index_drop cells first k

-- one of nodes of a width
pub node_among : (net : Netlist) (w : ℕ) (ids : List ℕ) (k : ℕ) → k < length ids → AreNodesOf net w ids
    → IsNodeOf net w (slice_index ids k)
node_among net w [] k less h = absurd (omega (arith, less))
node_among net w (x ∷ xs) zero less h = h.0
node_among net w (x ∷ xs) (suc k) less h = node_among net w xs k (omega (arith, less)) h.1

take_count : (xs : List ℕ) (n : ℕ) → n ≤ length xs → length (take n xs) ≡ n
take_count xs zero h = at xs
  where
    at : (xs : List ℕ) → length (take zero xs) ≡ zero
    at [] = refl
    at (x ∷ xs) = refl
take_count [] (suc n) h = absurd (omega (arith, h))
take_count (x ∷ xs) (suc n) h = ap suc (take_count xs n (omega (arith, h)))

pub range_count : (cells : List ℕ) (first n : ℕ) → first + n ≤ length cells
    → length (slice_range cells first (first + n)) ≡ n
range_count cells first n within =
    let count : (first + n) - first ≡ n = omega arith in
    ap (λ m. length (take m (drop first cells))) count
    ∙ take_count (drop first cells) n (drop_long cells first n within)
