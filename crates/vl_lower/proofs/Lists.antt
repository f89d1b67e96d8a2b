-- Lists behind one another, and lists that go together.
use Rattle.std.specs.Prelude.{◌≡◌, refl, ℕ, zero, suc, ◌+◌, ◌<◌, List, [], ◌∷◌, ◌++◌, length, map, drop, replicate}
use Rattle.std.specs.Prelude.{slice_index}
use Rattle.std.proofs.Common.{ap, append_assoc, arith, sym, ◌∙◌}
use Rattle.std.proofs.lemmas.List.{length-append, length-map, map-append}
use Rattle.vl_lower_cell_laws.specs.Keeps.{Kept}
use Rattle.wn_net.specs.Value.{Given}
use Rattle.wn_net.specs.Net.{IsNodeOf, Netlist, value_at}
use Rattle.wn_net.specs.Changes.{Grows}
use Rattle.wn_net.proofs.Laws.{grown_node, grown_value}
use Rattle.vl_lower_spec.specs.Sources.{AreEach}
use Rattle.vl_lower_cell_laws.specs.Listing.{named_registers}

pub chained : {A : Type 0} (p q r xs ys : List A) → q ≡ p ++ xs → r ≡ q ++ ys → r ≡ p ++ (xs ++ ys)
chained p q r xs ys h k = k ∙ ap (λ z. z ++ ys) h ∙ append_assoc p xs ys

pub chained_map : {A B : Type 0} (f : B → A) (p q r : List A) (xs ys : List B) → q ≡ p ++ map f xs
    → r ≡ q ++ map f ys → r ≡ p ++ map f (xs ++ ys)
chained_map f p q r xs ys h k =
    chained p q r (map f xs) (map f ys) h k ∙ ap (λ z. p ++ z) (sym (map-append f xs ys))

-- behind none
pub alone : {A : Type 0} (p q xs : List A) → q ≡ p ++ xs → p ≡ [] → q ≡ xs
alone p q xs h e = h ∙ ap (λ ys. ys ++ xs) e

pub alone_map : {A B : Type 0} (f : A → B) (p : List A) (q xs : List B) → q ≡ map f p ++ xs → p ≡ [] → q ≡ xs
alone_map f p q xs h e = h ∙ ap (λ ys. map f ys ++ xs) e

-- how many stand behind those that were there
pub many_of : {A B C : Type 0} (f : A → C) (h : B → C) (p q : List A) (xs : List B) → map f q ≡ map f p ++ map h xs
    → length q ≡ length p + length xs
many_of f h p q xs e =
    sym (length-map q f) ∙ ap length e ∙ length-append (map f p) (map h xs)
    ∙ (λ i. length-map p f i + length-map xs h i)

pub drop_at : {A : Type 0} (xs : List A) (k : ℕ) → k < length xs → (x : A) × (drop k xs ≡ x ∷ drop (k + 1) xs)
drop_at [] k less = absurd (omega (arith, less))
drop_at (x ∷ xs) zero less = (x, refl)
drop_at (x ∷ xs) (suc k) less =
    let same : suc k + 1 ≡ suc (k + 1) = omega arith in
    let r = drop_at xs k (omega (arith, less)) in
    (r.0, r.1 ∙ ap (λ n. r.0 ∷ drop n (x ∷ xs)) (sym same))

pub drop_none : {A : Type 0} (xs : List A) (k : ℕ) → length xs ≡ k → drop k xs ≡ []
drop_none [] zero e = refl
drop_none [] (suc k) e = refl
drop_none (x ∷ xs) zero e = absurd (omega (arith, e))
drop_none (x ∷ xs) (suc k) e = drop_none xs k (omega (arith, e))

pub constant_map : {A : Type 0} (n : ℕ) (xs : List A) → map (λ x. n) xs ≡ replicate (length xs) n
constant_map n [] = refl
constant_map n (x ∷ xs) = ap (λ ys. n ∷ ys) (constant_map n xs)

pub named_map : {B : Type 0} (f : Kept → B) (at : ℕ) (xs : List Kept)
    → map (λ k. f k.0) (named_registers at xs) ≡ map f xs
named_map f at [] = refl
named_map f at (x ∷ xs) = ap (λ ys. f x ∷ ys) (named_map f at xs)

-- ---- one of a list for each of another

module _ {A B : Type 0} (R : A → B → Type 0) where
  pub each_many : (xs : List A) (ys : List B) → AreEach R xs ys → length ys ≡ length xs
  each_many [] [] h = refl
  each_many [] (y ∷ ys) h = absurd h
  each_many (x ∷ xs) [] h = absurd h
  each_many (x ∷ xs) (y ∷ ys) h = ap suc (each_many xs ys h.1)

  pub each_both : (xs us : List A) (ys vs : List B) → AreEach R xs ys → AreEach R us vs
      → AreEach R (xs ++ us) (ys ++ vs)
  each_both [] us [] vs h k = k
  each_both [] us (y ∷ ys) vs h k = absurd h
  each_both (x ∷ xs) us [] vs h k = absurd h
  each_both (x ∷ xs) us (y ∷ ys) vs h k = (h.0, each_both xs us ys vs h.1 k)

-- nodes stay
pub nodes_stay : (old new : Netlist) (ws ids : List ℕ) → Grows old new → AreEach (IsNodeOf old) ws ids
    → AreEach (IsNodeOf new) ws ids
nodes_stay old new [] [] grows h = tt
nodes_stay old new [] (id ∷ ids) grows h = absurd h
nodes_stay old new (w ∷ ws) [] grows h = absurd h
nodes_stay old new (w ∷ ws) (id ∷ ids) grows h =
    (grown_node old new w id grows h.0, nodes_stay old new ws ids grows h.1)

pub values_stay : (old new : Netlist) (g : Given) (ws ids : List ℕ) → Grows old new → AreEach (IsNodeOf old) ws ids
    → map (value_at new g) ids ≡ map (value_at old g) ids
values_stay old new g [] [] grows h = refl
values_stay old new g [] (id ∷ ids) grows h = absurd h
values_stay old new g (w ∷ ws) [] grows h = absurd h
values_stay old new g (w ∷ ws) (id ∷ ids) grows h =
    (λ i. grown_value old new g id grows h.0.0 i ∷ values_stay old new g ws ids grows h.1 i)

pub node_at : (net : Netlist) (ws ids : List ℕ) → AreEach (IsNodeOf net) ws ids → (i : ℕ) → i < length ids
    → IsNodeOf net (slice_index ws i) (slice_index ids i)
node_at net [] [] h i less = absurd (omega (arith, less))
node_at net [] (id ∷ ids) h i less = absurd h
node_at net (w ∷ ws) [] h i less = absurd h
node_at net (w ∷ ws) (id ∷ ids) h zero less = h.0
node_at net (w ∷ ws) (id ∷ ids) h (suc i) less = node_at net ws ids h.1 i (omega (arith, less))

pub index_of_map : (f : ℕ → ℕ) (xs : List ℕ) (i : ℕ) → i < length xs → slice_index (map f xs) i ≡ f (slice_index xs i)
index_of_map f [] i less = absurd (omega (arith, less))
index_of_map f (x ∷ xs) zero less = refl
index_of_map f (x ∷ xs) (suc i) less = index_of_map f xs i (omega (arith, less))
