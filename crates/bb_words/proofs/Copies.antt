-- Lists of literals that are parts, joins and turned copies of others.
use Rattle.std.specs.Prelude.{◌≡◌, refl, ℕ, zero, suc, ◌+◌, ◌-◌, ◌%◌, ◌≤◌}
use Rattle.std.specs.Prelude.{◌==◌, Bool, true, false, not}
use Rattle.std.specs.Prelude.{if◌then◌else◌, List, [], ◌∷◌, ◌++◌, length, map, drop, take, replicate}
use Rattle.std.specs.Prelude.{slice_index_or}
use Rattle.std.proofs.Common.{ap, sym, ◌∙◌, arith, subst, inl, inr, ◌⊎◌}
use Rattle.std.proofs.lemmas.List.{length-map}
use Rattle.std.proofs.lemmas.Bool.{cases_eq}
use Rattle.bb_aig.specs.declared.node.AigNode.{AigNode}
use Rattle.bb_aig.specs.Graph.{IsLit, IsGraph, Begins, lit_at, complement}
use Rattle.bb_aig.proofs.Others.{odd_turned, even_turned, even_there}
use Rattle.bb_aig.specs.Bits.{paired, top, turned_top}
use Rattle.bb_aig.specs.Gates.{Meanings, IsMade, AreLits, bits, AreMade}
use Rattle.bb_aig.proofs.Growth.{made_by, made_true, made_false}
use Rattle.bb_words.proofs.Lits.{lit_in}

pub wide_bits : (graph : List AigNode) (x : ℕ → Bool) (lits : List ℕ) → length
    (bits graph x lits) ≡ length lits
wide_bits graph x lits = length-map lits (lit_at graph x)

-- by their bits under one choice of inputs
pub wide_by : (graph : List AigNode) (F : Meanings) (lits : List ℕ) → AreMade graph F lits
    → length lits ≡ length (F (λ i. false))
wide_by graph F lits m = sym (wide_bits graph (λ i. false) lits) ∙ ap length (m.value (λ i. false))

pub length-paired : (f : Bool → Bool → Bool) (xs ys : List Bool) → length ys ≡ length xs
    → length (paired f xs ys) ≡ length xs
length-paired f [] ys h = refl
length-paired f (x ∷ xs) [] h = absurd (omega arith)
length-paired f (x ∷ xs) (y ∷ ys) h = omega (arith, length-paired f xs ys (omega arith))

pub lits_take : (graph : List AigNode) (k : ℕ) (lits : List ℕ) → AreLits graph lits → AreLits graph
    (take k lits)
lits_take graph zero lits h = tt
lits_take graph (suc k) [] h = tt
lits_take graph (suc k) (l ∷ ls) h = (h.0, lits_take graph k ls h.1)

pub lits_drop : (graph : List AigNode) (k : ℕ) (lits : List ℕ) → AreLits graph lits → AreLits graph
    (drop k lits)
lits_drop graph zero lits h = h
lits_drop graph (suc k) [] h = tt
lits_drop graph (suc k) (l ∷ ls) h = lits_drop graph k ls h.1

pub lits_join : (graph : List AigNode) (a b : List ℕ) → AreLits graph a → AreLits graph b → AreLits graph
    (a ++ b)
lits_join graph [] b h k = k
lits_join graph (l ∷ ls) b h k = (h.0, lits_join graph ls b h.1 k)

pub lits_replicate : (graph : List AigNode) (k l : ℕ) → IsLit graph l → AreLits graph (replicate k l)
lits_replicate graph zero l h = tt
lits_replicate graph (suc k) l h = (h, lits_replicate graph k l h)

pub map-replicate : {A B : Type 0} (f : A → B) → (k : ℕ) (a : A) → map f (replicate k a) ≡ replicate k (f a)
map-replicate f zero a = refl
map-replicate f (suc k) a = ap (λ bs. f a ∷ bs) (map-replicate f k a)

-- ---- the other literals

odd_or_even : (l : ℕ) → (l % 2 ≡ 1) ⊎ (l % 2 ≡ 1 → ⊥)
odd_or_even l = cases_eq (l % 2) 1

complement_odd : (l : ℕ) → l % 2 ≡ 1 → complement l ≡ l - 1
complement_odd l e = ap (λ r. if r == 1 then l - 1 else l + 1) e

complement_even : (l : ℕ) → (l % 2 ≡ 1 → ⊥) → complement l ≡ l + 1
complement_even l ne = let e : l % 2 ≡ 0 = omega arith in ap (λ r. if r == 1 then l - 1 else l + 1) e

pub other_lit : (graph : List AigNode) (x : ℕ → Bool) (l : ℕ) → lit_at graph x (complement l) ≡ not
    (lit_at graph x l)
other_lit graph x l = elim (odd_or_even l) [
  | inl o ↦ odd_turned graph x l (complement l) o (complement_odd l o)
  | inr ne ↦ even_turned graph x l (complement l) ne (complement_even l ne)
]

pub other_there : (graph : List AigNode) (l : ℕ) → IsLit graph l → IsLit graph (complement l)
other_there graph l h = elim (odd_or_even l) [
  | inl o ↦ omega (arith, complement_odd l o, h)
  | inr ne ↦ even_there graph l (complement l) ne (complement_even l ne) h
]

pub bits_complement : (graph : List AigNode) (x : ℕ → Bool) (lits : List ℕ)
    → bits graph x (map complement lits) ≡ map not (bits graph x lits)
bits_complement graph x [] = refl
bits_complement graph x (l ∷ ls) =
    ap (λ b. b ∷ bits graph x (map complement ls)) (other_lit graph x l)
    ∙ ap (λ bs. not (lit_at graph x l) ∷ bs) (bits_complement graph x ls)

pub lits_complement : (graph : List AigNode) (lits : List ℕ) → AreLits graph lits → AreLits graph
    (map complement lits)
lits_complement graph [] h = tt
lits_complement graph (l ∷ ls) h = (other_there graph l h.0, lits_complement graph ls h.1)

-- ---- the highest bit

pub top_is : (graph : List AigNode) (x : ℕ → Bool) (lits : List ℕ) (i d : ℕ) → length lits ≡ i + 1
    → lit_at graph x (slice_index_or lits i d) ≡ top (bits graph x lits)
top_is graph x [] i d e = absurd (omega arith)
top_is graph x (l ∷ []) zero d e = refl
top_is graph x (l ∷ []) (suc i) d e = absurd (omega arith)
top_is graph x (l ∷ k ∷ ls) zero d e = absurd (omega arith)
top_is graph x (l ∷ k ∷ ls) (suc i) d e = top_is graph x (k ∷ ls) i d (omega arith)

pub top_turned : (graph : List AigNode) (x : ℕ → Bool) (lits : List ℕ) (i d k : ℕ) → length lits ≡ i + 1
    → lit_at graph x k ≡ not (lit_at graph x (slice_index_or lits i d))
    → bits graph x (take i lits ++ k ∷ []) ≡ turned_top (bits graph x lits)
top_turned graph x [] i d k e h = absurd (omega arith)
top_turned graph x (l ∷ []) zero d k e h = ap (λ b. b ∷ []) h
top_turned graph x (l ∷ []) (suc i) d k e h = absurd (omega arith)
top_turned graph x (l ∷ m ∷ ls) zero d k e h = absurd (omega arith)
top_turned graph x (l ∷ m ∷ ls) (suc i) d k e h =
    ap (λ bs. lit_at graph x l ∷ bs) (top_turned graph x (m ∷ ls) i d k (omega arith) h)

-- a word with another highest literal
pub made_top_turned : (graph : List AigNode) (lits longer : List ℕ) (i d k : ℕ) → length lits ≡ i + 1
    → (IsLit graph (slice_index_or lits i d) → IsLit graph k)
    → ((x : ℕ → Bool) → lit_at graph x k ≡ not (lit_at graph x (slice_index_or lits i d)))
    → longer ≡ take i lits ++ k ∷ [] → AreLits graph lits
    → AreMade graph (λ x. turned_top (bits graph x lits)) longer
made_top_turned graph lits longer i d k e there turned is h =
    let P : List ℕ → Type 0 = λ ls. AreMade graph (λ x. turned_top (bits graph x lits)) ls in
    let made : AreMade graph (λ x. turned_top (bits graph x lits)) (take i lits ++ k ∷ []) = record {
      there = lits_join graph (take i lits) (k ∷ []) (lits_take graph i lits h)
          (there (lit_in graph lits i d h (omega arith)), tt);
      value = λ x. top_turned graph x lits i d k e (turned x);
    } in
    subst P (sym is) made

-- the same literals
pub made_as : (graph : List AigNode) (F : Meanings) (lits r : List ℕ) → r ≡ lits → AreMade graph F lits
    → AreMade graph F r
made_as graph F lits r e h = let P : List ℕ → Type 0 = λ ls. AreMade graph F ls in subst P (sym e) h

-- ---- constants

some_nodes : (graph : List AigNode) → IsGraph graph → 1 ≤ length graph
some_nodes graph g = some graph g.begins
  where
    some : (gs : List AigNode) → Begins gs → 1 ≤ length gs
    some [] h = absurd h
    some (g ∷ gs) h = omega arith

pub one_made : (graph shown : List AigNode) (value : Bool) → shown ≡ graph → IsGraph shown → value ≡ true
    → IsMade graph (λ x. value) 1
one_made graph shown value is h e =
    let g = subst IsGraph is h in
    made_by graph (λ x. true) (λ x. value) 1 (λ x. sym e) (made_true graph g (some_nodes graph g))

pub zero_made : (graph shown : List AigNode) (value : Bool) → shown ≡ graph → IsGraph shown → value ≡ false
    → IsMade graph (λ x. value) 0
zero_made graph shown value is h e =
    let g = subst IsGraph is h in
    made_by graph (λ x. false) (λ x. value) 0 (λ x. sym e) (made_false graph g (some_nodes graph g))
