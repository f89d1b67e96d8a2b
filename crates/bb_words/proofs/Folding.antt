-- What is found bit by bit of two words: a comparison, or whether both are equal.
use Rattle.std.specs.Prelude.{◌≡◌, refl, ℕ, ◌+◌, ◌<◌, ◌≤◌, Bool, ◌&&◌, ◌||◌, not, List}
use Rattle.std.specs.Prelude.{[], ◌∷◌, length}
use Rattle.std.specs.Prelude.{drop, slice_index_or}
use Rattle.std.proofs.Common.{ap, sym, ◌∙◌, arith}
use Rattle.std.proofs.lemmas.List.{length-map, drop_all}
use Rattle.bb_aig.specs.declared.node.AigNode.{AigNode}
use Rattle.bb_aig.specs.Graph.{IsLit, lit_at}
use Rattle.bb_aig.specs.Gates.{Meaning, Grows, IsMade, AreLits, bits}
use Rattle.bb_aig.specs.Bits.{less_bits, same_bits, any_bit, pick, differ}
use Rattle.bb_aig.proofs.Growth.{grows_on}
use Rattle.bb_words.proofs.Lits.{lit_in, bit_here, meant, means_itself}

-- what is found of two lists goes on from bit to bit by a step
pub record Steps (found : Bool → List Bool → List Bool → Bool) (step : Bool → Bool → Bool
    → Bool) : Type 0 where
  pub none : (r : Bool) (ys : List Bool) → found r [] ys ≡ r
  pub more : (r x y : Bool) (xs ys : List Bool) → found r (x ∷ xs) (y ∷ ys) ≡ found (step r x y) xs ys

-- What a loop keeps: of the bits that are left, with what is found so far, as of all.
pub record Folding (found : Bool → List Bool → List Bool → Bool) (old now : List AigNode) (a b : List ℕ)
    (begin i so_far : ℕ) : Type 0 where
  pub grows : Grows old now
  pub there : IsLit now so_far
  pub value : (x : ℕ → Bool) → found (lit_at now x so_far) (drop i (bits old x a)) (drop i (bits old x b))
      ≡ found (lit_at old x begin) (bits old x a) (bits old x b)

pub folding_next : (found : Bool → List Bool → List Bool → Bool) (step : Bool → Bool → Bool → Bool)
    → Steps found step
    → (old now new : List AigNode) (a b : List ℕ) (begin i d e so_far next : ℕ) → AreLits old a
    → AreLits old b
    → i < length a
    → length b ≡ length a → Folding found old now a b begin i so_far → Grows now new
    → ((f h k : Meaning) → IsMade now f (slice_index_or a i d) → IsMade now h (slice_index_or b i e)
    → IsMade now k so_far
    → IsMade new (λ x. step (k x) (f x) (h x)) next)
    → Folding found old new a b begin (i + 1) next
folding_next found step steps old now new a b begin i d e so_far next left right within each h grows is =
    let la = slice_index_or a i d in
    let lb = slice_index_or b i e in
    let f : Meaning = λ x. lit_at old x la in
    let g : Meaning = λ x. lit_at old x lb in
    let k : Meaning = λ x. lit_at now x so_far in
    let ma = meant old now la h.grows (lit_in old a i d left within) in
    let mb = meant old now lb h.grows (lit_in old b i e right (omega (arith, each))) in
    let s = is f g k ma mb (means_itself now so_far h.there) in
    record {
      grows = grows_on old now new h.grows grows;
      there = s.there;
      value = λ x.
          let A = drop (i + 1) (bits old x a) in
          let B = drop (i + 1) (bits old x b) in
          ap (λ v. found v A B) (s.value x)
          ∙ sym (steps.more (k x) (f x) (g x) A B)
          ∙ ap (λ us. found (k x) us (g x ∷ B)) (sym (bit_here old x a i d within))
          ∙ ap (λ us. found (k x) (drop i (bits old x a)) us) (sym (bit_here old x b i e (omega (arith, each))))
          ∙ h.value x;
    }

pub folded_all : (found : Bool → List Bool → List Bool → Bool) (step : Bool → Bool → Bool → Bool)
    → Steps found step
    → (old now : List AigNode) (a b : List ℕ) (begin i so_far : ℕ) → length a ≤ i
    → Folding found old now a b begin i so_far
    → IsMade now (λ x. found (lit_at old x begin) (bits old x a) (bits old x b)) so_far
folded_all found step steps old now a b begin i so_far past h = record {
  there = h.there;
  value = λ x.
      let none : drop i (bits old x a) ≡ [] = drop_all i (bits old x a) (omega (
        arith,
        length-map a
            (lit_at old x),
      )) in
      sym (steps.none (lit_at now x so_far) (drop i (bits old x b)))
      ∙ ap (λ us. found (lit_at now x so_far) us (drop i (bits old x b))) (sym none) ∙ h.value x;
}

pub less_steps : Steps less_bits (λ r x y. pick (differ x y) y r)
less_steps = record { none = λ r ys. refl; more = λ r x y xs ys. refl }

pub same_steps : Steps same_bits (λ r x y. r && not (differ x y))
same_steps = record { none = λ r ys. refl; more = λ r x y xs ys. refl }

pub any_steps : Steps (λ r xs ys. any_bit r xs) (λ r x y. r || x)
any_steps = record { none = λ r ys. refl; more = λ r x y xs ys. refl }
