-- Bits that are made pair by pair of two words: a choice, or an operator on each bit.
use Rattle.std.specs.Prelude.{◌≡◌, ℕ, ◌+◌, ◌<◌, ◌≤◌, Bool, List, [], ◌∷◌, ◌++◌}
use Rattle.std.specs.Prelude.{length, drop, slice_index_or}
use Rattle.std.proofs.Common.{ap, sym, ◌∙◌, arith, subst, append_assoc, append-nil}
use Rattle.std.proofs.lemmas.List.{map_push, length-map, drop_all}
use Rattle.bb_aig.specs.declared.node.AigNode.{AigNode}
use Rattle.bb_aig.specs.Graph.{lit_at}
use Rattle.bb_aig.specs.Gates.{Meaning, Grows, IsMade, AreLits, bits, AreMade}
use Rattle.bb_aig.specs.Bits.{paired}
use Rattle.bb_aig.proofs.Growth.{grows_on}
use Rattle.bb_words.proofs.Lits.{lit_in, lits_on, bits_on, lits_push, bit_here, meant}

-- an operator on bits for each choice of inputs
abbrev pub Operator : Type 0
Operator = (ℕ → Bool) → Bool → Bool → Bool

-- What a loop keeps: the bits so far with those that are left are all.
pub record Pairing (op : Operator) (old now : List AigNode) (a b : List ℕ) (i : ℕ) (out : List ℕ) : Type 0 where
  pub grows : Grows old now
  pub there : AreLits now out
  pub value : (x : ℕ → Bool) → bits now x out ++ paired (op x) (drop i (bits old x a)) (drop i (bits old x b))
      ≡ paired (op x) (bits old x a) (bits old x b)

pub pairing_next : (op : Operator) (old now new : List AigNode) (a b : List ℕ) (i d e : ℕ) (out longer : List ℕ)
    (bit : ℕ)
    → AreLits old a → AreLits old b → i < length a → length b ≡ length a → Pairing op old now a b i out
    → Grows now new
    → ((f h : Meaning) → IsMade now f (slice_index_or a i d) → IsMade now h (slice_index_or b i e)
    → IsMade new (λ x. op x (f x) (h x)) bit)
    → longer ≡ out ++ bit ∷ [] → Pairing op old new a b (i + 1) longer
pairing_next op old now new a b i d e out longer bit left right within each h grows is pushed =
    let la = slice_index_or a i d in
    let lb = slice_index_or b i e in
    let f : Meaning = λ x. lit_at old x la in
    let g : Meaning = λ x. lit_at old x lb in
    let s = is f g (meant old now la h.grows (lit_in old a i d left within))
    (meant old now lb h.grows (lit_in old b i e right (omega (arith, each)))) in
    let P : List ℕ → Type 0 = λ ls. Pairing op old new a b (i + 1) ls in
    let made : Pairing op old new a b (i + 1) (out ++ bit ∷ []) = record {
      grows = grows_on old now new h.grows grows;
      there = lits_push new out bit (lits_on now new out grows h.there) s.there;
      value = λ x.
          let A = drop (i + 1) (bits old x a) in
          let B = drop (i + 1) (bits old x b) in
          let p = op x in
          ap (λ bs. bs ++ paired p A B) (map_push (lit_at new x) out bit)
          ∙ ap (λ v. (bits new x out ++ v ∷ []) ++ paired p A B) (s.value x)
          ∙ ap (λ bs. (bs ++ p (f x) (g x) ∷ []) ++ paired p A B) (bits_on now new x out grows h.there)
          ∙ append_assoc (bits now x out) (p (f x) (g x) ∷ []) (paired p A B)
          ∙ ap (λ us. bits now x out ++ paired p us (g x ∷ B)) (sym (bit_here old x a i d within))
          ∙ ap (λ us. bits now x out ++ paired p (drop i (bits old x a)) us)
          (sym (bit_here old x b i e (omega (arith, each))))
          ∙ h.value x;
    } in
    subst P (sym pushed) made

pub paired_all : (op : Operator) (old now : List AigNode) (a b : List ℕ) (i : ℕ) (out : List ℕ) → length a ≤ i
    → Pairing op old now a b i out → AreMade now (λ x. paired (op x) (bits old x a) (bits old x b)) out
paired_all op old now a b i out past h = record {
  there = h.there;
  value = λ x.
      let none : drop i (bits old x a) ≡ [] = drop_all i (bits old x a) (omega (
        arith,
        length-map a
            (lit_at old x),
      )) in
      sym (append-nil (bits now x out))
      ∙ ap (λ us. bits now x out ++ paired (op x) us (drop i (bits old x b))) (sym none) ∙ h.value x;
}
