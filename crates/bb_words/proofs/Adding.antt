-- A sum bit by bit.
use Rattle.std.specs.Prelude.{◌≡◌, refl, ℕ, ◌+◌, ◌<◌, ◌≤◌, Bool, List, [], ◌∷◌, ◌++◌}
use Rattle.std.specs.Prelude.{length, drop, slice_index_or}
use Rattle.std.proofs.Common.{ap, sym, ◌∙◌, arith, subst, append_assoc, append-nil}
use Rattle.std.proofs.lemmas.List.{map_push, length-map, drop_all}
use Rattle.bb_aig.specs.declared.node.AigNode.{AigNode}
use Rattle.bb_aig.specs.Graph.{IsLit, lit_at}
use Rattle.bb_aig.specs.Gates.{Meaning, Grows, IsMade, AreLits, bits, AreMade}
use Rattle.bb_aig.specs.Bits.{add_bits, summed, carried}
use Rattle.bb_aig.proofs.Growth.{lit_on, grows_on}
use Rattle.bb_words.proofs.Lits.{lit_in, lits_on, bits_on, lits_push, bit_here}

-- What an adder keeps: the bits so far with the sum of those that are left are the sum of all.
pub record Adding (old now : List AigNode) (a b : List ℕ) (below : ℕ) (i : ℕ) (out : List ℕ)
    (carry : ℕ) : Type 0 where
  pub grows : Grows old now
  pub there : AreLits now out
  pub carries : IsLit now carry
  pub value : (x : ℕ → Bool) → bits now x out
      ++ add_bits (lit_at now x carry) (drop i (bits old x a)) (drop i (bits old x b))
      ≡ add_bits (lit_at old x below) (bits old x a) (bits old x b)

pub adding_next : (old now new : List AigNode) (a b : List ℕ) (below i d e : ℕ) (out longer : List ℕ)
    (carry bit next : ℕ)
    → AreLits old a → AreLits old b → i < length a → length b ≡ length a
    → Adding old now a b below i out carry
    → Grows now new
    → ((f h k : Meaning) → IsMade now f (slice_index_or a i d) → IsMade now h (slice_index_or b i e)
    → IsMade now k carry
    → IsMade new (λ x. summed (f x) (h x) (k x)) bit)
    → ((f h k : Meaning) → IsMade now f (slice_index_or a i d) → IsMade now h (slice_index_or b i e)
    → IsMade now k carry
    → IsMade new (λ x. carried (f x) (h x) (k x)) next)
    → longer ≡ out ++ bit ∷ [] → Adding old new a b below (i + 1) longer next
adding_next old now new a b below i d e out longer carry bit next left right within each h grows bits_are carry_is
    pushed =
    let la = slice_index_or a i d in
    let lb = slice_index_or b i e in
    let ta : IsLit old la = lit_in old a i d left within in
    let tb : IsLit old lb = lit_in old b i e right (omega (arith, each)) in
    let f : Meaning = λ x. lit_at old x la in
    let g : Meaning = λ x. lit_at old x lb in
    let k : Meaning = λ x. lit_at now x carry in
    let ma : IsMade now f la = record { there = lit_on old now la h.grows ta; value = λ x. h.grows.kept x la ta } in
    let mb : IsMade now g lb = record { there = lit_on old now lb h.grows tb; value = λ x. h.grows.kept x lb tb } in
    let mc : IsMade now k carry = record { there = h.carries; value = λ x. refl } in
    let s = bits_are f g k ma mb mc in
    let c = carry_is f g k ma mb mc in
    let P : List ℕ → Type 0 = λ ls. Adding old new a b below (i + 1) ls next in
    let made : Adding old new a b below (i + 1) (out ++ bit ∷ []) next = record {
      grows = grows_on old now new h.grows grows;
      there = lits_push new out bit (lits_on now new out grows h.there) s.there;
      carries = c.there;
      value = λ x.
          let A = drop (i + 1) (bits old x a) in
          let B = drop (i + 1) (bits old x b) in
          ap (λ bs. bs ++ add_bits (lit_at new x next) A B) (map_push (lit_at new x) out bit)
          ∙ ap (λ v. (bits new x out ++ lit_at new x bit ∷ []) ++ add_bits v A B) (c.value x)
          ∙ ap (λ v. (bits new x out ++ v ∷ []) ++ add_bits (carried (f x) (g x) (k x)) A B) (s.value x)
          ∙ ap (λ bs. (bs ++ summed (f x) (g x) (k x) ∷ []) ++ add_bits (carried (f x) (g x) (k x)) A B)
          (bits_on now new x out grows h.there)
          ∙ append_assoc (bits now x out) (summed (f x) (g x) (k x) ∷ []) (add_bits (carried (f x) (g x) (k x)) A B)
          ∙ ap (λ us. bits now x out ++ add_bits (k x) us (g x ∷ B)) (sym (bit_here old x a i d within))
          ∙ ap (λ us. bits now x out ++ add_bits (k x) (drop i (bits old x a)) us)
          (sym (bit_here old x b i e (omega (arith, each))))
          ∙ h.value x;
    } in
    subst P (sym pushed) made

pub added_all : (old now : List AigNode) (a b : List ℕ) (below i : ℕ) (out : List ℕ) (carry : ℕ)
    → length a ≤ i
    → Adding old now a b below i out carry → AreMade now
    (λ x. add_bits (lit_at old x below) (bits old x a) (bits old x b)) out
added_all old now a b below i out carry past h = record {
  there = h.there;
  value = λ x.
      let none : drop i (bits old x a) ≡ [] = drop_all i (bits old x a) (omega (
        arith,
        length-map a
            (lit_at old x),
      )) in
      sym (append-nil (bits now x out))
      ∙ ap (λ us. bits now x out ++ add_bits (lit_at now x carry) us (drop i (bits old x b))) (sym none)
      ∙ h.value x;
}
