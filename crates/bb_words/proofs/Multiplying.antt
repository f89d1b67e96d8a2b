-- A product, row by row.
use Rattle.std.specs.Prelude.{◌≡◌, ℕ, ◌+◌, ◌<◌, ◌≤◌, Bool, false, ◌&&◌, List}
use Rattle.std.specs.Prelude.{[], length, drop, map}
use Rattle.std.specs.Prelude.{replicate, slice_index_or}
use Rattle.std.proofs.Common.{ap, sym, ◌∙◌, arith, subst}
use Rattle.std.proofs.lemmas.List.{drop_all, length-map, length-replicate}
use Rattle.bb_aig.specs.declared.node.AigNode.{AigNode}
use Rattle.bb_aig.specs.Graph.{lit_at}
use Rattle.bb_aig.specs.Bits.{add_bits, mul_bits}
use Rattle.bb_aig.proofs.Sums.{length-add}
use Rattle.bb_aig.specs.Gates.{Grows, IsMade, AreLits, bits, AreMade}
use Rattle.bb_aig.proofs.Growth.{grows_none, grows_on, made_on}
use Rattle.bb_words.specs.declared.shifts.Direction.TheVariants.{Up}
use Rattle.bb_words.specs.Moves.{moved}
use Rattle.bb_words.proofs.Lits.{lit_in, lits_on, bits_on, bit_here}
use Rattle.bb_words.proofs.Copies.{wide_bits, wide_by, lits_replicate, map-replicate}
use Rattle.bb_words.proofs.Past.{lits_moved, bits_moved, length-moved}

-- a row that is added
pub row_added : (old mid new : List AigNode) (bit none : ℕ) (sum row masked made : List ℕ) → AreLits old sum
    → Grows old mid → AreMade mid (λ x. map (λ v. lit_at old x bit && v) (bits old x row)) masked
    → IsMade mid (λ x. false) none
    → AreMade new (λ x. add_bits (lit_at mid x none) (bits mid x sum) (bits mid x masked)) made
    → AreMade new (λ x. add_bits false (bits old x sum) (map (λ v. lit_at old x bit && v) (bits old x row))) made
row_added old mid new bit none sum row masked made h grows is is_no m = record {
  there = m.there;
  value = λ x.
      m.value x ∙ ap (λ b. add_bits b (bits mid x sum) (bits mid x masked)) (is_no.value x)
      ∙ ap (λ us. add_bits false us (bits mid x masked)) (bits_on old mid x sum grows h)
      ∙ ap (add_bits false (bits old x sum)) (is.value x);
}

-- What the loop keeps: the sum so far, with the rows that are left, is the product.
pub record Multiplying (old now : List AigNode) (a b : List ℕ) (i : ℕ) (sum row : List ℕ) : Type 0 where
  pub grows : Grows old now
  pub sum_there : AreLits now sum
  pub row_there : AreLits now row
  pub sum_wide : length sum ≡ length a
  pub row_wide : length row ≡ length a
  pub value : (x : ℕ → Bool) → mul_bits (bits now x sum) (bits now x row) (drop i (bits old x b))
      ≡ mul_bits (replicate (length a) false) (bits old x a) (bits old x b)

pub multiplying_none : (old : List AigNode) (none : ℕ) (a b sum row : List ℕ) → AreLits old a
    → IsMade old (λ x. false) none → sum ≡ replicate (length a) none → row ≡ a
    → Multiplying old old a b 0 sum row
multiplying_none old none a b sum row h is_no zeros is = record {
  grows = grows_none old;
  sum_there =
      let P : List ℕ → Type 0 = λ ls. AreLits old ls in
      subst P (sym zeros) (lits_replicate old (length a) none is_no.there);
  row_there = let P : List ℕ → Type 0 = λ ls. AreLits old ls in subst P (sym is) h;
  sum_wide = ap length zeros ∙ length-replicate (length a) none;
  row_wide = ap length is;
  value = λ x.
      let z : bits old x sum ≡ replicate (length a) false = ap (bits old x) zeros
      ∙ map-replicate (lit_at old x) (length a) none ∙ ap (replicate (length a)) (is_no.value x) in
      ap (λ us. mul_bits us (bits old x row) (bits old x b)) z
      ∙ ap (λ ls. mul_bits (replicate (length a) false) (bits old x ls) (bits old x b)) is;
}

pub multiplying_next : (old now new : List AigNode) (none i e : ℕ) (a b sum row more higher : List ℕ)
    → AreLits old b
    → i < length b → IsMade old (λ x. false) none → Multiplying old now a b i sum row → Grows now new
    → AreMade new
    (λ x. add_bits false (bits now x sum) (map (λ v. lit_at now x (slice_index_or b i e) && v) (bits now x row))) more
    → higher ≡ moved Up none 1 row → Multiplying old new a b (i + 1) more higher
multiplying_next old now new none i e a b sum row more higher right within is_no h grows m is =
    let bit = slice_index_or b i e in
    let zero : ℕ → Bool = λ i. false in
    let no_now = made_on old now (λ x. false) none h.grows is_no in
    let no_new = made_on now new (λ x. false) none grows no_now in
    let rows = lits_on now new row grows h.row_there in
    record {
      grows = grows_on old now new h.grows grows;
      sum_there = m.there;
      row_there =
          let P : List ℕ → Type 0 = λ ls. AreLits new ls in
          subst P (sym is) (lits_moved new Up none 1 row no_new.there rows);
      sum_wide =
          let masked = map (λ v. lit_at now zero bit && v) (bits now zero row) in
          let even : length masked ≡ length (bits now zero sum) =
          length-map (bits now zero row) (λ v. lit_at now zero bit && v) ∙ wide_bits now zero row
          ∙ h.row_wide ∙ sym (wide_bits now zero sum ∙ h.sum_wide) in
          wide_by new
          (λ x. add_bits false (bits now x sum) (map (λ v. lit_at now x bit && v) (bits now x row))) more m
          ∙ length-add false (bits now zero sum) masked even ∙ wide_bits now zero sum ∙ h.sum_wide;
      row_wide = ap length is ∙ length-moved Up none 1 row ∙ h.row_wide;
      value = λ x.
          let s = bits now x sum in
          let r = bits now x row in
          let y = lit_at old x bit in
          let rest = drop (i + 1) (bits old x b) in
          let up : bits new x higher ≡ moved Up false 1 r = ap (bits new x) is ∙ bits_moved new x Up none 1 row
          ∙ ap (λ f. moved Up f 1 (bits new x row)) (no_new.value x)
          ∙ ap (moved Up false 1) (bits_on now new x row grows h.row_there) in
          ap (λ us. mul_bits us (bits new x higher) rest) (m.value x)
          ∙ ap (λ v. mul_bits (add_bits false s (map (λ u. v && u) r)) (bits new x higher) rest)
          (h.grows.kept x bit (lit_in old b i e right within))
          ∙ ap (λ us. mul_bits (add_bits false s (map (λ u. y && u) r)) us rest) up
          ∙ ap (mul_bits s r) (sym (bit_here old x b i e within)) ∙ h.value x;
    }

pub multiplied_all : (old now : List AigNode) (a b : List ℕ) (i : ℕ) (sum row : List ℕ) → length b ≤ i
    → Multiplying old now a b i sum row
    → AreMade now (λ x. mul_bits (replicate (length a) false) (bits old x a) (bits old x b)) sum
multiplied_all old now a b i sum row past h = record {
  there = h.sum_there;
  value = λ x.
      let none : drop i (bits old x b) ≡ [] = drop_all i (bits old x b) (omega (arith, wide_bits old x b)) in
      ap (mul_bits (bits now x sum) (bits now x row)) (sym none) ∙ h.value x;
}
