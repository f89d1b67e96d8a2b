-- A shift, bit by bit of its amount.
use Rattle.std.specs.Prelude.{◌≡◌, refl, ℕ, ◌+◌, ◌*◌, ◌^◌, ◌<◌, ◌≤◌, Bool, false}
use Rattle.std.specs.Prelude.{List, [], length, drop}
use Rattle.std.specs.Prelude.{replicate, slice_index_or}
use Rattle.std.proofs.Common.{ap, sym, ◌∙◌, arith, subst, inl, inr, ◌⊎◌, add-one}
use Rattle.std.proofs.lemmas.List.{drop-map, drop_all}
use Rattle.std.proofs.lemmas.Bool.{cases_lt}
use Rattle.bb_aig.specs.declared.node.AigNode.{AigNode}
use Rattle.bb_aig.specs.Graph.{IsLit, lit_at}
use Rattle.bb_aig.specs.Bits.{paired, pick, any_bit}
use Rattle.bb_aig.proofs.Numbers.{pow_next}
use Rattle.bb_aig.specs.Gates.{Grows, IsMade, AreLits, bits, AreMade}
use Rattle.bb_aig.proofs.Growth.{lit_on, grows_none, grows_on}
use Rattle.bb_words.specs.declared.shifts.Direction.{Direction}
use Rattle.bb_words.specs.Moves.{moved, shift_bits}
use Rattle.bb_words.proofs.Lits.{lit_in, bits_on, bit_here}
use Rattle.bb_words.proofs.Copies.{wide_bits, wide_by, length-paired, map-replicate}
use Rattle.bb_words.proofs.Past.{bits_moved, length-moved, shift_rest}

-- What the loop keeps: the word so far, moved by the bits that are left, is the word moved by all.
pub record Shifting (old now : List AigNode) (d : Direction) (fill : ℕ) (a by : List ℕ) (i : ℕ) (word : List ℕ)
    : Type 0 where
  pub grows : Grows old now
  pub there : AreLits now word
  pub wide : length word ≡ length a
  pub value : (x : ℕ → Bool)
      → shift_bits d (lit_at old x fill) (2 ^ i) (bits now x word) (drop i (bits old x by))
      ≡ shift_bits d (lit_at old x fill) 1 (bits old x a) (bits old x by)

pub shifting_none : (old : List AigNode) (d : Direction) (fill : ℕ) (a by word : List ℕ) → AreLits old a
    → word ≡ a
    → Shifting old old d fill a by 0 word
shifting_none old d fill a by word h e =
    let P : List ℕ → Type 0 = λ ls. Shifting old old d fill a by 0 ls in
    let made : Shifting old old d fill a by 0 a = record {
      grows = grows_none old;
      there = h;
      wide = refl;
      value = λ x. refl;
    } in
    subst P (sym e) made

-- one step: a choice between the word and the moved word
pub step_made : (old new : List AigNode) (d : Direction) (fill k test : ℕ) (word shifted made : List ℕ)
    → shifted ≡ moved d fill k word
    → AreMade new (λ x. paired (pick (lit_at old x test)) (bits old x shifted) (bits old x word)) made
    → AreMade new
    (λ x. paired (pick (lit_at old x test)) (moved d (lit_at old x fill) k (bits old x word)) (bits old x word)) made
step_made old new d fill k test word shifted made e m = record {
  there = m.there;
  value = λ x.
      m.value x
      ∙ ap (λ us. paired (pick (lit_at old x test)) us (bits old x word))
      (ap (bits old x) e ∙ bits_moved old x d fill k word);
}

pub shifting_next : (old now new : List AigNode) (d : Direction) (fill k i e : ℕ) (a by word made : List ℕ)
    → IsLit old fill → AreLits old by → i < length by → k ≡ 2 ^ i → Shifting old now d fill a by i word
    → Grows now new
    → AreMade new
    (λ x. paired (pick (lit_at now x (slice_index_or by i e)))
    (moved d (lit_at now x fill) k (bits now x word)) (bits now x word)) made
    → Shifting old new d fill a by (i + 1) made
shifting_next old now new d fill k i e a by word made tf right within is h grows m =
    let test = slice_index_or by i e in
    let none : ℕ → Bool = λ i. false in
    let step = λ (x : ℕ → Bool). moved d (lit_at now x fill) k (bits now x word) in
    record {
      grows = grows_on old now new h.grows grows;
      there = m.there;
      wide =
          let long : length (bits now none word) ≡ length (step none) = sym
          (length-moved d (lit_at now none fill) k (bits now none word)) in
          wide_by new (λ x. paired (pick (lit_at now x test)) (step x) (bits now x word)) made m
          ∙ length-paired (pick (lit_at now none test)) (step none) (bits now none word) long
          ∙ sym long ∙ wide_bits now none word ∙ h.wide;
      value = λ x.
          let f = lit_at old x fill in
          let y = lit_at old x test in
          let us = bits now x word in
          let rest = drop (i + 1) (bits old x by) in
          let p : 2 ^ (i + 1) ≡ 2 * 2 ^ i = ap (λ n. 2 ^ n) (add-one i) ∙ pow_next i in
          ap (λ n. shift_bits d f n (bits new x made) rest) p
          ∙ ap (λ vs. shift_bits d f (2 * 2 ^ i) vs rest) (m.value x)
          ∙ ap (λ b. shift_bits d f (2 * 2 ^ i) (paired (pick b) (step x) us) rest)
          (h.grows.kept x test (lit_in old by i e right within))
          ∙ ap (λ b. shift_bits d f (2 * 2 ^ i) (paired (pick y) (moved d b k us) us) rest) (h.grows.kept x fill tf)
          ∙ ap (λ n. shift_bits d f (2 * 2 ^ i) (paired (pick y) (moved d f n us) us) rest) is
          ∙ ap (λ ys. shift_bits d f (2 ^ i) us ys) (sym (bit_here old x by i e within))
          ∙ h.value x;
    }

-- the last choice: what an amount past the width gives
pub shifted_all : (old now mid new : List AigNode) (d : Direction) (fill i none past : ℕ)
    (a by word rest filled made : List ℕ)
    → IsLit old fill → AreLits old by → (i < length by → length a ≤ 2 ^ i)
    → Shifting old now d fill a by i word → IsMade now (λ x. false) none → rest ≡ drop i by → Grows now mid
    → IsMade mid (λ x. any_bit (lit_at now x none) (bits now x rest)) past → filled ≡ replicate (length a) fill
    → AreMade new (λ x. paired (pick (lit_at mid x past)) (bits mid x filled) (bits mid x word)) made
    → AreMade new (λ x. shift_bits d (lit_at old x fill) 1 (bits old x a) (bits old x by)) made
shifted_all old now mid new d fill i none past a by word rest filled made tf right enough h is_no is grows any all m =
    record {
      there = m.there;
      value = λ x.
          let f = lit_at old x fill in
          let us = bits now x word in
          let ys = drop i (bits old x by) in
          let far : (length us ≤ 2 ^ i) ⊎ (ys ≡ []) = elim (cases_lt i (length by)) [
            | inl lt ↦ inl (omega (arith, wide_bits now x word, h.wide, enough lt))
            | inr ge ↦ inr (drop_all i (bits old x by) (omega (arith, wide_bits old x by)))
          ] in
          let left : bits now x rest ≡ ys = ap (bits now x) is ∙ sym (drop-map (lit_at now x) i by)
          ∙ ap (drop i) (bits_on old now x by h.grows right) in
          let wide : length a ≡ length us = sym (wide_bits now x word ∙ h.wide) in
          let fills : bits mid x filled ≡ replicate (length us) f =
          ap (bits mid x) all ∙ map-replicate (lit_at mid x) (length a) fill
          ∙ ap (replicate (length a)) (grows.kept x fill (lit_on old now fill h.grows tf) ∙ h.grows.kept x fill tf)
          ∙ ap (λ n. replicate n f) wide in
          m.value x
          ∙ ap (λ b. paired (pick b) (bits mid x filled) (bits mid x word))
          (any.value x ∙ ap (λ b. any_bit b (bits now x rest)) (is_no.value x) ∙ ap (any_bit false) left)
          ∙ ap (λ vs. paired (pick (any_bit false ys)) vs (bits mid x word)) fills
          ∙ ap (λ vs. paired (pick (any_bit false ys)) (replicate (length us) f) vs)
          (bits_on now mid x word grows h.there)
          ∙ sym (shift_rest d f (2 ^ i) us ys far) ∙ h.value x;
    }
