-- Equal calls answer one number.
use Rattle.std.specs.Prelude.{◌≡◌, refl, ℕ, ◌+◌, ◌^◌, ◌<◌, ◌≤◌, ◌==◌, ◌&&◌, Bool, true, false, List}
use Rattle.std.specs.Prelude.{length, slice_get, slice_index, if◌then◌else◌}
use Rattle.std.proofs.Common.{ap, sym, ◌∙◌, arith, subst, true≢false, ◌⊎◌, inl, inr}
use Rattle.std.proofs.lemmas.Bool.{cases_lt}
use Rattle.fv_graph.proofs.Lists.{get_less, get_some}
use Rattle.fv_text.specs.declared.word.Word.{Word}
use Rattle.fv_text.specs.Word.{number}
use Rattle.wn_net.specs.declared.node.Node.{Node}
use Rattle.wn_net.specs.declared.node.Node.TheVariants as n
use Rattle.wn_net.specs.Width.{IsFitting}
use Rattle.wn_net.specs.Net.{Netlist, shape_of, widths_of, values_of, width_at, value_at}
use Rattle.wn_net.specs.Changes.{Grows, IsBegun, width_in, value_in}
use Rattle.wn_net.proofs.Laws.{grows_on}
use Rattle.wn_net.proofs.Stays.{length-widths_of}
use Rattle.wn_opt.specs.declared.fold.Folded.{Folded}
use Rattle.wn_opt.specs.declared.fold.Folded.TheVariants as f
use Rattle.wn_opt.specs.Folding.{is_constant, is_known, reads_constants, nothing, simpler, folded}
use Rattle.wn_opt.specs.Folding.{unless_equal, lower, higher}
use Rattle.wn_opt.specs.Hashing.{IsFirst, IsOnce, Gives}
use Rattle.wn_opt.specs.Laws.{EqualCallsAnswerOneNumber}
use Rattle.wn_opt.specs.Needed.{IsIn, operands}
use Rattle.wn_opt.proofs.Before.{operands_there}
use Rattle.wn_opt.proofs.In.{get_begun}
use Rattle.wn_opt.proofs.Tables.{same_word}

-- ---- a node comes to the same in a net with more

module _ (a c : Netlist) (grows : Grows a c) where
  get_same : (p : ℕ) → p < length a.nodes → slice_get c.nodes p ≡ slice_get a.nodes p
  get_same p less =
      let x = get_some a.nodes p less in
      get_begun a.nodes c.nodes p x.0 grows.nodes x.1 ∙ sym x.1

  known_same : (p : ℕ) → p < length a.nodes → is_known c p ≡ is_known a p
  known_same p less = ap is_constant (get_same p less)

  module _ (x : Node) (fits : IsFitting (shape_of a) (widths_of a) x) where
    there : (p : ℕ) → IsIn (operands x) p → p < length a.nodes
    there p i = omega (arith, operands_there (shape_of a) (widths_of a) x fits p i, length-widths_of a)

    k : (p : ℕ) → IsIn (operands x) p → is_known c p ≡ is_known a p
    k p i = known_same p (there p i)

    v : (p : ℕ) → IsIn (operands x) p
        → slice_index (values_of c nothing) p ≡ slice_index (values_of a nothing) p
    unfolding value_at
    v p i = grows.values nothing p (there p i)

    w : (p : ℕ) → IsIn (operands x) p → slice_index (widths_of c) p ≡ slice_index (widths_of a) p
    unfolding width_at
    w p i = grows.widths p (there p i)

  reads_same : (x : Node) → IsFitting (shape_of a) (widths_of a) x → reads_constants c x ≡ reads_constants a x
  reads_same (n.Konst word) h = refl
  reads_same (n.Input i) h = refl
  reads_same (n.Reg i) h = refl
  reads_same (n.Read m p) h = refl
  reads_same (n.Not p) h = k (n.Not p) h p (0, refl)
  reads_same (n.And p q) h = λ i. k (n.And p q) h p (0, refl) i && k (n.And p q) h q (1, refl) i
  reads_same (n.Or p q) h = λ i. k (n.Or p q) h p (0, refl) i && k (n.Or p q) h q (1, refl) i
  reads_same (n.Xor p q) h = λ i. k (n.Xor p q) h p (0, refl) i && k (n.Xor p q) h q (1, refl) i
  reads_same (n.Add p q) h = λ i. k (n.Add p q) h p (0, refl) i && k (n.Add p q) h q (1, refl) i
  reads_same (n.Sub p q) h = λ i. k (n.Sub p q) h p (0, refl) i && k (n.Sub p q) h q (1, refl) i
  reads_same (n.Mul p q) h = λ i. k (n.Mul p q) h p (0, refl) i && k (n.Mul p q) h q (1, refl) i
  reads_same (n.Eq p q) h = λ i. k (n.Eq p q) h p (0, refl) i && k (n.Eq p q) h q (1, refl) i
  reads_same (n.Ult p q) h = λ i. k (n.Ult p q) h p (0, refl) i && k (n.Ult p q) h q (1, refl) i
  reads_same (n.Slt p q) h = λ i. k (n.Slt p q) h p (0, refl) i && k (n.Slt p q) h q (1, refl) i
  reads_same (n.Shl p q) h = λ i. k (n.Shl p q) h p (0, refl) i && k (n.Shl p q) h q (1, refl) i
  reads_same (n.Lshr p q) h = λ i. k (n.Lshr p q) h p (0, refl) i && k (n.Lshr p q) h q (1, refl) i
  reads_same (n.Ashr p q) h = λ i. k (n.Ashr p q) h p (0, refl) i && k (n.Ashr p q) h q (1, refl) i
  reads_same (n.Concat p q) h = λ i. k (n.Concat p q) h p (0, refl) i && k (n.Concat p q) h q (1, refl) i
  reads_same (n.Mux t p q) h =
      λ i. k (n.Mux t p q) h t (0, refl) i && (k (n.Mux t p q) h p (1, refl) i && k (n.Mux t p q) h q (2, refl) i)
  reads_same (n.Slice p at z) h = k (n.Slice p at z) h p (0, refl)
  reads_same (n.Zext p z) h = k (n.Zext p z) h p (0, refl)
  reads_same (n.Sext p z) h = k (n.Sext p z) h p (0, refl)

  -- the width and the number of an operator of constants
  width_same : (x : Node) → IsFitting (shape_of a) (widths_of a) x → reads_constants c x ≡ true
      → width_in c x ≡ width_in a x
  width_same (n.Konst word) h e = refl
  width_same (n.Input i) h e = absurd (true≢false (sym e))
  width_same (n.Reg i) h e = absurd (true≢false (sym e))
  width_same (n.Read m p) h e = absurd (true≢false (sym e))
  width_same (n.Not p) h e = w (n.Not p) h p (0, refl)
  width_same (n.And p q) h e = w (n.And p q) h p (0, refl)
  width_same (n.Or p q) h e = w (n.Or p q) h p (0, refl)
  width_same (n.Xor p q) h e = w (n.Xor p q) h p (0, refl)
  width_same (n.Add p q) h e = w (n.Add p q) h p (0, refl)
  width_same (n.Sub p q) h e = w (n.Sub p q) h p (0, refl)
  width_same (n.Mul p q) h e = w (n.Mul p q) h p (0, refl)
  width_same (n.Eq p q) h e = refl
  width_same (n.Ult p q) h e = refl
  width_same (n.Slt p q) h e = refl
  width_same (n.Shl p q) h e = w (n.Shl p q) h p (0, refl)
  width_same (n.Lshr p q) h e = w (n.Lshr p q) h p (0, refl)
  width_same (n.Ashr p q) h e = w (n.Ashr p q) h p (0, refl)
  width_same (n.Concat p q) h e = λ i. w (n.Concat p q) h p (0, refl) i + w (n.Concat p q) h q (1, refl) i
  width_same (n.Mux t p q) h e = w (n.Mux t p q) h p (1, refl)
  width_same (n.Slice p at z) h e = refl
  width_same (n.Zext p z) h e = refl
  width_same (n.Sext p z) h e = refl

  value_same : (x : Node) → IsFitting (shape_of a) (widths_of a) x → reads_constants c x ≡ true
      → value_in c nothing x ≡ value_in a nothing x
  value_same (n.Konst word) h e = refl
  value_same (n.Input i) h e = absurd (true≢false (sym e))
  value_same (n.Reg i) h e = absurd (true≢false (sym e))
  value_same (n.Read m p) h e = absurd (true≢false (sym e))
  value_same (n.Not p) h e = rw (w (n.Not p) h p (0, refl), v (n.Not p) h p (0, refl)) refl
  value_same (n.And p q) h e = rw (v (n.And p q) h p (0, refl), v (n.And p q) h q (1, refl)) refl
  value_same (n.Or p q) h e = rw (v (n.Or p q) h p (0, refl), v (n.Or p q) h q (1, refl)) refl
  value_same (n.Xor p q) h e = rw (v (n.Xor p q) h p (0, refl), v (n.Xor p q) h q (1, refl)) refl
  value_same (n.Add p q) h e = rw (w (n.Add p q) h p (0, refl), v (n.Add p q) h p (0, refl), v (n.Add p q) h q (1, refl)) refl
  value_same (n.Sub p q) h e = rw (w (n.Sub p q) h p (0, refl), v (n.Sub p q) h p (0, refl), v (n.Sub p q) h q (1, refl)) refl
  value_same (n.Mul p q) h e = rw (w (n.Mul p q) h p (0, refl), v (n.Mul p q) h p (0, refl), v (n.Mul p q) h q (1, refl)) refl
  value_same (n.Eq p q) h e = rw (v (n.Eq p q) h p (0, refl), v (n.Eq p q) h q (1, refl)) refl
  value_same (n.Ult p q) h e = rw (v (n.Ult p q) h p (0, refl), v (n.Ult p q) h q (1, refl)) refl
  value_same (n.Slt p q) h e = rw (w (n.Slt p q) h p (0, refl), v (n.Slt p q) h p (0, refl), v (n.Slt p q) h q (1, refl)) refl
  value_same (n.Shl p q) h e = rw (w (n.Shl p q) h p (0, refl), v (n.Shl p q) h p (0, refl), v (n.Shl p q) h q (1, refl)) refl
  value_same (n.Lshr p q) h e = rw (v (n.Lshr p q) h p (0, refl), v (n.Lshr p q) h q (1, refl)) refl
  value_same (n.Ashr p q) h e = rw (w (n.Ashr p q) h p (0, refl), v (n.Ashr p q) h p (0, refl), v (n.Ashr p q) h q (1, refl)) refl
  value_same (n.Concat p q) h e = rw (w (n.Concat p q) h q (1, refl), v (n.Concat p q) h p (0, refl), v (n.Concat p q) h q (1, refl)) refl
  value_same (n.Mux t p q) h e =
      rw (v (n.Mux t p q) h t (0, refl), v (n.Mux t p q) h p (1, refl), v (n.Mux t p q) h q (2, refl)) refl
  value_same (n.Slice p at z) h e = rw (v (n.Slice p at z) h p (0, refl)) refl
  value_same (n.Zext p z) h e = v (n.Zext p z) h p (0, refl)
  value_same (n.Sext p z) h e = rw (w (n.Sext p z) h p (0, refl), v (n.Sext p z) h p (0, refl)) refl

  simpler_same : (x : Node) → IsFitting (shape_of a) (widths_of a) x → simpler c x ≡ simpler a x
  simpler_same (n.Konst word) h = refl
  simpler_same (n.Input i) h = refl
  simpler_same (n.Reg i) h = refl
  simpler_same (n.Read m p) h = refl
  simpler_same (n.Not p) h = refl
  simpler_same (n.And p q) h = refl
  simpler_same (n.Or p q) h = refl
  simpler_same (n.Xor p q) h =
      let less = there (n.Xor p q) h p (0, refl) in
      ap (λ z. unless_equal p q (f.Number z 0) (n.Xor (lower p q) (higher p q))) (grows.widths p less)
  simpler_same (n.Add p q) h = refl
  simpler_same (n.Sub p q) h =
      let less = there (n.Sub p q) h p (0, refl) in
      ap (λ z. unless_equal p q (f.Number z 0) (n.Sub p q)) (grows.widths p less)
  simpler_same (n.Mul p q) h = refl
  simpler_same (n.Eq p q) h = refl
  simpler_same (n.Ult p q) h = refl
  simpler_same (n.Slt p q) h = refl
  simpler_same (n.Shl p q) h = refl
  simpler_same (n.Lshr p q) h = refl
  simpler_same (n.Ashr p q) h = refl
  simpler_same (n.Concat p q) h = refl
  simpler_same (n.Mux t p q) h =
      let less = there (n.Mux t p q) h t (0, refl) in
      λ i.
      if p == q then f.Same p
      else if known_same t less i then f.Same (if grows.values nothing t less i == 1 then p else q)
      else f.Kept (n.Mux t p q)
  simpler_same (n.Slice p at z) h = refl
  simpler_same (n.Zext p z) h = refl
  simpler_same (n.Sext p z) h = refl

  folded_same : (x : Node) → IsFitting (shape_of a) (widths_of a) x → folded c x ≡ folded a x
  folded_same x h = by (reads_constants c x) refl
    where
      by : (b : Bool) → reads_constants c x ≡ b → folded c x ≡ folded a x
      by true e =
          let was : reads_constants a x ≡ true = sym (reads_same x h) ∙ e in
          ap (λ b. if b then f.Number (width_in c x) (value_in c nothing x) else simpler c x) e
          ∙ (λ i. f.Number (width_same x h e i) (value_same x h e i))
          ∙ sym (ap (λ b. if b then f.Number (width_in a x) (value_in a nothing x) else simpler a x) was)
      by false e =
          let was : reads_constants a x ≡ false = sym (reads_same x h) ∙ e in
          ap (λ b. if b then f.Number (width_in c x) (value_in c nothing x) else simpler c x) e
          ∙ simpler_same x h
          ∙ sym (ap (λ b. if b then f.Number (width_in a x) (value_in a nothing x) else simpler a x) was)

-- ---- what was answered once

first_later : (xs ys : List Node) (x : Node) (id : ℕ) → IsBegun xs ys → IsFirst xs x id → IsFirst ys x id
first_later xs ys x id b h = record {
  there = get_begun xs ys id x b h.there;
  first = λ k low e.
      let less = get_less xs id x h.there in
      let inside : k < length xs = omega (arith, low, less) in
      let y = get_some xs k inside in
      h.first k low (y.1 ∙ sym (get_begun xs ys k y.0 b y.1) ∙ e);
}

one_first : (xs : List Node) (x : Node) (i j : ℕ) → IsFirst xs x i → IsFirst xs x j → j ≡ i
one_first xs x i j h k = by (cases_lt i j) (cases_lt j i)
  where
    by : (i < j) ⊎ (j ≤ i) → (j < i) ⊎ (i ≤ j) → j ≡ i
    by (inl l) q = absurd (k.first i l h.there)
    by (inr l) (inl m) = absurd (h.first j m k.there)
    by (inr l) (inr m) = omega (arith, l, m)

once_later : (a b c d : Netlist) (x : Node) (id later : ℕ) → IsOnce a b x id → IsBegun b.nodes c.nodes
    → IsOnce c d x later → (later ≡ id) × (d ≡ c)
once_later a b c d x id later h more k =
    let stays = first_later b.nodes c.nodes x id more h.first in
    let same : d ≡ c = k.known id stays.there in
    (one_first c.nodes x id later stays (subst (λ m. IsFirst m.nodes x later) same k.first), same)

-- a number has one word
word_of : (u v : Word) → u.width ≡ v.width → number u ≡ number v → u.low < 2 ^ 64 → v.low < 2 ^ 64 → u ≡ v
word_of u v e f p q =
    let high : u.high ≡ v.high = omega (arith, f, p, q) in
    let low : u.low ≡ v.low = omega (arith, f, p, q) in
    same_word u v e high low

gives_later : (a b c d : Netlist) (fold : Folded) (id later : ℕ) → Gives a b fold id → IsBegun b.nodes c.nodes
    → Gives c d fold later → (later ≡ id) × (d ≡ c)
gives_later a b c d (f.Same p) id later h more k = (k.0 ∙ sym h.0, k.1)
gives_later a b c d (f.Number width value) id later h more k =
    let word = word_of k.word h.word (k.width_is ∙ sym h.width_is) (k.value_is ∙ sym h.value_is) k.low_half h.low_half in
    once_later a b c d (n.Konst h.word) id later h.once more
    (subst (λ w. IsOnce c d (n.Konst w) later) word k.once)
gives_later a b c d (f.Kept x) id later h more k = once_later a b c d x id later h more k

pub equal_calls : EqualCallsAnswerOneNumber
equal_calls a b c d x id later fits first answered more again =
    gives_later a b c d (folded a x) id later answered more.nodes
    (subst (λ fold. Gives c d fold later) (folded_same a c (grows_on a b c first more) x fits) again)
