-- Targets, values and tests over maps that have bits in common.
use Rattle.std.specs.Prelude.{◌≡◌, refl, ℕ, ◌<◌, ◌≤◌, max, List, [], ◌∷◌, ◌++◌, length, Bool, true, false, ◌&&◌}
use Rattle.std.specs.Prelude.{◌||◌, ◌==◌, bit_or, is_none, nat_abs, Option, Some, None, IsSome, All}
use Rattle.std.specs.Prelude.{if◌then◌else◌}
use Rattle.std.proofs.Common.{sym, ◌∙◌}
use Rattle.std.proofs.lemmas.List.Elements.{All-head, All-tail}
use Rattle.vl_tree.specs.declared.stmt.CaseKind.{CaseKind}
use Rattle.vl_tree.specs.Expr.{Expr, Selects, whole, bit, part, indexed}
use Rattle.vl_tree.specs.Lval.{Lval, Lvals, named, joined, no_lvals, more_lvals}
use Rattle.vl_size.specs.declared.context.Context.{Context}
use Rattle.vl_size.specs.declared.decl.Decl.{Decl}
use Rattle.vl_size.specs.Sign.{sign}
use Rattle.vl_size.specs.Size.{◌>>=◌, Values, operand, index_of, is_constant, no_names}
use Rattle.vl_size.specs.Size.{offset_of, start_of, size, vector_size, word_size, value, part_size, times}
use Rattle.vl_size.specs.Table.{span, declared_as}
use Rattle.vl_mean.specs.Execution.{assigned, wild_bits, matches}
use Rattle.vl_mean.specs.FlatLaw.{flat_scopes, IsReadIn, IsTarget, AreTargets}
use Rattle.vl_mean.specs.Scopes.{operand_in, is_clock_class}
use Rattle.vl_mean.specs.Targets.{bit_of, spots_from, word_index, full_word, spots_of, spots, all_spots, written}
use Rattle.vl_mean_flat.proofs.SameTarget.{flat_operand}
use Rattle.vl_flow_spec.specs.Reads.{Bits, Covers, IsCellOf, AgreeOn, AreInRange, reads, selects_read}
use Rattle.vl_flow_spec.specs.Paths.{target_reads, targets_read, labels_read}
use Rattle.vl_flow_spec.proofs.Bools.{or_left, or_right}
use Rattle.vl_flow_spec.proofs.Flat.{index_in, vector_bits, word_bits, name_bits, flat_name}
use Rattle.vl_flow_spec.proofs.Same.{bind_first, bind_then, bind_next, index_same, same_value}

infixl 20 ◌∪◌
abbrev pub ◌∪◌ : Bits → Bits → Bits
K ∪ J = λ n k. K n k || J n k

-- both maps have numbers of their widths, and the bits in common; none of these is the clock's
pub record Alike (ds : List Decl) (K : Bits) (u v : Values) : Type 0 where
  pub bits : (d : Decl) (n : List ℕ) (k : ℕ) → IsCellOf ds d n → k < d.width → K n k ≡ true
      → bit_of (u n) k ≡ bit_of (v n) k
  pub left : AreInRange ds u
  pub right : AreInRange ds v
  pub counted : (d : Decl) (n : List ℕ) (k : ℕ) → IsCellOf ds d n → K n k ≡ true → is_clock_class d.class ≡ false

pub fewer : (ds : List Decl) (K J : Bits) (u v : Values) → Covers K J → Alike ds K u v → Alike ds J u v
fewer ds K J u v c h = record {
  bits = λ d n k is below e. h.bits d n k is below (c n k e);
  left = h.left;
  right = h.right;
  counted = λ d n k is e. h.counted d n k is (c n k e);
}

pub agree_of : (ds : List Decl) (K : Bits) (u v : Values) → Alike ds K u v → AgreeOn ds K u v
agree_of ds K u v h = record {
  bits = h.bits;
  left = λ d n k is below e. h.left d n is (h.counted d n k is e);
  right = λ d n k is below e. h.right d n is (h.counted d n k is e);
}

module _ (ds : List Decl) (wide : (d : Decl) → declared_as ds d.name ≡ Some d → 1 ≤ d.width) where
  module _ (u v : Values) (K : Bits) (h : Alike ds K u v) where
    pub operand_same : (e : Expr) → Covers K (reads ds e) → IsSome (size ds e)
        → operand_in (flat_scopes ds) u e ≡ operand_in (flat_scopes ds) v e
    operand_same e c sized =
        flat_operand ds u e
        ∙ (λ i. operand (size ds e) (sign ds e) (λ w s. same_value ds wide e u v K (agree_of ds K u v h) c sized w s i))
        ∙ sym (flat_operand ds v e)

    index_at : (e : Expr) → Covers K (reads ds e) → IsSome (size ds e) → index_in ds u e ≡ index_in ds v e
    index_at e c sized = index_same ds e u v (λ w s. same_value ds wide e u v K (agree_of ds K u v h) c sized w s)

    vector_alike : (d : Decl) (o : Option (List ℕ)) (xs : Selects) → Covers K (selects_read ds xs)
        → IsSome (vector_size ds d xs) → vector_bits ds u d o xs ≡ vector_bits ds v d o xs
    vector_alike d o whole c sized = refl
    vector_alike d o (bit p i whole) c sized =
        λ z. spots_from 1 d.width o (offset_of d (index_at i (λ n k r. c n k (or_left (reads ds i n k) false r))
        (bind_first (size ds i) (λ k. Some 1) sized) z))
    vector_alike d o (part p l r whole) c sized =
        let inner : ℕ → ℕ → Option ℕ = λ k j. if is_constant l && is_constant r
        then part_size d (index_of (operand (Some k) (sign ds l) (λ m t. value ds no_names m t l)))
        (index_of (operand (Some j) (sign ds r) (λ m t. value ds no_names m t r))) else None in
        let left = index_at l
        (λ n k x. c n k (or_left (reads ds l n k || reads ds r n k) false (or_left (reads ds l n k) (reads ds r n k) x)))
        (bind_first (size ds l) (λ k. size ds r >>= λ j. inner k j) sized) in
        let right = index_at r
        (λ n k x. c n k (or_left (reads ds l n k || reads ds r n k) false (or_right (reads ds l n k) (reads ds r n k) x)))
        (bind_then (size ds l) (size ds r) inner sized) in
        λ z. spots_from (span (left z) (right z)) d.width o (offset_of d (right z))
    vector_alike d o (indexed p s m whole) c sized =
        let inner : ℕ → ℕ → Option ℕ = λ k j. if is_constant m
        then times (index_of (operand (Some j) (sign ds m) (λ i t. value ds no_names i t m))) 1 else None in
        let start = index_at s
        (λ n k x. c n k (or_left (reads ds s n k || reads ds m n k) false (or_left (reads ds s n k) (reads ds m n k) x)))
        (bind_first (size ds s) (λ k. size ds m >>= λ j. inner k j) sized) in
        let count = index_at m
        (λ n k x. c n k (or_left (reads ds s n k || reads ds m n k) false (or_right (reads ds s n k) (reads ds m n k) x)))
        (bind_then (size ds s) (size ds m) inner sized) in
        λ z. spots_from (nat_abs (count z)) d.width o (start_of d (start z) (nat_abs (count z)))
    vector_alike d o (bit p y (bit q z ys)) c sized = refl
    vector_alike d o (bit p y (part q l r ys)) c sized = refl
    vector_alike d o (bit p y (indexed q z m ys)) c sized = refl
    vector_alike d o (part p a b (bit q z ys)) c sized = refl
    vector_alike d o (part p a b (part q l r ys)) c sized = refl
    vector_alike d o (part p a b (indexed q z m ys)) c sized = refl
    vector_alike d o (indexed p a b (bit q z ys)) c sized = refl
    vector_alike d o (indexed p a b (part q l r ys)) c sized = refl
    vector_alike d o (indexed p a b (indexed q z m ys)) c sized = refl

    word_alike : (d : Decl) (xs : Selects) → Covers K (selects_read ds xs) → IsSome (word_size ds d xs)
        → word_bits ds u d xs ≡ word_bits ds v d xs
    word_alike d whole c sized = refl
    word_alike d (bit p i xs) c sized =
        (λ z. vector_bits ds u d (full_word d.name (word_index d.words
        (index_at i (λ n k r. c n k (or_left (reads ds i n k) (selects_read ds xs n k) r))
        (bind_first (size ds i) (λ k. vector_size ds d xs) sized) z))) xs)
        ∙ vector_alike d (full_word d.name (word_index d.words (index_in ds v i))) xs
        (λ n k r. c n k (or_right (reads ds i n k) (selects_read ds xs n k) r))
        (bind_next (size ds i) (vector_size ds d xs) sized)
    word_alike d (part p l r xs) c sized = refl
    word_alike d (indexed p s m xs) c sized = refl

    name_alike : (text : List ℕ) (xs : Selects) → Covers K (selects_read ds xs)
        → IsSome (declared_as ds text >>= λ d. if is_none d.words then vector_size ds d xs else word_size ds d xs)
        → name_bits ds u text xs ≡ name_bits ds v text xs
    name_alike text xs c sized = by (declared_as ds text) sized
      where
        at : (d : Decl) (b : Bool) → IsSome (if b then vector_size ds d xs else word_size ds d xs)
            → (if b then vector_bits ds u d (Some text) xs else word_bits ds u d xs)
            ≡ (if b then vector_bits ds v d (Some text) xs else word_bits ds v d xs)
        at d true sized = vector_alike d (Some text) xs c sized
        at d false sized = word_alike d xs c sized

        by : (o : Option Decl)
            → IsSome (o >>= λ d. if is_none d.words then vector_size ds d xs else word_size ds d xs)
            → spots_of o (λ d. if is_none d.words then vector_bits ds u d (Some text) xs else word_bits ds u d xs)
            ≡ spots_of o (λ d. if is_none d.words then vector_bits ds v d (Some text) xs else word_bits ds v d xs)
        by None sized = refl
        by (Some d) sized = at d (is_none d.words) sized

    module _ (may : Decl → Bool) (fix : Bool) where
      mutual
        spots_alike : (l : Lval) → IsTarget ds may fix l → Covers K (target_reads ds l)
            → spots (flat_scopes ds) u l ≡ spots (flat_scopes ds) v l
        spots_alike (named p text xs) is c =
            flat_name ds u text xs ∙ name_alike text xs c is.0.sized ∙ sym (flat_name ds v text xs)
        spots_alike (joined p ls) is c = all_spots_alike ls is c

        all_spots_alike : (ls : Lvals) → AreTargets ds may fix ls → Covers K (targets_read ds ls)
            → all_spots (flat_scopes ds) u ls ≡ all_spots (flat_scopes ds) v ls
        all_spots_alike no_lvals is c = refl
        all_spots_alike (more_lvals l ls) is c =
            λ z. spots_alike l is.0 (λ n k r. c n k (or_left (target_reads ds l n k) (targets_read ds ls n k) r)) z
            ++ all_spots_alike ls is.1 (λ n k r. c n k (or_right (target_reads ds l n k) (targets_read ds ls n k) r)) z

      pub assigned_alike : (l : Lval) (e : Expr) → IsTarget ds may fix l → IsSome (size ds e)
          → Covers K (target_reads ds l) → Covers K (reads ds e)
          → assigned (flat_scopes ds) l (flat_scopes ds) e u ≡ assigned (flat_scopes ds) l (flat_scopes ds) e v
      assigned_alike l e is sized c f =
          λ z. let to = spots_alike l is c z in let x = operand_same e f sized z in
          written to (x.at (max (length to) x.size) x.sign)

    pub matches_alike : (kind : CaseKind) (w : ℕ) (s : Bool) (x : ℕ) (c : Context) (es : List Expr)
        → All (IsReadIn ds c) es → Covers K (labels_read ds es)
        → matches (flat_scopes ds) kind u w s x es ≡ matches (flat_scopes ds) kind v w s x es
    matches_alike kind w s x c [] are l = refl
    matches_alike kind w s x c (e ∷ es) are l =
        let here = operand_same e (λ n k r. l n k (or_left (reads ds e n k) (labels_read ds es n k) r))
        (All-head (IsReadIn ds c) e es are).sized in
        let others = matches_alike kind w s x c es (All-tail (IsReadIn ds c) e es are)
        (λ n k r. l n k (or_right (reads ds e n k) (labels_read ds es n k) r)) in
        λ z. (bit_or ((here z).at w s) (wild_bits kind w s e) == bit_or x (wild_bits kind w s e)) || others z
