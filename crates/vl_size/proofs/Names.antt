-- Names in sizes and values: too many selects have no size, and over no names each value of a name is 0.
use Rattle.std.specs.Prelude.{◌≡◌, refl, ℕ, zero, suc, ◌+◌, ◌-◌, ◌/◌, ◌%◌, ◌^◌, ◌≤◌, Bool, true, false, not, is_some}
use Rattle.std.specs.Prelude.{is_none, nat_abs, nat_le, if◌then◌else◌, List, [], ◌∷◌, length, Option, Some, None, ℤ}
use Rattle.std.specs.Prelude.{pos, negsuc, ◌+ℤ◌}
use Rattle.std.proofs.Common.{ap, sym, ◌∙◌, true≢false, arith}
use Rattle.std.proofs.Math.Nat.{zero-mod, zero-div}
use Rattle.std.proofs.lemmas.Nat.{pow_pos}
use Rattle.std.proofs.lemmas.Bool.Decides.{nat_tests}
use Rattle.fv_text.specs.declared.pos.Pos.{Pos}
use Rattle.vl_tree.specs.declared.expr.Select.{Select}
use Rattle.vl_tree.specs.declared.expr.Select.TheVariants as s
use Rattle.vl_tree.specs.Expr.{Expr, Selects, name, whole, bit, part, indexed}
use Rattle.vl_tree.specs.ExprView.{selects}
use Rattle.fv_bits.specs.Bits.{extended}
use Rattle.vl_size.specs.declared.decl.Decl.{Decl}
use Rattle.vl_size.specs.Table.{declared_as, span, is_between}
use Rattle.vl_size.specs.Sign.{sign}
use Rattle.vl_size.specs.Size.{◌>>=◌, with_decl, no_names, bit_at, bits_from, memory_word, index_of, operand_of}
use Rattle.vl_size.specs.Size.{offset_of, start_of, size, vector_size, word_size, value, vector_value, word_value}

pub two_selects : (ds : List Decl) (d : Decl) (ss : List Select) → 2 ≤ length ss → vector_size ds d (selects ss) ≡ None
two_selects ds d [] h = absurd (omega arith)
two_selects ds d (x ∷ []) h = absurd (omega arith)
two_selects ds d (s.Bit p i ∷ s.Bit q j ∷ ss) h = refl
two_selects ds d (s.Bit p i ∷ s.Part q j k ∷ ss) h = refl
two_selects ds d (s.Bit p i ∷ s.Indexed q j k ∷ ss) h = refl
two_selects ds d (s.Part p i l ∷ s.Bit q j ∷ ss) h = refl
two_selects ds d (s.Part p i l ∷ s.Part q j k ∷ ss) h = refl
two_selects ds d (s.Part p i l ∷ s.Indexed q j k ∷ ss) h = refl
two_selects ds d (s.Indexed p i l ∷ s.Bit q j ∷ ss) h = refl
two_selects ds d (s.Indexed p i l ∷ s.Part q j k ∷ ss) h = refl
two_selects ds d (s.Indexed p i l ∷ s.Indexed q j k ∷ ss) h = refl

bind_None : (o p : Option ℕ) → p ≡ None → (o >>= λ k. p) ≡ None
bind_None None p h = refl
bind_None (Some n) p h = h

pub three_selects : (ds : List Decl) (d : Decl) (ss : List Select) → 3 ≤ length ss → word_size ds d (selects ss) ≡ None
three_selects ds d [] h = absurd (omega arith)
three_selects ds d (s.Bit p i ∷ ss) h =
    bind_None (size ds i.value) (vector_size ds d (selects ss)) (two_selects ds d ss (omega arith))
three_selects ds d (s.Part p i j ∷ ss) h = refl
three_selects ds d (s.Indexed p i j ∷ ss) h = refl

extended_0 : (m w : ℕ) (s : Bool) → extended m w s 0 ≡ 0
extended_0 m w true = by (nat_le (2 ^ (m - 1)) 0) refl
  where
    by : (b : Bool) → nat_le (2 ^ (m - 1)) 0 ≡ b → (if b then 0 + (2 ^ w - 2 ^ m) else 0) % 2 ^ w ≡ 0
    by true t = absurd (grind (arith, nat_tests, pow_pos (m - 1)))
    by false t = zero-mod (2 ^ w)
extended_0 m w false = zero-mod (2 ^ w)

extended_of_0 : (m w : ℕ) (s : Bool) (n : ℕ) → n ≡ 0 → extended m w s n ≡ 0
extended_of_0 m w s n h = ap (extended m w s) h ∙ extended_0 m w s

bit_at_0 : (w : ℕ) (i : ℤ) → bit_at w 0 i ≡ 0
bit_at_0 w (pos k) = by (nat_le w k)
  where
    by : (b : Bool) → (if b then 0 else 0 / 2 ^ k % 2) ≡ 0
    by true = refl
    by false = ap (λ n. n % 2) (zero-div (2 ^ k))
bit_at_0 w (negsuc k) = refl

bits_from_0 : (n w : ℕ) (i : ℤ) → bits_from n w 0 i ≡ 0
bits_from_0 zero w i = refl
bits_from_0 (suc n) w i = omega (arith, bit_at_0 w i, bits_from_0 n w (i +ℤ pos 1))

-- the number of an index
abbrev idx : List Decl → Expr → ℤ
idx ds e = index_of (operand_of ds no_names e)

vector_0 : (ds : List Decl) (w : ℕ) (t : Bool) (d : Decl) (ss : Selects) → vector_value ds no_names w t d 0 ss ≡ 0
vector_0 ds w t d whole = extended_0 d.width w t
vector_0 ds w t d (bit p i whole) =
    extended_of_0 1 w t (bit_at d.width 0 (offset_of d (idx ds i))) (bit_at_0 d.width (offset_of d (idx ds i)))
vector_0 ds w t d (part p l r whole) =
    let n = span (idx ds l) (idx ds r) in
    extended_of_0 n w t (bits_from n d.width 0 (offset_of d (idx ds r)))
    (bits_from_0 n d.width (offset_of d (idx ds r)))
vector_0 ds w t d (indexed p i n whole) =
    let k = nat_abs (idx ds n) in
    extended_of_0 k w t (bits_from k d.width 0 (start_of d (idx ds i) k))
    (bits_from_0 k d.width (start_of d (idx ds i) k))
vector_0 ds w t d (bit p i (bit q j ss)) = refl
vector_0 ds w t d (bit p i (part q j k ss)) = refl
vector_0 ds w t d (bit p i (indexed q j k ss)) = refl
vector_0 ds w t d (part p i l (bit q j ss)) = refl
vector_0 ds w t d (part p i l (part q j k ss)) = refl
vector_0 ds w t d (part p i l (indexed q j k ss)) = refl
vector_0 ds w t d (indexed p i l (bit q j ss)) = refl
vector_0 ds w t d (indexed p i l (part q j k ss)) = refl
vector_0 ds w t d (indexed p i l (indexed q j k ss)) = refl

word_at_0 : (d : Decl) (words : Option (ℤ × ℤ)) (i : ℤ) → memory_word no_names d words i ≡ 0
word_at_0 d None i = refl
word_at_0 d (Some bounds) i = by (is_between bounds.0 bounds.1 i) 0 refl
  where
    by : (b : Bool) (n : ℕ) → n ≡ 0 → (if b then n else 0) ≡ 0
    by true n h = h
    by false n h = refl

word_0 : (ds : List Decl) (w : ℕ) (t : Bool) (d : Decl) (ss : Selects) → word_value ds no_names w t d ss ≡ 0
word_0 ds w t d whole = refl
word_0 ds w t d (bit p i ss) =
    ap (λ n. vector_value ds no_names w t d n ss) (word_at_0 d d.words (idx ds i)) ∙ vector_0 ds w t d ss
word_0 ds w t d (part p l r ss) = refl
word_0 ds w t d (indexed p l r ss) = refl

-- a name counts as 0
pub name_0 : (ds : List Decl) (w : ℕ) (t : Bool) (p : Pos) (text : List ℕ) (ss : Selects)
    → value ds no_names w t (name p text ss) ≡ 0
name_0 ds w t p text ss = at (declared_as ds text)
  where
    by : (d : Decl) (b : Bool) → (if b then vector_value ds no_names w t d 0 ss else word_value ds no_names w t d ss)
        ≡ 0
    by d true = vector_0 ds w t d ss
    by d false = word_0 ds w t d ss

    at : (o : Option Decl)
        → with_decl o (λ d. if is_none d.words then vector_value ds no_names w t d 0 ss
        else word_value ds no_names w t d ss) ≡ 0
    at None = refl
    at (Some d) = by d (is_none d.words)

-- the declared name is no memory, or it is one
pub of_vector : {A : Type 0} (words : Option A) (b : Bool) (x y : Option ℕ) → is_some words ≡ not b → b ≡ true
    → x ≡ None
    → None ≡ (if is_none words then x else y)
of_vector None b x y e t h = sym h
of_vector (Some w) b x y e t h = absurd (true≢false (e ∙ ap not t))

pub of_memory : {A : Type 0} (words : Option A) (b : Bool) (x y : Option ℕ) → is_some words ≡ not b → b ≡ false
    → y ≡ None
    → None ≡ (if is_none words then x else y)
of_memory None b x y e t h = absurd (true≢false (sym (e ∙ ap not t)))
of_memory (Some w) b x y e t h = sym h
