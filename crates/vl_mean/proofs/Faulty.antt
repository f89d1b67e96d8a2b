-- Over constants alone, an expression has a size exactly where there is no fault in it.
use Rattle.std.specs.Prelude.{◌≡◌, refl, ℕ, zero, suc, ◌+◌, ◌*◌, ◌-◌, ◌^◌, ◌≤◌, ◌<◌, ◌==◌, max, Bool, true, false}
use Rattle.std.specs.Prelude.{◌&&◌, not, nat_le, if◌then◌else◌, List, [], Option, Some, None, ℤ, pos, negsuc}
use Rattle.std.proofs.Common.{ap, sym, ◌∙◌, arith}
use Rattle.std.proofs.Math.Path.{transport}
use Rattle.std.proofs.lemmas.Bool.Decides.{nat_tests}
use Rattle.fv_text.specs.declared.pos.Pos.{Pos}
use Rattle.vl_tree.specs.declared.operator.UnaryOperator.{UnaryOperator}
use Rattle.vl_tree.specs.declared.operator.BinaryOperator.{BinaryOperator}
use Rattle.vl_tree.specs.declared.operator.BinaryOperator.TheVariants as b
use Rattle.vl_tree.specs.Expr.{Expr, Exprs, Selects, number, name, paren, unary, binary, conditional, concat, repeat}
use Rattle.vl_tree.specs.Expr.{cast, none, more}
use Rattle.vl_size.specs.declared.way.Way.{Way}
use Rattle.vl_size.specs.declared.way.Way.TheVariants as ways
use Rattle.vl_size.specs.Way.{way, keeps_size}
use Rattle.vl_size.specs.Sign.{sign}
use Rattle.vl_size.specs.declared.context.Context.{Context}
use Rattle.vl_size.specs.Divisors.{if_none, own_context, left_context, right_context, zero_divisor}
use Rattle.vl_size.specs.Divisors.{parts_zero_divisor, own_zero_divisor, valid_size}
use Rattle.vl_size.specs.Places.{is_earlier, earlier_place}
use Rattle.vl_size.specs.Size.{◌>>=◌, within, some_bits, or_none, is_constant, are_constant, no_names, size_by}
use Rattle.vl_size.specs.Size.{unary_size, divides, operation_size, only_if, index_of, operand, times, size, sizes}
use Rattle.vl_size.specs.Size.{value}
use Rattle.vl_size.proofs.Rest.{within_near, within_far}
use Rattle.vl_mean.specs.declared.const_number.Const.{Const}
use Rattle.vl_mean.specs.declared.const_fault.ConstFault.{ConstFault}
use Rattle.vl_mean.specs.declared.const_fault.ConstFault.TheVariants as f
use Rattle.vl_mean.specs.ConstantFaults.{earlier, comes_before, capped, index, wide_times, too_wide, divisor_fault}
use Rattle.vl_mean.specs.ConstantFaults.{range_unless, or_range, if_sized, wide, wides, count_fault, fault, faults}
use Rattle.vl_mean.specs.ConstantFaults.{first_fault, name_fault, selects_fault}

-- ---- the earlier of two

abbrev IsFault : Option ConstFault → Type 0
IsFault None = ⊥
IsFault (Some g) = Unit {0}

one_of : (t : Bool) (g h : ConstFault) → IsFault (if t then Some h else Some g)
one_of true g h = tt
one_of false g h = tt

first_of : (g h : Option ConstFault) → IsFault g → IsFault (earlier g h)
first_of None h p = absurd p
first_of (Some g) None p = tt
first_of (Some g) (Some h) p = one_of (comes_before h g) g h

second_of : (g h : Option ConstFault) → IsFault h → IsFault (earlier g h)
second_of None h p = p
second_of (Some g) None p = tt
second_of (Some g) (Some h) p = one_of (comes_before h g) g h

-- ---- how the size of an expression goes with its fault, its size without a limit, and that no name stands in it

abbrev Agree : Option ℕ → Option ConstFault → Option ℕ → Bool → Type 0
Agree None g w t = IsFault g
Agree (Some m) g w t = (g ≡ None) × (w ≡ Some m) × (t ≡ true) × (1 ≤ m) × (m ≤ 128)

not_wide : (p : Pos) (m : ℕ) → m ≤ 128 → too_wide p (Some m) ≡ None
not_wide p m h = by (nat_le m 128) refl
  where
    by : (t : Bool) → nat_le m 128 ≡ t → (if t then None else Some (f.TooWide p m)) ≡ None
    by true k = refl
    by false k = absurd (grind (arith, k, nat_tests))

is_wide : (p : Pos) (m : ℕ) → 128 < m → IsFault (too_wide p (Some m))
is_wide p m h = by (nat_le m 128) refl
  where
    by : (t : Bool) → nat_le m 128 ≡ t → IsFault (if t then None else Some (f.TooWide p m))
    by true k = absurd (grind (arith, k, nat_tests))
    by false k = tt

same_agrees : (p : Pos) (o : Option ℕ) (g : Option ConstFault) (w : Option ℕ) (t : Bool) → Agree o g w t
    → Agree o (earlier g (too_wide p w)) w t
same_agrees p None g w t h = first_of g _ h
same_agrees p (Some m) g w t h =
    (ap (λ g. earlier g (too_wide p w)) h.0 ∙ ap (too_wide p) h.1 ∙ not_wide p m h.4, h.1, h.2, h.3, h.4)

unary_least : (op : UnaryOperator) (m : ℕ) → 1 ≤ m → m ≤ 128 → (1 ≤ unary_size op m) × (unary_size op m ≤ 128)
unary_least op m h k = by (keeps_size op)
  where
    by : (t : Bool) → (1 ≤ (if t then m else 1)) × ((if t then m else 1) ≤ 128)
    by true = (h, k)
    by false = (omega arith, omega arith)

unary_agrees : (p : Pos) (op : UnaryOperator) (o : Option ℕ) (g : Option ConstFault) (w : Option ℕ) (t : Bool)
    → Agree o g w t
    → Agree (o >>= λ m. Some (unary_size op m)) (earlier g (too_wide p (w >>= λ m. Some (unary_size op m))))
    (w >>= λ m. Some (unary_size op m)) t
unary_agrees p op None g w t h = first_of g _ h
unary_agrees p op (Some m) g w t h =
    let range = unary_least op m h.3 h.4 in
    let sized : (w >>= λ m. Some (unary_size op m))
    ≡ Some (unary_size op m) = ap (λ w. w >>= λ m. Some (unary_size op m)) h.1 in (
      ap (λ g. earlier g (too_wide p (w >>= λ m. Some (unary_size op m)))) h.0 ∙ ap (too_wide p) sized
          ∙ not_wide p (unary_size op m) range.1,
      sized,
      h.2,
      range.0,
      range.1,
    )

by_range : (how : Way) (m n : ℕ) → 1 ≤ m → m ≤ 128 → 1 ≤ n → n ≤ 128 → (1 ≤ size_by how m n) × (size_by how m n ≤ 128)
by_range ways.Larger m n h k i j = (omega (arith, h), omega (arith, k, j))
by_range ways.Left m n h k i j = (h, k)
by_range ways.One m n h k i j = (omega arith, omega arith)

-- an operation on operands with sizes
operated : (p : Pos) (op : BinaryOperator) (m n : ℕ) → 1 ≤ m → m ≤ 128 → 1 ≤ n → n ≤ 128
    → Agree (operation_size op m n true) (too_wide p (Some (size_by (way op) m n))) (Some (size_by (way op) m n)) true
operated p op m n h k i j = by op
  where
    range : (how : Way) → (1 ≤ size_by how m n) × (size_by how m n ≤ 128)
    range how = by_range how m n h k i j

    kept : (how : Way) → Agree (Some (size_by how m n)) (too_wide p (Some (size_by how m n)))
        (Some (size_by how m n)) true
    kept how = (not_wide p (size_by how m n) (range how).1, refl, refl, (range how).0, (range how).1)

    divided : Agree (only_if true (max m n)) (too_wide p (Some (max m n))) (Some (max m n)) true
    divided =
        transport (λ i. Agree (sym (within_near (max m n) (range ways.Larger).1) i) (too_wide p (Some (max m n)))
        (Some (max m n)) true) (kept ways.Larger)

    by : (op : BinaryOperator) → Agree (operation_size op m n true) (too_wide p (Some (size_by (way op) m n)))
        (Some (size_by (way op) m n)) true
    by b.Divide = divided
    by b.Remainder = divided
    by b.Multiply = kept ways.Larger
    by b.Add = kept ways.Larger
    by b.Subtract = kept ways.Larger
    by b.BitwiseAnd = kept ways.Larger
    by b.BitwiseXor = kept ways.Larger
    by b.BitwiseXnor = kept ways.Larger
    by b.BitwiseXnorCaretFirst = kept ways.Larger
    by b.BitwiseOr = kept ways.Larger
    by b.ShiftLeft = kept ways.Left
    by b.ShiftRight = kept ways.Left
    by b.ArithmeticShiftLeft = kept ways.Left
    by b.ArithmeticShiftRight = kept ways.Left
    by b.Less = kept ways.One
    by b.LessEqual = kept ways.One
    by b.Greater = kept ways.One
    by b.GreaterEqual = kept ways.One
    by b.Equal = kept ways.One
    by b.NotEqual = kept ways.One
    by b.CaseEqual = kept ways.One
    by b.CaseNotEqual = kept ways.One
    by b.LogicalAnd = kept ways.One
    by b.LogicalOr = kept ways.One

binary_agrees : (p : Pos) (op : BinaryOperator) (o : Option ℕ) (g : Option ConstFault) (w : Option ℕ) (t : Bool)
    (o' : Option ℕ) (g' : Option ConstFault) (w' : Option ℕ) (t' : Bool) → Agree o g w t → Agree o' g' w' t'
    → Agree (o >>= λ m. o' >>= λ n. operation_size op m n (t && t'))
    (earlier (earlier g g') (too_wide p (w >>= λ m. w' >>= λ n. Some (size_by (way op) m n))))
    (w >>= λ m. w' >>= λ n. Some (size_by (way op) m n)) (t && t')
binary_agrees p op None g w t o' g' w' t' h k = first_of (earlier g g') _ (first_of g g' h)
binary_agrees p op (Some m) g w t None g' w' t' h k = first_of (earlier g g') _ (second_of g g' k)
binary_agrees p op (Some m) g w t (Some n) g' w' t' h k =
    transport (λ i. Agree (operation_size op m n (sym h.2 i && sym k.2 i))
    (earlier (earlier (sym h.0 i) (sym k.0 i))
    (too_wide p (sym h.1 i >>= λ m. sym k.1 i >>= λ n. Some (size_by (way op) m n))))
    (sym h.1 i >>= λ m. sym k.1 i >>= λ n. Some (size_by (way op) m n)) (sym h.2 i && sym k.2 i))
    (operated p op m n h.3 h.4 k.3 k.4)

conditional_agrees : (p : Pos) (o₀ : Option ℕ) (g₀ : Option ConstFault) (w₀ : Option ℕ) (t₀ : Bool)
    (o : Option ℕ) (g : Option ConstFault) (w : Option ℕ) (t : Bool) (o' : Option ℕ) (g' : Option ConstFault)
    (w' : Option ℕ) (t' : Bool)
    → Agree o₀ g₀ w₀ t₀ → Agree o g w t → Agree o' g' w' t'
    → Agree (o₀ >>= λ k. o >>= λ m. o' >>= λ n. Some (max m n))
    (earlier (earlier g₀ (earlier g g')) (too_wide p (w >>= λ m. w' >>= λ n. Some (max m n))))
    (w >>= λ m. w' >>= λ n. Some (max m n)) (t₀ && (t && t'))
conditional_agrees p None g₀ w₀ t₀ o g w t o' g' w' t' c h k =
    first_of (earlier g₀ (earlier g g')) _ (first_of g₀ (earlier g g') c)
conditional_agrees p (Some l) g₀ w₀ t₀ None g w t o' g' w' t' c h k =
    first_of (earlier g₀ (earlier g g')) _ (second_of g₀ (earlier g g') (first_of g g' h))
conditional_agrees p (Some l) g₀ w₀ t₀ (Some m) g w t None g' w' t' c h k =
    first_of (earlier g₀ (earlier g g')) _ (second_of g₀ (earlier g g') (second_of g g' k))
conditional_agrees p (Some l) g₀ w₀ t₀ (Some m) g w t (Some n) g' w' t' c h k =
    let range = by_range ways.Larger m n h.3 h.4 k.3 k.4 in
    transport (λ i. Agree (Some (max m n))
    (earlier (earlier (sym c.0 i) (earlier (sym h.0 i) (sym k.0 i)))
    (too_wide p (sym h.1 i >>= λ m. sym k.1 i >>= λ n. Some (max m n))))
    (sym h.1 i >>= λ m. sym k.1 i >>= λ n. Some (max m n)) (sym c.2 i && (sym h.2 i && sym k.2 i)))
    (not_wide p (max m n) range.1, refl, refl, range.0, range.1)

-- ---- parts

-- a list with parts has a bit at least, since each part has
abbrev least : Exprs → ℕ
least none = 0
least (more e es) = 1

-- where no part has a fault, their sizes have a sum, of at least so many bits
abbrev Parts : ℕ → Option ℕ → Option ConstFault → Option ℕ → Bool → Type 0
Parts l o None w t = (n : ℕ) × (o ≡ within n) × (w ≡ Some (capped n)) × (t ≡ true) × (l ≤ n)
Parts l o (Some g) w t = o ≡ None

refused_parts : (l : ℕ) (g : Option ConstFault) (w : Option ℕ) (t : Bool) → IsFault g → Parts l None g w t
refused_parts l None w t h = absurd h
refused_parts l (Some g) w t h = refl

within_sum : (m n : ℕ) → (within n >>= λ k. within (m + k)) ≡ within (m + n)
within_sum m n = by (nat_le n 128) refl
  where
    by : (t : Bool) → nat_le n 128 ≡ t → ((if t then Some n else None) >>= λ k. within (m + k)) ≡ within (m + n)
    by true k = refl
    by false k = sym (within_far (m + n) (grind (arith, k, nat_tests)))

capped_sum : (m n : ℕ) → capped (m + capped n) ≡ capped (m + n)
capped_sum m n = omega arith

more_agree : (l : ℕ) (o : Option ℕ) (g : Option ConstFault) (w : Option ℕ) (t : Bool)
    (o' : Option ℕ) (g' : Option ConstFault) (w' : Option ℕ) (t' : Bool) → Agree o g w t → Parts l o' g' w' t'
    → Parts 1 (o >>= λ m. o' >>= λ n. within (m + n)) (earlier g g') (w >>= λ m. w' >>= λ n. Some (capped (m + n)))
    (t && t')
more_agree l None g w t o' g' w' t' h k = refused_parts 1 (earlier g g') _ _ (first_of g g' h)
more_agree l (Some m) g w t o' (Some b) w' t' h k =
    transport (λ i. Parts 1 (sym k i >>= λ n. within (m + n)) (earlier g (Some b))
    (w >>= λ m. w' >>= λ n. Some (capped (m + n))) (t && t'))
    (refused_parts 1 (earlier g (Some b)) _ _ (second_of g (Some b) tt))
more_agree l (Some m) g w t o' None w' t' h k =
    let n = k.0 in
    transport (λ i. Parts 1 (sym k.1 i >>= λ n. within (m + n)) (earlier (sym h.0 i) None)
    (sym h.1 i >>= λ m. sym k.2 i >>= λ n. Some (capped (m + n))) (sym h.2 i && sym k.3 i))
    (m + n, within_sum m n, ap Some (capped_sum m n), refl, omega (arith, h.3))

some_is : (n : ℕ) → 1 ≤ n → some_bits (Some n) ≡ Some n
some_is zero h = absurd (omega (arith, h))
some_is (suc n) h = refl

some_within : (n : ℕ) → 1 ≤ n → some_bits (within n) ≡ within n
some_within n h = by (nat_le n 128)
  where
    by : (t : Bool) → some_bits (if t then Some n else None) ≡ (if t then Some n else None)
    by true = some_is n h
    by false = refl

-- so many bits are a size, or too wide
bits_agree : (p : Pos) (n : ℕ) → 1 ≤ n → Agree (within n) (too_wide p (Some (capped n))) (Some (capped n)) true
bits_agree p n h = by (nat_le n 128) refl
  where
    by : (t : Bool) → nat_le n 128 ≡ t → Agree (if t then Some n else None) (too_wide p (Some (capped n)))
        (Some (capped n)) true
    by true k =
        let few : n ≤ 128 = grind (arith, k, nat_tests) in
        let same : capped n ≡ n = omega (arith, few) in
        (ap (λ n. too_wide p (Some n)) same ∙ not_wide p n few, ap Some same, refl, h, few)
    by false k =
        let far : 128 < n = grind (arith, k, nat_tests) in
        is_wide p (capped n) (omega (arith, far))

concat_agrees : (p : Pos) (o : Option ℕ) (g : Option ConstFault) (w : Option ℕ) (t : Bool) → Parts 1 o g w t
    → Agree (some_bits o) (earlier g (too_wide p (some_bits w))) (some_bits w) t
concat_agrees p o (Some g) w t h =
    transport (λ i. Agree (some_bits (sym h i)) (earlier (Some g) (too_wide p (some_bits w))) (some_bits w) t)
    (first_of (Some g) (too_wide p (some_bits w)) tt)
concat_agrees p o None w t h =
    let n = h.0 in
    let sized : some_bits o ≡ within n = ap some_bits h.1 ∙ some_within n h.4 in
    let wide_is : some_bits w ≡ Some (capped n) = ap some_bits h.2
    ∙ some_is (capped n) (let few = h.4 in omega (arith, few)) in
    transport (λ i. Agree (sym sized i) (too_wide p (sym wide_is i)) (sym wide_is i) (sym h.3 i)) (bits_agree p n h.4)

no_bind : (o : Option ℕ) → ◌≡◌ {A = Option ℕ} None (o >>= λ k. None)
no_bind None = refl
no_bind (Some k) = refl

many : (c n : ℕ) → n ≤ suc c * n
many c n = omega arith

capped_times : (c n : ℕ) → capped (suc c * capped n) ≡ capped (suc c * n)
capped_times c n = by (nat_le n (2 ^ 64 - 1)) refl
  where
    by : (t : Bool) → nat_le n (2 ^ 64 - 1) ≡ t → capped (suc c * capped n) ≡ capped (suc c * n)
    by true k = let few : n ≤ 2 ^ 64 - 1 = grind (arith, k, nat_tests)
        in let same : capped n ≡ n = omega (arith, few) in ap (λ m. capped (suc c * m)) same
    by false k =
        let far : 2 ^ 64 - 1 < n = grind (arith, k, nat_tests) in
        let full : capped n ≡ 2 ^ 64 - 1 = omega (arith, far) in
        omega (arith, far, full, many c n, many c (capped n))

within_times : (c n : ℕ) → (within n >>= λ m. within (suc c * m)) ≡ within (suc c * n)
within_times c n = by (nat_le n 128) refl
  where
    by : (t : Bool) → nat_le n 128 ≡ t → ((if t then Some n else None) >>= λ m. within (suc c * m)) ≡ within (suc c * n)
    by true k = refl
    by false k =
        let far : 128 < n = grind (arith, k, nat_tests) in sym (within_far (suc c * n) (omega (arith, far, many c n)))

-- copies of what has bits
copies_agree : (p : Pos) (i : ℤ) (n : ℕ) → 1 ≤ n
    → Agree (within n >>= λ m. times i m) (earlier (range_unless p (wide_times i 1))
    (too_wide p (wide_times i (capped n)))) (wide_times i (capped n)) true
copies_agree p (pos zero) n h =
    transport (λ i. Agree (no_bind (within n) i) (Some (f.Range p)) None true) tt
copies_agree p (negsuc c) n h =
    transport (λ i. Agree (no_bind (within n) i) (Some (f.Range p)) None true) tt
copies_agree p (pos (suc c)) n h =
    transport (λ i. Agree (sym (within_times c n) i) (too_wide p (Some (sym (capped_times c n) i)))
    (Some (sym (capped_times c n) i)) true)
    (bits_agree p (suc c * n) (omega (arith, h, many c n)))

repeat_agrees : (p : Pos) (count : Option ℕ → ℤ) (o₀ : Option ℕ) (g₀ : Option ConstFault) (w₀ : Option ℕ) (t₀ : Bool)
    (o : Option ℕ) (g : Option ConstFault) (w : Option ℕ) (t : Bool) → Agree o₀ g₀ w₀ t₀ → Parts 1 o g w t
    → Agree (o₀ >>= λ k. some_bits o >>= λ m. if t₀ then times (count (Some k)) m else None)
    (earlier (earlier g₀ g) (earlier (if_sized o₀ (range_unless p (wide_times (count o₀) 1)))
    (too_wide p (some_bits w >>= λ m. if_sized o₀ (wide_times (count o₀) m)))))
    (some_bits w >>= λ m. if_sized o₀ (wide_times (count o₀) m)) (t₀ && t)
repeat_agrees p count None g₀ w₀ t₀ o g w t c h = first_of (earlier g₀ g) _ (first_of g₀ g c)
repeat_agrees p count (Some k) g₀ w₀ t₀ o (Some g) w t c h =
    transport (λ i. Agree (some_bits (sym h i) >>= λ m. if t₀ then times (count (Some k)) m else None)
    (earlier (earlier g₀ (Some g)) (earlier (range_unless p (wide_times (count (Some k)) 1))
    (too_wide p (some_bits w >>= λ m. wide_times (count (Some k)) m))))
    (some_bits w >>= λ m. wide_times (count (Some k)) m) (t₀ && t))
    (first_of (earlier g₀ (Some g)) _ (second_of g₀ (Some g) tt))
repeat_agrees p count (Some k) g₀ w₀ t₀ o None w t c h =
    let n = h.0 in
    let sized : some_bits o ≡ within n = ap some_bits h.1 ∙ some_within n h.4 in
    let wide_is : some_bits w ≡ Some (capped n) = ap some_bits h.2
    ∙ some_is (capped n) (let few = h.4 in omega (arith, few)) in
    transport (λ i. Agree (sym sized i >>= λ m. if sym c.2 i then times (count (Some k)) m else None)
    (earlier (earlier (sym c.0 i) None) (earlier (range_unless p (wide_times (count (Some k)) 1))
    (too_wide p (sym wide_is i >>= λ m. wide_times (count (Some k)) m))))
    (sym wide_is i >>= λ m. wide_times (count (Some k)) m) (sym c.2 i && sym h.3 i))
    (copies_agree p (count (Some k)) n h.4)

ranged : (p : Pos) (g : Option ConstFault) → IsFault (or_range p g)
ranged p None = tt
ranged p (Some g) = tt

-- ---- no division by 0

some_none : (p : Pos) → Some p ≡ None → ⊥
some_none p h = cc

both_none : (p q : Option Pos) → earlier_place p q ≡ None → (p ≡ None) × (q ≡ None)
both_none None q h = (refl, h)
both_none (Some p) None h = absurd (some_none p h)
both_none (Some p) (Some q) h = by (is_earlier q p) h
  where
    by : (t : Bool) → (if t then Some q else Some p) ≡ None → (Some p ≡ None) × (Some q ≡ None)
    by true h = absurd (some_none q h)
    by false h = absurd (some_none p h)

-- ---- all expressions in which there is none

module _ (c : List ℕ → Option Const) where
  name_faulty : (p : Pos) (o : Option Const) (ss : Selects) (inner : Option ConstFault)
      → IsFault (name_fault [] no_names p o ss inner)
  name_faulty p None ss inner = second_of inner (Some (f.NotConstant p)) tt
  name_faulty p (Some a) ss inner = ranged p _

  counted : (p : Pos) (n : Expr) (es : Exprs) → own_zero_divisor [] n ≡ None
      → Agree (size [] n >>= λ k. some_bits (sizes [] es) >>= λ m. if is_constant n
      then times (index_of (operand (Some k) (sign [] n) (λ j t. value [] no_names j t n))) m else None)
      (earlier (earlier (fault c [] no_names n) (faults c [] no_names es))
      (earlier (if_sized (size [] n) (range_unless p (wide_times (index [] no_names n) 1)))
      (too_wide p (some_bits (wides c [] no_names es) >>= λ m. if_sized (size [] n)
      (wide_times (index [] no_names n) m)))))
      (some_bits (wides c [] no_names es) >>= λ m. if_sized (size [] n) (wide_times (index [] no_names n) m))
      (is_constant n && are_constant es)
      → Agree (size [] n >>= λ k. some_bits (sizes [] es) >>= λ m. if is_constant n
      then times (index_of (operand (Some k) (sign [] n) (λ j t. value [] no_names j t n))) m else None)
      (earlier (earlier (fault c [] no_names n) (faults c [] no_names es))
      (earlier (count_fault [] no_names p n)
      (too_wide p (some_bits (wides c [] no_names es) >>= λ m. if_sized (valid_size [] n)
      (wide_times (index [] no_names n) m)))))
      (some_bits (wides c [] no_names es) >>= λ m. if_sized (valid_size [] n) (wide_times (index [] no_names n) m))
      (is_constant n && are_constant es)
  counted p n es h =
      let valid : size [] n ≡ valid_size [] n = ap (λ o. if_none o (size [] n)) (sym h) in
      transport (λ i. Agree (size [] n >>= λ k. some_bits (sizes [] es) >>= λ m. if is_constant n
      then times (index_of (operand (Some k) (sign [] n) (λ j t. value [] no_names j t n))) m else None)
      (earlier (earlier (fault c [] no_names n) (faults c [] no_names es))
      (earlier (if_sized (valid i) (range_unless p (wide_times (index [] no_names n) 1)))
      (too_wide p (some_bits (wides c [] no_names es) >>= λ m. if_sized (valid i)
      (wide_times (index [] no_names n) m)))))
      (some_bits (wides c [] no_names es) >>= λ m. if_sized (valid i) (wide_times (index [] no_names n) m))
      (is_constant n && are_constant es))

  mutual
    agrees : (k : Context) (e : Expr) → zero_divisor [] k e ≡ None
        → Agree (size [] e) (fault c [] no_names e) (wide c [] no_names e) (is_constant e)
    agrees k (number p n) h = (refl, refl, refl, n.some_bits, n.few_bits)
    agrees k (name p text ss) h = name_faulty p (c text) ss (selects_fault c [] no_names ss)
    agrees k (paren p x) h = same_agrees p _ _ _ _ (agrees k x h)
    agrees k (unary p op x) h = unary_agrees p op _ _ _ _ (agrees (if keeps_size op then k else own_context [] x) x h)
    agrees k (binary p op x y) h =
        let inner = (both_none _ _ (both_none _ _ h).1) in
        binary_agrees p op _ _ _ _ _ _ _ _ (agrees (left_context [] (way op) op k x y) x inner.0)
        (agrees (right_context [] (way op) op k x y) y inner.1)
    agrees k (conditional p b x y) h =
        let inner = both_none _ _ h in let both = both_none _ _ inner.1 in
        conditional_agrees p _ _ _ _ _ _ _ _ _ _ _ _ (agrees (own_context [] b) b inner.0) (agrees k x both.0)
        (agrees k y both.1)
    agrees k (concat p none) h = tt
    agrees k (concat p (more e es)) h = concat_agrees p _ _ _ _ (parts (more e es) h)
    agrees k (repeat p n none) h =
        transport (λ i. Agree (no_bind (size [] n) i) (fault c [] no_names (repeat p n none)) None
        (is_constant n && true))
        (second_of (earlier (fault c [] no_names n) None) _ (first_of (Some (f.Range p)) _ tt))
    agrees k (repeat p n (more e es)) h =
        let inner = both_none _ _ h in
        counted p n (more e es) inner.0
        (repeat_agrees p (λ o. index_of (operand o (sign [] n) (λ m t. value [] no_names m t n))) _ _ _ _ _ _ _ _
        (agrees (own_context [] n) n inner.0) (parts (more e es) inner.1))
    agrees k (cast p to x) h = same_agrees p _ _ _ _ (agrees (own_context [] x) x h)

    parts : (es : Exprs) → parts_zero_divisor [] es ≡ None
        → Parts (least es) (sizes [] es) (faults c [] no_names es) (wides c [] no_names es) (are_constant es)
    parts none h = (0, refl, refl, refl, omega arith)
    parts (more e es) h =
        let inner = both_none _ _ h in
        more_agree (least es) _ _ _ _ _ _ _ _ (agrees (own_context [] e) e inner.0) (parts es inner.1)

  fault_there : (g : Option ConstFault) → IsFault g → (f : ConstFault) × (g ≡ Some f)
  fault_there None h = absurd h
  fault_there (Some f) h = (f, refl)

  sized : (e : Expr) → own_zero_divisor [] e ≡ None → valid_size [] e ≡ size [] e
  sized e h = ap (λ o. if_none o (size [] e)) h

  -- what has no size has a fault
  pub faulty : (e : Expr) → valid_size [] e ≡ None → (f : ConstFault) × (first_fault c [] no_names e ≡ Some f)
  faulty e h = fault_there (first_fault c [] no_names e) (by (own_zero_divisor [] e) refl)
    where
      by : (o : Option Pos) → own_zero_divisor [] e ≡ o → IsFault (earlier (fault c [] no_names e) (divisor_fault o))
      by (Some p) k = second_of (fault c [] no_names e) (Some (f.ZeroDivisor p)) tt
      by None k =
          first_of (fault c [] no_names e) None
          (transport (λ i. Agree ((sym (sized e k) ∙ h) i) (fault c [] no_names e) (wide c [] no_names e)
          (is_constant e)) (agrees (own_context [] e) e k))

  -- and what has one has none
  pub faultless : (e : Expr) (m : ℕ) → valid_size [] e ≡ Some m → first_fault c [] no_names e ≡ None
  faultless e m h = by (own_zero_divisor [] e) refl
    where
      none_some : None ≡ Some m → ⊥
      none_some e = cc

      by : (o : Option Pos) → own_zero_divisor [] e ≡ o → earlier (fault c [] no_names e) (divisor_fault o) ≡ None
      by (Some p) k = absurd (none_some (sym (ap (λ o. if_none o (size [] e)) k) ∙ h))
      by None k =
          ap (λ g. earlier g None)
          (transport (λ i. Agree ((sym (sized e k) ∙ h) i) (fault c [] no_names e) (wide c [] no_names e)
          (is_constant e)) (agrees (own_context [] e) e k)).0
