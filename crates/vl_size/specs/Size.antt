-- Meaning: The size of an expression by itself, and its value in a context: one block, since a size may need the value
-- of a constant (a count of copies, the bounds of a part), and a value the sizes of parts. IEEE 1364-2005, sections
-- 4.2, 5.1, 5.2, 5.4 and 5.5; that sizes end at 128 bits, and which expressions have none, are rules of this project.
use Rattle.std.specs.Prelude.{
  ℕ,
  zero,
  suc,
  ◌+◌,
  ◌-◌,
  ◌*◌,
  ◌/◌,
  ◌%◌,
  ◌^◌,
  ◌==◌,
  max,
  Bool,
  true,
  false,
  ◌&&◌,
  ◌||◌,
}
use Rattle.std.specs.Prelude.{
  not,
  is_none,
  nat_le,
  if◌then◌else◌,
  List,
  Option,
  Some,
  None,
  ℤ,
  pos,
  negsuc,
  ◌+ℤ◌,
}
use Rattle.std.specs.Prelude.{◌-ℤ◌, nat_abs, int_le, int_lt, bit_and, bit_or, bit_xor}
use Rattle.vl_tree.specs.declared.operator.UnaryOperator.{UnaryOperator}
use Rattle.vl_tree.specs.declared.operator.UnaryOperator.TheVariants as u
use Rattle.vl_tree.specs.declared.operator.BinaryOperator.{BinaryOperator}
use Rattle.vl_tree.specs.declared.operator.BinaryOperator.TheVariants as b
use Rattle.vl_tree.specs.Expr.{
  Expr,
  Exprs,
  Selects,
  number,
  name,
  paren,
  unary,
  binary,
  conditional,
  concat,
  repeat,
  cast,
  none,
  more,
  whole,
  bit,
  part,
  indexed,
}
use Rattle.fv_bits.specs.Bits as bits
use Rattle.fv_bits.specs.Bits.{low, ones, extended, as_int, is_less}
use Rattle.vl_size.specs.declared.decl.Decl.{Decl}
use Rattle.vl_size.specs.declared.way.Way.{Way}
use Rattle.vl_size.specs.declared.way.Way.TheVariants as w
use Rattle.vl_size.specs.Way.{way, keeps_size}
use Rattle.vl_size.specs.Sign.{sign}
use Rattle.vl_size.specs.Table.{declared_as, span, is_between, word_name}

-- numbers by name; of a memory, by the names of its words
abbrev pub Values : Type 0
Values = List ℕ → ℕ

-- numbers of names, and of a memory's words by their index
abbrev pub Cells : Type 0
Cells = List ℕ → Option ℤ → ℕ

-- the name of what has a number: of a memory's word, the memory's with the index behind it
abbrev pub cell_name : List ℕ → Option ℤ → List ℕ
cell_name text None = text
cell_name text (Some i) = word_name text i

abbrev pub cells_in : Values → Cells
cells_in v text index = v (cell_name text index)

infixl 20 ◌>>=◌
abbrev pub ◌>>=◌ : {A B : Type 0} → Option A → (A → Option B) → Option B
None >>= f = None
Some x >>= f = f x

-- at most 128 bits
abbrev pub within : ℕ → Option ℕ
within n = if nat_le n 128 then Some n else None

abbrev pub only_if : Bool → ℕ → Option ℕ
only_if true n = within n
only_if false n = None

-- a concatenation has at least one part
abbrev pub some_bits : Option ℕ → Option ℕ
some_bits None = None
some_bits (Some zero) = None
some_bits (Some (suc n)) = Some (suc n)

-- where there is one
abbrev pub or_none : Option ℕ → ℕ
or_none None = 0
or_none (Some n) = n

-- one bit, where both have a size
abbrev pub both : Option ℕ → Option ℕ → Option ℕ
both None n = None
both (Some m) None = None
both (Some m) (Some n) = Some 1

-- of what has no size: 0
abbrev pub with_size : Option ℕ → (ℕ → ℕ) → ℕ
with_size None f = 0
with_size (Some m) f = f m

-- ---- constants: no name stands in them. A declared name counts as not constant.

abbrev mutual
  pub is_constant : Expr → Bool
  is_constant (number p n) = true
  is_constant (name p text ss) = false
  is_constant (paren p x) = is_constant x
  is_constant (unary p op x) = is_constant x
  is_constant (binary p op x y) = is_constant x && is_constant y
  is_constant (conditional p c x y) = is_constant c && (is_constant x && is_constant y)
  is_constant (concat p es) = are_constant es
  is_constant (repeat p n es) = is_constant n && are_constant es
  is_constant (cast p to x) = is_constant x

  pub are_constant : Exprs → Bool
  are_constant none = true
  are_constant (more e es) = is_constant e && are_constant es

-- what a constant is evaluated over
abbrev pub no_names : Cells
no_names text index = 0

-- ---- sizes of operations: table 5-22

abbrev pub size_by : Way → ℕ → ℕ → ℕ
size_by w.Larger m n = max m n
size_by w.Left m n = m
size_by w.One m n = 1

abbrev pub unary_size : UnaryOperator → ℕ → ℕ
unary_size op m = if keeps_size op then m else 1

abbrev pub divides : BinaryOperator → Bool
divides b.Divide = true
divides b.Remainder = true
divides op = false

-- a quotient and a remainder are of constants; whether the divisor is 0 goes by its context: Divisors
abbrev pub operation_size : BinaryOperator → ℕ → ℕ → Bool → Option ℕ
operation_size op m n constant = if divides op then only_if constant (max m n) else Some (size_by (way op) m n)

-- a bound of a part has 32 signed bits at most
abbrev pub is_bound : ℤ → Bool
is_bound i = int_le (negsuc (2 ^ 31 - 1)) i && int_lt i (pos (2 ^ 31))

-- the declared range descends, or is one place
abbrev pub descends : Decl → Bool
descends d = int_le d.right d.left

-- from left to right as the declared range goes
abbrev pub goes_along : Decl → ℤ → ℤ → Bool
goes_along d l r = if descends d then int_le r l else int_le l r

-- the part `[l:r]`
abbrev pub part_size : Decl → ℤ → ℤ → Option ℕ
part_size d l r = only_if (is_bound l && (is_bound r && goes_along d l r)) (span l r)

-- the part `[s +: n]`, or n copies of k bits
abbrev pub times : ℤ → ℕ → Option ℕ
times (pos zero) k = None
times (pos (suc n)) k = within (suc n * k)
times (negsuc n) k = None

-- ---- selects

-- the place of an index in a vector, counted from its lowest bit
abbrev pub offset_of : Decl → ℤ → ℤ
offset_of d i = if descends d then i -ℤ d.right else d.right -ℤ i

-- the bit at a place; past the vector it is 0
abbrev pub bit_at : ℕ → ℕ → ℤ → ℕ
bit_at w x (pos k) = if nat_le w k then 0 else x / 2 ^ k % 2
bit_at w x (negsuc k) = 0

-- so many bits from a place on upwards
abbrev pub bits_from : ℕ → ℕ → ℕ → ℤ → ℕ
bits_from zero w x i = 0
bits_from (suc n) w x i = bit_at w x i + 2 * bits_from n w x (i +ℤ pos 1)

-- where the part `[s +: n]` of a vector begins, counted from its lowest bit
abbrev pub start_of : Decl → ℤ → ℕ → ℤ
start_of d s n = if descends d then offset_of d s else offset_of d (s +ℤ pos (n - 1))

-- a memory's word; past its bounds it is 0
abbrev pub memory_word : Cells → Decl → Option (ℤ × ℤ) → ℤ → ℕ
memory_word v d None i = 0
memory_word v d (Some bounds) i = if is_between bounds.0 bounds.1 i then v d.name (Some i) else 0

-- ---- operations on values

-- an operand: its size and sign by itself, and its number in each context
pub record Operand : Type 0 where
  pub size : ℕ
  pub sign : Bool
  pub at : ℕ → Bool → ℕ

abbrev pub operand : Option ℕ → Bool → (ℕ → Bool → ℕ) → Operand
operand m s at = record { size = or_none m; sign = s; at = at }

-- its number where nothing comes from a context
abbrev pub own : Operand → ℕ
own x = x.at x.size x.sign

-- the same, read as signed where it is signed: an index, a bound, a width or a count
abbrev pub index_of : Operand → ℤ
index_of x = as_int x.size x.sign (own x)

abbrev pub is_true : Operand → Bool
is_true x = not (own x == 0)

abbrev pub arithmetic : BinaryOperator → ℕ → Bool → ℕ → ℕ → ℕ
arithmetic b.Multiply w s m n = bits.product w m n
arithmetic b.Divide w s m n = bits.quotient w s m n
arithmetic b.Remainder w s m n = bits.remainder w s m n
arithmetic b.Add w s m n = bits.sum w m n
arithmetic b.Subtract w s m n = bits.difference w m n
arithmetic b.BitwiseAnd w s m n = bit_and m n
arithmetic b.BitwiseXor w s m n = bit_xor m n
arithmetic b.BitwiseXnor w s m n = bits.complement w (bit_xor m n)
arithmetic b.BitwiseXnorCaretFirst w s m n = bits.complement w (bit_xor m n)
arithmetic b.BitwiseOr w s m n = bit_or m n
arithmetic op w s m n = 0

abbrev pub shifted : BinaryOperator → ℕ → Bool → ℕ → ℕ → ℕ
shifted b.ShiftRight w s m k = bits.shifted_right m k
shifted b.ArithmeticShiftRight w s m k = bits.right_by_sign w s m k
shifted op w s m k = bits.shifted_left w m k

-- both at the larger of their sizes, signed where both are
abbrev pub compared : BinaryOperator → ℕ → Bool → ℕ → ℕ → Bool
compared b.Less w s m n = is_less w s m n
compared b.LessEqual w s m n = not (is_less w s n m)
compared b.Greater w s m n = is_less w s n m
compared b.GreaterEqual w s m n = not (is_less w s m n)
compared b.Equal w s m n = m == n
compared b.CaseEqual w s m n = m == n
compared op w s m n = not (m == n)

abbrev pub tested : BinaryOperator → Operand → Operand → Bool
tested b.LogicalAnd x y = is_true x && is_true y
tested b.LogicalOr x y = is_true x || is_true y
tested op x y = let w = max x.size y.size in let s = x.sign && y.sign in compared op w s (x.at w s) (y.at w s)

abbrev pub binary_number : Way → BinaryOperator → ℕ → Bool → Operand → Operand → ℕ
binary_number w.Larger op w s x y = arithmetic op w s (x.at w s) (y.at w s)
binary_number w.Left op w s x y = shifted op w s (x.at w s) (own y)
binary_number w.One op w s x y = extended 1 w s (bits.bit (tested op x y))

-- the bits of an operand, reduced to one
abbrev pub reduced : UnaryOperator → ℕ → ℕ → Bool
reduced u.LogicalNot w n = n == 0
reduced u.ReductionAnd w n = n == ones w
reduced u.ReductionNand w n = not (n == ones w)
reduced u.ReductionOr w n = not (n == 0)
reduced u.ReductionNor w n = n == 0
reduced u.ReductionXor w n = bits.parity w n
reduced op w n = not (bits.parity w n)

abbrev pub unary_number : UnaryOperator → ℕ → Bool → Operand → ℕ
unary_number u.Plus w s x = x.at w s
unary_number u.Minus w s x = bits.negative w (x.at w s)
unary_number u.BitwiseNot w s x = bits.complement w (x.at w s)
unary_number op w s x = extended 1 w s (bits.bit (reduced op x.size (own x)))

-- of a name that isn't declared: 0
abbrev pub with_decl : Option Decl → (Decl → ℕ) → ℕ
with_decl None f = 0
with_decl (Some d) f = f d

-- so many copies of a number of k bits, one behind the other
abbrev pub copies : ℕ → ℕ → ℕ → ℕ
copies zero k x = 0
copies (suc n) k x = x + 2 ^ k * copies n k x

-- ---- the block

module _ (ds : List Decl) where
  abbrev mutual
    -- the size of an expression by itself; None where a name isn't declared, a node isn't valid, or a size is above 128
    pub size : Expr → Option ℕ
    size (number p n) = Some n.width
    size (name p text ss) = declared_as ds text >>= λ d. if is_none d.words then vector_size d ss else word_size d ss
    size (paren p x) = size x
    size (unary p op x) = size x >>= λ m. Some (unary_size op m)
    size (binary p op x y) = size x >>= λ m. size y >>= λ n. operation_size op m n (is_constant x && is_constant y)
    size (conditional p c x y) = size c >>= λ k. size x >>= λ m. size y >>= λ n. Some (max m n)
    size (concat p es) = some_bits (sizes es)
    size (repeat p n es) =
        size n >>= λ k. some_bits (sizes es) >>= λ m.
        if is_constant n then times (index_of (operand (Some k) (sign ds n) (λ j t. value no_names j t n))) m else None
    size (cast p to x) = size x

    -- the sum
    pub sizes : Exprs → Option ℕ
    sizes none = Some 0
    sizes (more e es) = size e >>= λ m. sizes es >>= λ n. within (m + n)

    -- of a memory, the first select takes the word
    pub word_size : Decl → Selects → Option ℕ
    word_size d (bit p i ss) = size i >>= λ k. vector_size d ss
    word_size d ss = None

    -- a vector has one select at most
    pub vector_size : Decl → Selects → Option ℕ
    vector_size d whole = Some d.width
    vector_size d (bit p i whole) = size i >>= λ k. Some 1
    vector_size d (part p l r whole) =
        size l >>= λ k. size r >>= λ j.
        if is_constant l && is_constant r
        then part_size d (index_of (operand (Some k) (sign ds l) (λ m t. value no_names m t l)))
        (index_of (operand (Some j) (sign ds r) (λ m t. value no_names m t r)))
        else None
    vector_size d (indexed p s n whole) =
        size s >>= λ k. size n >>= λ j.
        if is_constant n then times (index_of (operand (Some j) (sign ds n) (λ m t. value no_names m t n))) 1 else None
    vector_size d ss = None

    -- the number below 2 ^ w that the expression has where size w and sign s come from its context
    pub value : Cells → ℕ → Bool → Expr → ℕ
    value v w s (number p n) = extended n.width w s n.value
    value v w s (name p text ss) =
        with_decl (declared_as ds text) (λ d. if is_none d.words then vector_value v w s d (v d.name None) ss
        else word_value v w s d ss)
    value v w s (paren p x) = value v w s x
    value v w s (unary p op x) = unary_number op w s (operand (size x) (sign ds x) (λ m t. value v m t x))
    value v w s (binary p op x y) =
        binary_number (way op) op w s (operand (size x) (sign ds x) (λ m t. value v m t x))
        (operand (size y) (sign ds y) (λ m t. value v m t y))
    value v w s (conditional p c x y) =
        let first = value v w s x in let second = value v w s y in
        if is_true (operand (size c) (sign ds c) (λ m t. value v m t c)) then first else second
    value v w s (concat p es) = with_size (some_bits (sizes es)) (λ m. extended m w s (concatenated v es))
    value v w s (repeat p n es) =
        with_size (some_bits (sizes es)) (λ k.
        let count = index_of (operand (size n) (sign ds n) (λ m t. value v m t n)) in
        with_size (times count k) (λ m. extended m w s (copies (nat_abs count) k (concatenated v es))))
    value v w s (cast p to x) = let m = or_none (size x) in extended m w s (value v m (sign ds x) x)

    -- the bits of each before those of the next
    pub concatenated : Cells → Exprs → ℕ
    concatenated v none = 0
    concatenated v (more e es) =
        own (operand (size e) (sign ds e) (λ m t. value v m t e)) * 2 ^ or_none (sizes es) + concatenated v es

    -- of a memory: a word, or a part of it
    pub word_value : Cells → ℕ → Bool → Decl → Selects → ℕ
    word_value v w s d (bit p i ss) =
        vector_value v w s d (memory_word v d d.words
        (index_of (operand (size i) (sign ds i) (λ m t. value v m t i)))) ss
    word_value v w s d ss = 0

    -- of a vector with the number x
    pub vector_value : Cells → ℕ → Bool → Decl → ℕ → Selects → ℕ
    vector_value v w s d x whole = extended d.width w s x
    vector_value v w s d x (bit p i whole) =
        extended 1 w s (bit_at d.width x (offset_of d
        (index_of (operand (size i) (sign ds i) (λ m t. value v m t i)))))
    vector_value v w s d x (part p l r whole) =
        let low_end = index_of (operand (size r) (sign ds r) (λ m t. value v m t r)) in
        let n = span (index_of (operand (size l) (sign ds l) (λ m t. value v m t l))) low_end in
        extended n w s (bits_from n d.width x (offset_of d low_end))
    vector_value v w s d x (indexed p i n whole) =
        let k = nat_abs (index_of (operand (size n) (sign ds n) (λ m t. value v m t n))) in
        extended k w s (bits_from k d.width x (start_of d
        (index_of (operand (size i) (sign ds i) (λ m t. value v m t i))) k))
    vector_value v w s d x ss = 0

  -- an expression as an operand: its size and sign by itself, and its number in each context
  abbrev pub operand_of : Cells → Expr → Operand
  operand_of v e = operand (size e) (sign ds e) (λ w s. value v w s e)
