-- Meaning: Why an expression isn't a constant: the earliest fault in it, and of several at one place the first of
-- their order. Over expressions in which numbers stand in place of constants. Rules of this project; what a constant
-- expression is, is IEEE 1364-2005, section 4.2.1.
use Rattle.std.specs.Prelude.{
  ℕ,
  zero,
  suc,
  ◌+◌,
  ◌*◌,
  ◌-◌,
  ◌^◌,
  ◌==◌,
  max,
  min,
  List,
  Bool,
  ◌&&◌,
  ◌||◌,
  not,
  nat_le,
}
use Rattle.std.specs.Prelude.{nat_lt, Option, Some, None, ℤ, pos, negsuc, int_le, if◌then◌else◌}
use Rattle.fv_text.specs.declared.pos.Pos.{Pos}
use Rattle.vl_tree.specs.declared.expr.Select.{Select}
use Rattle.vl_tree.specs.declared.expr.Select.TheVariants as s
use Rattle.vl_tree.specs.declared.operator.BinaryOperator.{BinaryOperator}
use Rattle.vl_tree.specs.Expr.{
  Expr,
  Exprs,
  Selects,
  number,
  name,
  paren,
  unary,
  binary,
  conditional,
  concat,
  repeat,
  cast,
  none,
  more,
  whole,
  bit,
  part,
  indexed,
}
use Rattle.vl_size.specs.declared.decl.Decl.{Decl}
use Rattle.vl_size.specs.Divisors.{valid_size, own_zero_divisor, selects_zero_divisor}
use Rattle.vl_size.specs.Places.{is_earlier}
use Rattle.vl_size.specs.Size.{◌>>=◌, Cells, some_bits, unary_size, size_by, is_bound, index_of, operand_of}
use Rattle.vl_size.specs.Table.{span}
use Rattle.vl_size.specs.Way.{way}
use Rattle.vl_mean.specs.declared.const_number.Const.{Const}
use Rattle.vl_mean.specs.declared.const_fault.ConstFault.{ConstFault}
use Rattle.vl_mean.specs.declared.const_fault.ConstFault.TheVariants as f

-- of a fault that isn't want of memory
abbrev pub UnlessMemory : ConstFault → Type 0 → Type 0
UnlessMemory f.Memory P = Unit {0}
UnlessMemory g P = P

-- ---- the earliest

abbrev pub fault_place : ConstFault → Pos
fault_place (f.NotConstant p) = p
fault_place (f.ZeroDivisor p) = p
fault_place (f.TooWide p n) = p
fault_place (f.Range p) = p
fault_place f.Memory = record { file = 0; line = 0; col = 0 }

abbrev pub rank : ConstFault → ℕ
rank (f.NotConstant p) = 1
rank (f.ZeroDivisor p) = 2
rank (f.TooWide p n) = 3
rank (f.Range p) = 4
rank f.Memory = 5

-- the second comes before the first
abbrev pub comes_before : ConstFault → ConstFault → Bool
comes_before g h = is_earlier (fault_place g) (fault_place h)
    || (not (is_earlier (fault_place h) (fault_place g)) && nat_lt (rank g) (rank h))

-- of two alike the first stays: it is the inner one
abbrev pub earlier : Option ConstFault → Option ConstFault → Option ConstFault
earlier None b = b
earlier (Some g) None = Some g
earlier (Some g) (Some h) = if comes_before h g then Some h else Some g

-- ---- sizes without a limit, up to 2 ^ 64 - 1

abbrev pub capped : ℕ → ℕ
capped n = min n (2 ^ 64 - 1)

-- so many copies of k bits, at least one
abbrev pub wide_times : ℤ → ℕ → Option ℕ
wide_times (pos zero) k = None
wide_times (pos (suc n)) k = Some (capped (suc n * k))
wide_times (negsuc n) k = None

-- the part `[l:r]` of a vector that descends
abbrev pub wide_part : ℤ → ℤ → Option ℕ
wide_part l r = if is_bound l && (is_bound r && int_le r l) then Some (span l r) else None

abbrev pub too_wide : Pos → Option ℕ → Option ConstFault
too_wide p None = None
too_wide p (Some n) = if nat_le n 128 then None else Some (f.TooWide p n)

-- ---- faults

-- a division by 0, where there is one
abbrev pub divisor_fault : Option Pos → Option ConstFault
divisor_fault None = None
divisor_fault (Some p) = Some (f.ZeroDivisor p)

-- a bound past 32 signed bits
abbrev pub far_fault : Pos → ℤ → Option ConstFault
far_fault q i = if is_bound i then None else Some (f.Range q)

-- what has no size isn't right
abbrev pub range_unless : Pos → Option ℕ → Option ConstFault
range_unless p None = Some (f.Range p)
range_unless p (Some n) = None

-- a concatenation and a replication have a part
abbrev pub no_part : Pos → Exprs → Option ConstFault
no_part p none = Some (f.Range p)
no_part p (more e es) = None

-- of a constant with a select that has no size something is wrong in any case
abbrev pub or_range : Pos → Option ConstFault → Option ConstFault
or_range p None = Some (f.Range p)
or_range p (Some g) = Some g

-- the place of its bracket
abbrev pub bracket : Select → Pos
bracket (s.Bit q i) = q
bracket (s.Part q l r) = q
bracket (s.Indexed q i n) = q

-- where there is a size
abbrev pub if_sized : {A : Type 0} → Option ℕ → Option A → Option A
if_sized None x = None
if_sized (Some n) x = x

module _ (ds : List Decl) (v : Cells) where
  abbrev pub index : Expr → ℤ
  index e = index_of (operand_of ds v e)

  -- of a constant's first select
  abbrev pub wide_select : Selects → Option ℕ
  wide_select (part q l r ss) = if_sized (valid_size ds l) (if_sized (valid_size ds r) (wide_part (index l) (index r)))
  wide_select (indexed q s n ss) = if_sized (valid_size ds s) (if_sized (valid_size ds n) (wide_times (index n) 1))
  wide_select ss = None

  -- a bound past 32 signed bits, whatever the other one is
  abbrev pub bound_fault : Pos → Expr → Option ConstFault
  bound_fault q e = if_sized (valid_size ds e) (far_fault q (index e))

  -- of two bounds
  abbrev pub part_fault : Pos → Expr → Expr → Option ConstFault
  part_fault q l r =
      if_sized (valid_size ds l) (if_sized (valid_size ds r) (range_unless q (wide_part (index l) (index r))))

  -- a constant's first select past 32 signed bits, against its direction, or of width below 1
  abbrev pub range_fault : Selects → Option ConstFault
  range_fault (part q l r ss) = earlier (earlier (bound_fault q l) (bound_fault q r)) (part_fault q l r)
  range_fault (indexed q s n ss) = if_sized (valid_size ds n) (range_unless q (wide_times (index n) 1))
  range_fault ss = None

  abbrev pub count_fault : Pos → Expr → Option ConstFault
  count_fault p n = if_sized (valid_size ds n) (range_unless p (wide_times (index n) 1))

  abbrev pub wide_name : Option Const → Selects → Option ℕ
  wide_name None ss = None
  wide_name (Some c) ss = wide_select ss

  abbrev pub name_fault : Pos → Option Const → Selects → Option ConstFault → Option ConstFault
  name_fault p None ss inner = earlier inner (Some (f.NotConstant p))
  name_fault p (Some c) ss inner =
      or_range p (earlier inner (earlier (divisor_fault (selects_zero_divisor ds ss))
      (earlier (range_fault ss) (too_wide p (wide_select ss)))))

module _ (constant : List ℕ → Option Const) (ds : List Decl) (v : Cells) where
  -- the size of an expression without a limit; None where a part has none
  abbrev mutual
    pub wide : Expr → Option ℕ
    wide (number p n) = Some n.width
    wide (name p text ss) = wide_name ds v (constant text) ss
    wide (paren p x) = wide x
    wide (unary p op x) = wide x >>= λ m. Some (unary_size op m)
    wide (binary p op x y) = wide x >>= λ m. wide y >>= λ n. Some (size_by (way op) m n)
    wide (conditional p c x y) = wide x >>= λ m. wide y >>= λ n. Some (max m n)
    wide (concat p es) = some_bits (wides es)
    wide (repeat p n es) = some_bits (wides es) >>= λ m. if_sized (valid_size ds n) (wide_times (index ds v n) m)
    wide (cast p to x) = wide x

    pub wides : Exprs → Option ℕ
    wides none = Some 0
    wides (more e es) = wide e >>= λ m. wides es >>= λ n. Some (capped (m + n))

  -- ---- the earliest fault in an expression, but for its divisors

  abbrev mutual
    pub fault : Expr → Option ConstFault
    fault (number p n) = None
    fault (name p text ss) = name_fault ds v p (constant text) ss (selects_fault ss)
    fault (paren p x) = earlier (fault x) (too_wide p (wide x))
    fault (unary p op x) = earlier (fault x) (too_wide p (wide (unary p op x)))
    fault (binary p op x y) = earlier (earlier (fault x) (fault y)) (too_wide p (wide (binary p op x y)))
    fault (conditional p c x y) =
        earlier (earlier (fault c) (earlier (fault x) (fault y))) (too_wide p (wide (conditional p c x y)))
    fault (concat p es) = earlier (faults es) (earlier (no_part p es) (too_wide p (wide (concat p es))))
    fault (repeat p n es) =
        earlier (earlier (fault n) (faults es)) (earlier (no_part p es)
        (earlier (count_fault ds v p n) (too_wide p (wide (repeat p n es)))))
    fault (cast p to x) = earlier (fault x) (too_wide p (wide x))

    pub faults : Exprs → Option ConstFault
    faults none = None
    faults (more e es) = earlier (fault e) (faults es)

    -- a select behind the first one isn't right
    pub selects_fault : Selects → Option ConstFault
    selects_fault whole = None
    selects_fault (bit q i ss) = earlier (fault i) (behind ss)
    selects_fault (part q l r ss) = earlier (earlier (fault l) (fault r)) (behind ss)
    selects_fault (indexed q s n ss) = earlier (earlier (fault s) (fault n)) (behind ss)

    pub behind : Selects → Option ConstFault
    behind whole = None
    behind (bit q i ss) = earlier (Some (f.Range q)) (earlier (fault i) (behind ss))
    behind (part q l r ss) = earlier (Some (f.Range q)) (earlier (earlier (fault l) (fault r)) (behind ss))
    behind (indexed q s n ss) = earlier (Some (f.Range q)) (earlier (earlier (fault s) (fault n)) (behind ss))

  abbrev pub select_fault : Select → Option ConstFault
  select_fault (s.Bit q i) = fault i.value
  select_fault (s.Part q l r) = earlier (fault l.value) (fault r.value)
  select_fault (s.Indexed q i n) = earlier (fault i.value) (fault n.value)

  -- of a whole expression: also a division by 0, where its divisors have the size and the sign that it has by itself
  abbrev pub first_fault : Expr → Option ConstFault
  first_fault e = earlier (fault e) (divisor_fault (own_zero_divisor ds e))
