-- Meaning: Constants: parameters and genvars, and expressions in which they are replaced by their numbers. IEEE
-- 1364-2005, sections 3.11, 4.2.1 and 12.4.1; that a constant's select counts as one of `[width - 1 : 0]` is a rule of
-- this project.
use Rattle.std.specs.Prelude.{
  ℕ,
  ◌-◌,
  ◌%◌,
  ◌^◌,
  ◌<◌,
  ◌≤◌,
  max,
  min,
  if◌then◌else◌,
  List,
  [],
  ◌∷◌,
  Bool,
  true,
  false,
  Option,
}
use Rattle.std.specs.Prelude.{Some, None, pos, bytes_eq, if◌then◌else◌}
use Rattle.std.proofs.Common.{arith, mod-lt, pow_pos}
use Rattle.fv_text.specs.declared.pos.Pos.{Pos}
use Rattle.fv_text.specs.declared.number.Number.{Number}
use Rattle.vl_tree.specs.Expr.{
  Expr,
  Exprs,
  Selects,
  number,
  name,
  paren,
  unary,
  binary,
  conditional,
  concat,
  repeat,
  cast,
  none,
  more,
  whole,
  bit,
  part,
  indexed,
}
use Rattle.vl_size.specs.declared.decl.Decl.{Decl}
use Rattle.vl_size.specs.declared.decl.Class.TheVariants as class
use Rattle.vl_size.specs.Sign.{sign}
use Rattle.vl_size.specs.Divisors.{valid_size}
use Rattle.vl_size.specs.Size.{Values, Cells, Operand, value, operand_of, no_names, cells_in}
use Rattle.vl_mean.specs.declared.const_number.Const.{Const}

-- names with their constants; the first one of a name counts
abbrev pub Constants : Type 0
Constants = List (List ℕ × Const)

abbrev pub constant_of : Constants → List ℕ → Option Const
constant_of [] text = None
constant_of (c ∷ cs) text = if bytes_eq text c.0 then Some c.1 else constant_of cs text

-- ---- constants of a width

-- a width from 1 to 128: others don't come
abbrev pub width_in_range : ℕ → ℕ
width_in_range n = max 1 (min n 128)

pub range-some : (n : ℕ) → 1 ≤ width_in_range n
range-some n = omega arith

pub range-few : (n : ℕ) → width_in_range n ≤ 128
range-few n = omega arith

pub low-fits : (n x : ℕ) → x % 2 ^ n < 2 ^ n
low-fits n x = mod-lt x (pow_pos n)

-- the lowest bits of a number
abbrev pub cut_to : ℕ → Bool → ℕ → Const
cut_to n s x = record {
  width = width_in_range n;
  signed = s;
  value = x % 2 ^ width_in_range n;
  some_bits = range-some n;
  few_bits = range-few n;
  fits = low-fits (width_in_range n) x;
}

-- as a number with a size
abbrev pub number_of : Const → Number
number_of c = record {
  sized = true;
  signed = c.signed;
  width = c.width;
  value = c.value;
  wild = 0;
  unknown = 0;
  some_bits = c.some_bits;
  few_bits = c.few_bits;
  value_fits = c.fits;
  wild_fits = pow_pos c.width;
  unknown_fits = pow_pos c.width;
}

-- ---- numbers in place of constants

-- in a select, a constant counts as declared `[width - 1 : 0]`
abbrev pub vector_of : List ℕ → Const → Decl
vector_of text c = record {
  name = text;
  width = c.width;
  signed = c.signed;
  left = pos (c.width - 1);
  right = pos 0;
  words = None;
  class = class.Net;
  output = false;
}

-- and its name has the constant's number
abbrev pub values_at : List ℕ → Const → Values
values_at text c other = if bytes_eq text other then c.value else 0

-- a select of a constant by constants is an unsigned number; another one stays, as does one in which a divisor is 0
abbrev pub number_or : Pos → Option ℕ → Expr → (ℕ → ℕ) → Expr
number_or p None x value = x
number_or p (Some n) x value = number p (number_of (cut_to n false (value n)))

abbrev pub selected_constant : Pos → List ℕ → Expr → Const → Expr
selected_constant p text x c =
    let ds = vector_of text c ∷ [] in number_or p (valid_size ds x) x
    (λ n. value ds (cells_in (values_at text c)) n false x)

abbrev pub named_constant : Pos → List ℕ → Selects → Option Const → Expr
named_constant p text ss None = name p text ss
named_constant p text whole (Some c) = number p (number_of c)
named_constant p text ss (Some c) = selected_constant p text (name p text ss) c

module _ (constant : List ℕ → Option Const) where
  abbrev mutual
    -- the expression with the number of each constant in its place
    pub settled : Expr → Expr
    settled (number p n) = number p n
    settled (name p text ss) = named_constant p text (settled_selects ss) (constant text)
    settled (paren p x) = paren p (settled x)
    settled (unary p op x) = unary p op (settled x)
    settled (binary p op x y) = binary p op (settled x) (settled y)
    settled (conditional p c x y) = conditional p (settled c) (settled x) (settled y)
    settled (concat p es) = concat p (settled_exprs es)
    settled (repeat p n es) = repeat p (settled n) (settled_exprs es)
    settled (cast p to x) = cast p to (settled x)

    pub settled_exprs : Exprs → Exprs
    settled_exprs none = none
    settled_exprs (more e es) = more (settled e) (settled_exprs es)

    pub settled_selects : Selects → Selects
    settled_selects whole = whole
    settled_selects (bit p i ss) = bit p (settled i) (settled_selects ss)
    settled_selects (part p l r ss) = part p (settled l) (settled r) (settled_selects ss)
    settled_selects (indexed p s n ss) = indexed p (settled s) (settled n) (settled_selects ss)

-- an expression over constants, declarations and values: its size and sign by itself, and its number in each context
abbrev pub settled_operand : (List ℕ → Option Const) → List Decl → Cells → Expr → Operand
settled_operand constant ds v e = operand_of ds v (settled constant e)

-- over constants alone
abbrev pub constant_operand : (List ℕ → Option Const) → Expr → Operand
constant_operand constant e = settled_operand constant [] no_names e
