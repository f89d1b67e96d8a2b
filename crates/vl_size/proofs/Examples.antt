-- Sizes and values that were worked out by hand. IEEE 1364-2005, sections 5.4.2 and 5.5.
use Rattle.std.specs.Prelude.{◌≡◌, refl, ℕ, ◌<◌, ◌^◌, List, [], ◌∷◌, true, false, Some, None, pos, codes, bytes_eq}
use Rattle.std.specs.Prelude.{if◌then◌else◌}
use Rattle.std.proofs.Common.{lit≤, lit<}
use Rattle.fv_text.specs.declared.pos.Pos.{Pos}
use Rattle.fv_text.specs.declared.number.Number.{Number}
use Rattle.vl_tree.specs.declared.operator.UnaryOperator.TheVariants as u
use Rattle.vl_tree.specs.declared.operator.BinaryOperator.TheVariants as b
use Rattle.vl_tree.specs.declared.operator.Cast.TheVariants as c
use Rattle.vl_tree.specs.Expr.{Expr, number, name, paren, unary, binary, concat, repeat, cast, none, more, whole, bit}
use Rattle.vl_tree.specs.Expr.{part}
use Rattle.vl_size.specs.declared.decl.Class.TheVariants as class
use Rattle.vl_size.specs.declared.decl.Decl.{Decl}
use Rattle.vl_size.specs.Sign.{sign}
use Rattle.vl_size.specs.Size.{Cells, size, value}
use Rattle.vl_size.specs.declared.context.Context.{Context}
use Rattle.vl_size.specs.Divisors.{valid_size, zero_divisor}

abbrev here : Pos
here = record { file = 1; line = 1; col = 1 }

-- `wire [7:0] a, b;`
abbrev eight : List ℕ → Decl
eight text = record {
  name = text;
  width = 8;
  signed = false;
  left = pos 7;
  right = pos 0;
  words = None;
  class = class.Net;
  output = false;
}

abbrev decls : List Decl
decls = eight (codes "a") ∷ eight (codes "b") ∷ []

abbrev values : Cells
values text index = if bytes_eq text (codes "a") then 200 else 100

abbrev a : Expr
a = name here (codes "a") whole

abbrev second : Expr
second = name here (codes "b") whole

abbrev both : Expr
both = binary here b.Add a second

pub sum_size : size decls both ≡ Some 8
sum_size = refl

pub sum_wide : value decls values 9 false both ≡ 300
sum_wide = refl

pub sum_narrow : value decls values 8 false both ≡ 44
sum_narrow = refl

-- `a[7:4]`, whose bounds are bits of a, so it isn't valid; `{a, b}`
pub varying_part : size decls (name here (codes "a") (part here a second whole)) ≡ None
varying_part = refl

pub joined_size : size decls (concat here (more a (more second none))) ≡ Some 16
joined_size = refl

pub joined_value : value decls values 16 false (concat here (more a (more second none))) ≡ 51300
joined_value = refl

pub bit_value : value decls values 1 false (name here (codes "b") (bit here second whole)) ≡ 0
bit_value = refl

pub undeclared : size decls (name here (codes "c") whole) ≡ None
undeclared = refl

-- `1`, `1'b0`, `4'b1000` and `4'd0`
abbrev one : Number
one = record {
  sized = false;
  signed = true;
  width = 32;
  value = 1;
  wild = 0;
  unknown = 0;
  some_bits = lit≤ tt;
  few_bits = lit≤ tt;
  value_fits = lit< tt;
  wild_fits = lit< tt;
  unknown_fits = lit< tt;
}

abbrev bit_0 : Number
bit_0 = record {
  sized = true;
  signed = false;
  width = 1;
  value = 0;
  wild = 0;
  unknown = 0;
  some_bits = lit≤ tt;
  few_bits = lit≤ tt;
  value_fits = lit< tt;
  wild_fits = lit< tt;
  unknown_fits = lit< tt;
}

abbrev four_bits : Number
four_bits = record {
  sized = true;
  signed = false;
  width = 4;
  value = 8;
  wild = 0;
  unknown = 0;
  some_bits = lit≤ tt;
  few_bits = lit≤ tt;
  value_fits = lit< tt;
  wild_fits = lit< tt;
  unknown_fits = lit< tt;
}

abbrev four_zeros : Number
four_zeros = record {
  sized = true;
  signed = false;
  width = 4;
  value = 0;
  wild = 0;
  unknown = 0;
  some_bits = lit≤ tt;
  few_bits = lit≤ tt;
  value_fits = lit< tt;
  wild_fits = lit< tt;
  unknown_fits = lit< tt;
}

-- `(a + b) >> 1` drops the carry in eight bits, and keeps it in nine
abbrev half : Expr
half = binary here b.ShiftRight (paren here both) (number here one)

pub half_narrow : value decls values 8 false half ≡ 22
half_narrow = refl

pub half_wide : value decls values 9 false half ≡ 150
half_wide = refl

-- `-1 < 1'b0` compares unsigned numbers
pub unsigned_less : value [] values 1 false
    (binary here b.Less (unary here u.Minus (number here one)) (number here bit_0)) ≡ 0
unsigned_less = refl

-- `$signed(4'b1000) >>> 1` is signed, and with `4'd0` added it isn't
abbrev shifted : Expr
shifted = binary here b.ArithmeticShiftRight (cast here c.Signed (number here four_bits)) (number here one)

pub shifted_sign : sign [] shifted ≡ true
shifted_sign = refl

pub signed_shift : value [] values 4 true shifted ≡ 12
signed_shift = refl

abbrev with_zero : Expr
with_zero = binary here b.Add (paren here shifted) (number here four_zeros)

pub sum_sign : sign [] with_zero ≡ false
sum_sign = refl

pub unsigned_shift : value [] values 4 false with_zero ≡ 4
unsigned_shift = refl

-- `1 / 1'b0`
pub quotient_size : valid_size [] (binary here b.Divide (number here one) (number here bit_0)) ≡ None
quotient_size = refl

pub copies_size : size decls (repeat here (number here one) (more a (more second none))) ≡ Some 16
copies_size = refl

pub no_copies : size decls (repeat here (number here bit_0) (more a none)) ≡ None
no_copies = refl

-- ---- a divisor has the size of its context: `8'd200 / (8'd255 + 8'd1)` in eight bits and in nine, and
-- `8'd200 / (8'd1 - ((8'd255 + 8'd1) >> 8))`

abbrev eight_bits : (n : ℕ) → n < 2 ^ 8 → Expr
eight_bits n fits = number here (record {
  sized = true;
  signed = false;
  width = 8;
  value = n;
  wild = 0;
  unknown = 0;
  some_bits = lit≤ tt;
  few_bits = lit≤ tt;
  value_fits = fits;
  wild_fits = lit< tt;
  unknown_fits = lit< tt;
})

abbrev carry : Expr
carry = binary here b.Add (eight_bits 255 (lit< tt)) (eight_bits 1 (lit< tt))

abbrev by_carry : Expr
by_carry = binary here b.Divide (eight_bits 200 (lit< tt)) (paren here carry)

abbrev by_rest : Expr
by_rest =
    binary here b.Divide (eight_bits 200 (lit< tt))
    (paren here (binary here b.Subtract (eight_bits 1 (lit< tt)) (paren here (
    binary here b.ShiftRight (paren here carry) (eight_bits 8 (lit< tt))))))

abbrev bits : ℕ → Context
bits n = record { size = Some n; signed = false }

pub carry_in_eight : zero_divisor [] (bits 8) by_carry ≡ Some here
carry_in_eight = refl

pub carry_in_nine : zero_divisor [] (bits 9) by_carry ≡ None
carry_in_nine = refl

pub rest_in_eight : zero_divisor [] (bits 8) by_rest ≡ None
rest_in_eight = refl

pub rest_in_nine : zero_divisor [] (bits 9) by_rest ≡ Some here
rest_in_nine = refl

pub carry_by_itself : valid_size [] by_carry ≡ None
carry_by_itself = refl

-- `200 / (200 / (255 + 1))`, of which the inner division is refused: what it divides has no value, so it isn't by 0
abbrev inside : Pos
inside = record { file = 1; line = 1; col = 9 }

abbrev by_refused : Expr
by_refused =
    binary here b.Divide (eight_bits 200 (lit< tt))
    (paren here (binary inside b.Divide (eight_bits 200 (lit< tt)) (paren here carry)))

pub refused_in_eight : zero_divisor [] (bits 8) by_refused ≡ Some inside
refused_in_eight = refl

-- where the inner one is none, its quotient 0 is a divisor
pub refused_in_nine : zero_divisor [] (bits 9) by_refused ≡ Some here
refused_in_nine = refl
