-- Meaning: Numbers of so many bits, as the bits of a vector: what operators make of them. A number of w bits is below
-- 2 ^ w, and is read as signed in two's complement. IEEE 1364-2005, sections 4.1, 5.1 and 5.5.
use Rattle.std.specs.Prelude.{
  ℕ,
  zero,
  suc,
  ◌+◌,
  ◌-◌,
  ◌*◌,
  ◌/◌,
  ◌%◌,
  ◌^◌,
  ◌==◌,
  Bool,
  true,
  false,
  ◌&&◌,
  not,
  nat_le,
}
use Rattle.std.specs.Prelude.{if◌then◌else◌, ℤ, pos, negsuc, int_lt, int_div, int_rem, bit_and, bit_or}

-- the lowest w bits
abbrev pub low : ℕ → ℕ → ℕ
low w n = n % 2 ^ w

-- all w bits set
abbrev pub ones : ℕ → ℕ
ones w = 2 ^ w - 1

-- each of w bits turned
abbrev pub complement : ℕ → ℕ → ℕ
complement w n = ones w - n

-- 1 where the test holds, and else 0
abbrev pub bit : Bool → ℕ
bit true = 1
bit false = 0

-- w bits from the bit `at` on
abbrev pub part : ℕ → ℕ → ℕ → ℕ
part at w n = low w (n / 2 ^ at)

-- `high` in front of the w bits of `behind`
abbrev pub joined : ℕ → ℕ → ℕ → ℕ
joined w high behind = high * 2 ^ w + behind

-- the bits of `to` where the mask is 1, and those of `from` where it is 0
abbrev pub masked : ℕ → ℕ → ℕ → ℕ → ℕ
masked w mask from to = bit_or (bit_and mask to) (bit_and (complement w mask) from)

-- an odd number of the lowest k bits is set
abbrev pub parity : ℕ → ℕ → Bool
parity zero n = false
parity (suc k) n = if n % 2 == 1 then not (parity k (n / 2)) else parity k (n / 2)

-- ---- sums and products: section 5.1.5

abbrev pub sum : ℕ → ℕ → ℕ → ℕ
sum w m n = low w (m + n)

abbrev pub difference : ℕ → ℕ → ℕ → ℕ
difference w m n = low w (m + (2 ^ w - n))

-- what is left to a multiple of 2 ^ w
abbrev pub negative : ℕ → ℕ → ℕ
negative w n = low w (2 ^ w - n)

abbrev pub product : ℕ → ℕ → ℕ → ℕ
product w m n = low w (m * n)

-- what is carried into the bit `at` of a sum with a carry c
abbrev pub carry : ℕ → ℕ → ℕ → ℕ → ℕ
carry at c m n = (low at m + low at n + c) / 2 ^ at

-- ---- numbers with a sign

-- the highest of w bits is set
abbrev pub is_negative : ℕ → ℕ → Bool
is_negative w n = nat_le (2 ^ (w - 1)) n

-- as a signed number
abbrev pub to_int : ℕ → ℕ → ℤ
to_int w n = if is_negative w n then negsuc (2 ^ w - 1 - n) else pos n

-- as a number of the sign
abbrev pub as_int : ℕ → Bool → ℕ → ℤ
as_int w true n = to_int w n
as_int w false n = pos n

abbrev pub is_below_zero : ℤ → Bool
is_below_zero (pos n) = false
is_below_zero (negsuc n) = true

-- exactly one of the two is below 0
abbrev pub is_one_below_zero : ℤ → ℤ → Bool
is_one_below_zero a b = if is_below_zero a then not (is_below_zero b) else is_below_zero b

-- the number of w bits that is a signed number, up to a multiple of 2 ^ w
abbrev pub of_int : ℕ → ℤ → ℕ
of_int w (pos n) = low w n
of_int w (negsuc n) = ones w - low w n

-- the first is less, both read by the sign
abbrev pub is_less : ℕ → Bool → ℕ → ℕ → Bool
is_less w s m n = int_lt (as_int w s m) (as_int w s n)

-- the first is less, both read as signed
abbrev pub is_less_signed : ℕ → ℕ → ℕ → Bool
is_less_signed w m n = is_less w true m n

-- a number of m bits in w bits, extended by its sign bit
abbrev pub sign_extended : ℕ → ℕ → ℕ → ℕ
sign_extended m w n = if is_negative m n then n + (2 ^ w - 2 ^ m) else n

-- a number of m bits in w bits, which may be fewer, extended by its sign bit where the sign says so: section 5.5.2
abbrev pub extended : ℕ → ℕ → Bool → ℕ → ℕ
extended m w s n = low w (if s && is_negative m n then n + (2 ^ w - 2 ^ m) else n)

-- rounded to zero; a divisor 0 gives 0
abbrev pub quotient : ℕ → Bool → ℕ → ℕ → ℕ
quotient w s m n = if n == 0 then 0 else of_int w (int_div (as_int w s m) (as_int w s n))

-- with the sign of what is divided; a divisor 0 gives 0
abbrev pub remainder : ℕ → Bool → ℕ → ℕ → ℕ
remainder w s m n = if n == 0 then 0 else of_int w (int_rem (as_int w s m) (as_int w s n))

-- ---- shifts: section 5.1.12

abbrev pub shifted_left : ℕ → ℕ → ℕ → ℕ
shifted_left w n k = low w (n * 2 ^ k)

abbrev pub shifted_right : ℕ → ℕ → ℕ
shifted_right n k = n / 2 ^ k

-- filled with the sign bit where the sign says so
abbrev pub right_by_sign : ℕ → Bool → ℕ → ℕ → ℕ
right_by_sign w s n k = if s && is_negative w n then complement w (complement w n / 2 ^ k) else n / 2 ^ k

-- filled with the sign bit
abbrev pub arithmetic_right : ℕ → ℕ → ℕ → ℕ
arithmetic_right w n k = right_by_sign w true n k
