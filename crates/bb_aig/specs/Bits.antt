-- Between functions: Lists of bits, the lowest first: their numbers, and what operators make of them (rule of this
-- project).
use Rattle.std.specs.Prelude.{
  ℕ,
  zero,
  suc,
  ◌+◌,
  ◌*◌,
  ◌-◌,
  ◌<◌,
  Bool,
  true,
  false,
  not,
  ◌&&◌,
  ◌||◌,
  List,
  [],
  ◌∷◌,
}
use Rattle.std.specs.Prelude.{◌++◌, length, take, drop, map, replicate, nat_lt, nat_le}
use Rattle.fv_bits.specs.Bits.{bit}

abbrev pub number : List Bool → ℕ
number [] = 0
number (b ∷ bs) = bit b + 2 * number bs

abbrev pub differ : Bool → Bool → Bool
differ true b = not b
differ false b = b

abbrev pub pick : Bool → Bool → Bool → Bool
pick true a b = a
pick false a b = b

-- each bit of the one with that of the other
abbrev pub paired : (Bool → Bool → Bool) → List Bool → List Bool → List Bool
paired f (x ∷ xs) (y ∷ ys) = f x y ∷ paired f xs ys
paired f xs ys = []

abbrev pub summed : Bool → Bool → Bool → Bool
summed a b c = differ (differ a b) c

abbrev pub carried : Bool → Bool → Bool → Bool
carried a b c = (a && b) || (differ a b && c)

-- the sum, with a carry from below
abbrev pub add_bits : Bool → List Bool → List Bool → List Bool
add_bits c (x ∷ xs) (y ∷ ys) = summed x y c ∷ add_bits (carried x y c) xs ys
add_bits c xs ys = []

-- whether the one is less, or, where they are equal, what is told
abbrev pub less_bits : Bool → List Bool → List Bool → Bool
less_bits r (x ∷ xs) (y ∷ ys) = less_bits (pick (differ x y) y r) xs ys
less_bits r xs ys = r

abbrev pub same_bits : Bool → List Bool → List Bool → Bool
same_bits r (x ∷ xs) (y ∷ ys) = same_bits (r && not (differ x y)) xs ys
same_bits r xs ys = r

abbrev pub any_bit : Bool → List Bool → Bool
any_bit r [] = r
any_bit r (x ∷ xs) = any_bit (r || x) xs

-- so many bits that are filled in below, and as many as there were
abbrev pub moved_up : ℕ → List Bool → List Bool
moved_up k xs = take (length xs) (replicate k false ++ xs)

-- the products of the bits of the one with the other, one on top of the other
abbrev pub mul_bits : List Bool → List Bool → List Bool → List Bool
mul_bits sum xs [] = sum
mul_bits sum xs (y ∷ ys) = mul_bits (add_bits false sum (map (λ x. y && x) xs)) (moved_up 1 xs) ys

-- moved up by a number of which the lowest bit counts k
abbrev pub shl_bits : ℕ → List Bool → List Bool → List Bool
shl_bits k xs [] = xs
shl_bits k xs (y ∷ ys) = shl_bits (2 * k) (paired (pick y) (moved_up k xs) xs) ys

-- so many bits taken away below, and as many as there were, filled in above
abbrev pub moved_down : Bool → ℕ → List Bool → List Bool
moved_down fill k xs = take (length xs) (drop k xs ++ replicate k fill)

-- moved down by a number of which the lowest bit counts k
abbrev pub shr_bits : Bool → ℕ → List Bool → List Bool → List Bool
shr_bits fill k xs [] = xs
shr_bits fill k xs (y ∷ ys) = shr_bits fill (2 * k) (paired (pick y) (moved_down fill k xs) xs) ys

-- the highest bit, and all with it turned
abbrev pub top : List Bool → Bool
top [] = false
top (x ∷ []) = x
top (x ∷ y ∷ ys) = top (y ∷ ys)

abbrev pub turned_top : List Bool → List Bool
turned_top [] = []
turned_top (x ∷ []) = not x ∷ []
turned_top (x ∷ y ∷ ys) = x ∷ turned_top (y ∷ ys)
