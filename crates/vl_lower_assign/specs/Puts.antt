-- Between functions: A vector in which bits from a place on were assigned. What is assigned where is IEEE 1364-2005,
-- sections 4.2.1, 5.2.1 and 9.2; that bits are assigned from the highest down is a rule of this project.
use Rattle.std.specs.Prelude.{
  ◌≡◌,
  ℕ,
  zero,
  suc,
  List,
  Some,
  nat_lt,
  bytes_eq,
  if◌then◌else◌,
  ℤ,
  pos,
  negsuc,
  ◌+ℤ◌,
}
use Rattle.vl_size.specs.Size.{Values}
use Rattle.vl_mean.specs.Targets.{bit_of, with_bit, spots_from, written, put_all}

-- one bit of a vector of w bits; past the vector it is dropped
abbrev pub put_bit : ℕ → ℤ → ℕ → ℕ → ℕ
put_bit w (pos k) b x = if nat_lt k w then with_bit x k b else x
put_bit w (negsuc k) b x = x

-- n bits of y, from a place on
abbrev pub put_bits : ℕ → ℕ → ℤ → ℕ → ℕ → ℕ
put_bits zero w p y x = x
put_bits (suc n) w p y x = put_bits n w p y (put_bit w (p +ℤ pos n) (bit_of y n) x)

-- that is what an assignment to these bits of a name does
abbrev pub PutsAreAssignments : Type 0
PutsAreAssignments =
    (n w : ℕ) (text : List ℕ) (p : ℤ) (y : ℕ) (v : Values) (other : List ℕ)
    → put_all (written (spots_from n w (Some text) p) y) v other
    ≡ (if bytes_eq other text then put_bits n w p y (v other) else v other)
