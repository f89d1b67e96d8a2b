-- Tests as bits.
use Rattle.std.specs.Prelude.{◌≡◌, refl, ◌==◌, Bool, true, false, not, ◌&&◌, ◌||◌, bit_and, bit_or}
use Rattle.fv_bits.specs.Bits.{bit, complement}

pub not_bit : (b : Bool) → complement 1 (bit b) ≡ bit (not b)
not_bit true = refl
not_bit false = refl

pub set_is : (b : Bool) → (bit b == 1) ≡ b
set_is true = refl
set_is false = refl

pub both_is : (a b : Bool) → bit_and (bit a) (bit b) ≡ bit (a && b)
both_is true true = refl
both_is true false = refl
both_is false true = refl
both_is false false = refl

pub either_is : (a b : Bool) → bit_or (bit a) (bit b) ≡ bit (a || b)
either_is true true = refl
either_is true false = refl
either_is false true = refl
either_is false false = refl

pub ruleset tests = (not_bit, set_is)

pub ruleset pairs = (both_is, either_is)
