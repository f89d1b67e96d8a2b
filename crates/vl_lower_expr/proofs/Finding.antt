-- What stands at the place of a name.
use Rattle.std.specs.Prelude.{◌≡◌, ℕ, zero, suc, ◌+◌, ◌*◌, ◌≤◌, ◌<◌, List, [], ◌∷◌, length, Some, is_none}
use Rattle.std.specs.Prelude.{slice_get}
use Rattle.std.specs.Prelude.{ℤ, true}
use mir.Syntax.{w64, w128}
use mir.Val.{to_z, of_z}
use Rattle.std.proofs.Common.{ap, arith, true≢false}
use Rattle.std.proofs.Math.Nat.{mul-le-mul_right}
use Rattle.std.proofs.lemmas.Int.{ints}
use Rattle.fv_bits.specs.Bits.{joined}
use Rattle.vl_size.specs.Size.{copies, is_bound}
use Rattle.vl_lower_nodes.specs.Points.{is_base}

-- where there is something in the first list, there is in the second
pub other_there : {A B : Type 0} (xs : List A) (ys : List B) (i : ℕ) (x : A) → length ys ≡ length xs
    → slice_get xs i ≡ Some x → i < length ys
other_there [] ys i x h e = absurd (true≢false (ap is_none e))
other_there (a ∷ xs) [] i x h e = absurd (omega (arith, h))
other_there (a ∷ xs) (b ∷ ys) zero x h e = omega arith
other_there (a ∷ xs) (b ∷ ys) (suc i) x h e =
    let less = other_there xs ys i x (omega (arith, h)) e in omega (arith, less)

-- a bound is a base
pub bound_base : (i : ℤ) → is_bound i ≡ true → is_base i ≡ true
bound_base i h = grind (arith, ints, h)

-- and whole in 64 bits
pub bound_whole : (i : ℤ) → is_bound i ≡ true → to_z w64 (of_z w64 (to_z w128 (of_z w128 i))) ≡ i
bound_whole i h = grind (arith, ints, h)

-- ---- one more copy

pub fits_more : (a b w : ℕ) → a < b → b * w ≤ 128 → a * w + w ≤ 128
fits_more a b w less few =
    let more : suc a * w ≤ b * w = mul-le-mul_right w less in omega (arith, more, few)

pub copy_more : (k w x : ℕ) → joined w (copies k w x) x ≡ copies (suc k) w x
copy_more k w x = grind arith
