-- Bits that a part has of a vector.
use Rattle.std.specs.Prelude.{◌≡◌, ℕ, ◌+◌, ◌-◌, ◌<◌, ◌≤◌, min, ℤ, pos, ◌+ℤ◌}
use Rattle.std.proofs.Common.{arith, sym}
use Rattle.std.proofs.lemmas.Int.{ints}
use Rattle.vl_lower_assign.specs.Overlap.{IsOverlap}

pub low_overlap : (n w : ℕ) (p : ℤ) (k past : ℕ) → (p +ℤ pos k) ≡ pos 0 → k < n → 1 ≤ w → past ≡ min (n - k) w
    → IsOverlap n w p 0 past k
low_overlap n w p k past at less some e = record {
  some = omega (arith, e, less, some);
  within = omega (arith, e);
  place = sym at;
  enough = omega (arith, e, less);
  each = λ j i a b f.
      let same : j + k ≡ i = omega (arith, ints, at, f) in (omega arith, omega (arith, e, same, a, b));
}

pub high_overlap : (n w f past : ℕ) → f < w → 1 ≤ n → past ≡ min (f + n) w → IsOverlap n w (pos f) f past 0
high_overlap n w f past below some e = record {
  some = omega (arith, e, below, some);
  within = omega (arith, e);
  place = omega (arith, ints);
  enough = omega (arith, e);
  each = λ j i a b g.
      let same : j ≡ f + i = omega (arith, ints, g) in (omega (arith, same), omega (arith, e, same, a, b));
}
