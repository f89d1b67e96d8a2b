-- Rows of zeros, and rows of a tree that was taken out of its box.
use Rattle.std.specs.Prelude.{◌≡◌, ℕ, ◌+◌, ◌-◌, ◌%◌, ◌<◌, ◌≤◌, ◌^◌, List, Option, Some, None, IfSome, Bool, true}
use Rattle.std.specs.Prelude.{false, ◌&&◌, if◌then◌else◌, get_or, replicate}
use Rattle.std.proofs.Common.{ap, ◌∙◌, arith}
use Rattle.std.proofs.Math.Nat.{mod-eq_of_lt}
use Rattle.std.proofs.lemmas.List.{get_or-replicate}
use Rattle.std.proofs.lemmas.Nat.{pow_pos}
use Rattle.fv_text.specs.declared.pos.Pos.{Pos}
use Rattle.fv_bits.specs.Bits.{extended, is_negative}
use Rattle.vl_size.specs.Rows.{IsRow}

abbrev pub zeros : List ℕ
zeros = replicate 129 0

pub zero_at : (w : ℕ) → w ≤ 128 → ◌≡◌ {A = ℕ} (get_or zeros w 0) 0
zero_at w h = get_or-replicate 129 w 0 0 (omega (arith, h))

pub zero_fits : (w : ℕ) → w ≤ 128 → get_or zeros w 0 < 2 ^ w
zero_fits w h = omega (arith, zero_at w h, pow_pos w)

pub row_at : (o : Option ℕ) (ns : List ℕ) (f : Pos → ℕ → ℕ) (g : ℕ → ℕ) (p : Pos) → ((w : ℕ) → f p w ≡ g w)
    → IfSome o (λ m. (q : Pos) → IsRow ns (f q)) → IfSome o (λ m. IsRow ns g)
row_at None ns f g p e h = tt
row_at (Some m) ns f g p e h = λ w k. h p w k ∙ e w

pub row_of_0 : (o : Option ℕ) (ns : List ℕ) (g : ℕ → ℕ) → ((w : ℕ) → 0 ≡ g w) → IsRow ns (λ w. 0)
    → IfSome o (λ m. IsRow ns g)
row_of_0 None ns g e h = tt
row_of_0 (Some m) ns g e h = λ w k. h w k ∙ e w

-- a number is itself at its own size
pub extended_same : (m n : ℕ) (s : Bool) → n < 2 ^ m → extended m m s n ≡ n
extended_same m n s h = by (s && is_negative m n)
  where
    by : (b : Bool) → (if b then n + (2 ^ m - 2 ^ m) else n) % 2 ^ m ≡ n
    by true = ap (λ k. k % 2 ^ m) (omega arith) ∙ mod-eq_of_lt h
    by false = mod-eq_of_lt h
