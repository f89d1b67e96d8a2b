-- A value at first that is cut to the size of its assignment writes the same bits.
use Rattle.std.specs.Prelude.{◌≡◌, refl, ℕ, ◌+◌, ◌-◌, ◌/◌, ◌%◌, ◌^◌, ◌<◌, ◌≤◌, max, Bool, true}
use Rattle.std.specs.Prelude.{false, ◌&&◌, nat_le, if◌then◌else◌, List, [], ◌∷◌, length, Option, Some, None}
use Rattle.std.proofs.Common.{ap, ◌∙◌, arith, mod-lt, pow_pos, mod-eq_of_lt}
use Rattle.std.proofs.lemmas.Nat.{mod-pow-add, div-mul-add}
use Rattle.std.proofs.Math.Pow.{mod-mod-pow}
use Rattle.vl_tree.specs.Expr.{Expr, number}
use Rattle.vl_tree.specs.Lval.{Lval}
use Rattle.fv_bits.specs.Bits.{extended}
use Rattle.vl_size.specs.declared.decl.Decl.{Decl}
use Rattle.vl_size.specs.Size.{Operand}
use Rattle.vl_mean.specs.Constants.{number_of, width_in_range}
use Rattle.vl_mean.specs.FlatLaw.{flat_scopes}
use Rattle.vl_mean.specs.Scopes.{Scope, operand_in, no_values}
use Rattle.vl_mean.specs.Targets.{Spot, spots, written, bit_of}
use Rattle.vl_mean.specs.Execution.{assigned}
use Rattle.vl_mean.specs.Parts.{here}
use Rattle.vl_mean_flat.specs.Found.{Found}
use Rattle.vl_mean_flat.specs.FullNames.{flat_lval}
use Rattle.vl_mean_flat.specs.Flattened.{start_width, start_value}
use Rattle.vl_mean_flat.specs.Names.{TargetNames}
use Rattle.vl_mean_flat.proofs.SameTarget.{same_spots}

-- a bit below the cut
low_part : (x j k : ℕ) → x % 2 ^ (j + k) / 2 ^ k ≡ x / 2 ^ k % 2 ^ j
low_part x j k =
    ap (λ m. m / 2 ^ k) (mod-pow-add x j k) ∙ div-mul-add (x / 2 ^ k % 2 ^ j) (2 ^ k) (x % 2 ^ k) (mod-lt x (pow_pos k))

bit_cut : (x k w : ℕ) → k < w → bit_of (x % 2 ^ w) k ≡ bit_of x k
bit_cut x k w h =
    let e : w ≡ w - 1 - k + 1 + k = omega arith in
    ap (λ n. x % 2 ^ n / 2 ^ k % 2) e ∙ ap (λ m. m % 2) (low_part x (w - 1 - k + 1) k)
    ∙ mod-mod-pow (x / 2 ^ k) (w - 1 - k) 1

-- the bits of a number that is cut behind them
written_cut : (bits : List (Option Spot)) (w x : ℕ) → length bits ≤ w → written bits (x % 2 ^ w) ≡ written bits x
written_cut [] w x h = refl
written_cut (None ∷ bits) w x h = written_cut bits w x (omega arith)
written_cut (Some s ∷ bits) w x h =
    let less : length bits < w = omega arith in
    let few : length bits ≤ w = omega arith in
    λ i. record { spot = s; value = bit_cut x (length bits) w less i } ∷ written_cut bits w x few i

same_width : (w : ℕ) → 1 ≤ w → w ≤ 128 → width_in_range w ≡ w
same_width w h k = omega arith

-- a number of w bits in w bits
extended_same : (w : ℕ) (s : Bool) (x : ℕ) → x < 2 ^ w → extended w w s x ≡ x
extended_same w s x h = by (s && nat_le (2 ^ (w - 1)) x)
  where
    same : x + (2 ^ w - 2 ^ w) ≡ x
    same = omega arith

    by : (b : Bool) → (if b then x + (2 ^ w - 2 ^ w) else x) % 2 ^ w ≡ x
    by true = ap (λ y. y % 2 ^ w) same ∙ mod-eq_of_lt h
    by false = mod-eq_of_lt h

larger : (m n : ℕ) → max m (max m n) ≡ max m n
larger m n = omega arith

pub same_start : (es : List Decl) (ss : List Scope) (l : Lval) (e : Expr) → TargetNames (Found es ss) ss l
    → 1 ≤ start_width ss l e → start_width ss l e ≤ 128
    → assigned (flat_scopes es) (flat_lval ss l) (flat_scopes es)
    (number here (number_of (start_value ss l e))) no_values
    ≡ assigned ss l ss e no_values
same_start es ss l e h some few =
    let bits : List (Option Spot) = spots ss no_values l in
    let x : Operand = operand_in ss no_values e in
    let w : ℕ = start_width ss l e in
    let y : ℕ = x.at w x.sign in
    let r : ℕ = width_in_range w in
    (λ i. written (same_spots es ss no_values l h i)
    (extended r (max (length (same_spots es ss no_values l h i)) r) x.sign (y % 2 ^ r)))
    ∙ (λ i. written bits (extended (same_width w some few i) (max (length bits) (same_width w some few i)) x.sign
    (y % 2 ^ same_width w some few i)))
    ∙ (λ i. written bits (extended w (larger (length bits) x.size i) x.sign (y % 2 ^ w)))
    ∙ ap (written bits) (extended_same w x.sign (y % 2 ^ w) (mod-lt y (pow_pos w)))
    ∙ written_cut bits w y (omega arith)
