-- Bits of a cell, one behind the other.
use Rattle.std.specs.Prelude.{◌≡◌, refl, ℕ, zero, suc, ◌+◌, ◌*◌, ◌≤◌, ◌^◌, List, [], ◌∷◌, ◌++◌, Bool, true, false}
use Rattle.std.specs.Prelude.{if◌then◌else◌, length, slice_index}
use Rattle.std.proofs.Common.{ap, sym, ◌∙◌, arith}
use Rattle.std.proofs.Math.Nat.{add-mul, mul_assoc, pow-suc}
use Rattle.fv_bits.specs.Bits.{joined}
use Rattle.vl_lower_cell_laws.specs.declared.keep.Keep.{Keep}
use Rattle.vl_lower_cell_laws.specs.Keeps.{Kept, bits_number, has_bit, kept_bit, kept_bits}
use Rattle.vl_lower.specs.Held.{bit_number, bit_registers}

-- the highest of the registers stands in front
pub bits_more : (keep : Keep) (k : ℕ) → kept_bits keep (suc k) ≡ bit_registers keep k ++ kept_bits keep k
bits_more keep k = by (has_bit keep.driven k)
  where
    by : (b : Bool)
        → (if b then kept_bits keep k else kept_bit keep k ∷ kept_bits keep k)
        ≡ (if b then [] else kept_bit keep k ∷ []) ++ kept_bits keep k
    by true = refl
    by false = refl

pub few_bits : (keep : Keep) (n : ℕ) → length (kept_bits keep n) ≤ n
few_bits keep zero = omega arith
few_bits keep (suc k) = by (has_bit keep.driven k) (few_bits keep k)
  where
    by : (b : Bool) → length (kept_bits keep k) ≤ k
        → length (if b then kept_bits keep k else kept_bit keep k ∷ kept_bits keep k) ≤ suc k
    by true h = omega (arith, h)
    by false h = omega (arith, h)

-- the number of all bits is made of the highest one's and that of the others
pub number_more : (keep : Keep) (k : ℕ) (numbers : List ℕ) (r : ℕ)
    → bit_number keep k numbers r * 2 ^ k + bits_number keep k numbers (r + length (bit_registers keep k))
    ≡ bits_number keep (suc k) numbers r
number_more keep k numbers r = by (has_bit keep.driven k)
  where
    by : (b : Bool)
        → (if b then 0 else slice_index numbers r) * 2 ^ k
        + bits_number keep k numbers (r + length {A = Kept} (if b then [] else kept_bit keep k ∷ []))
        ≡ (if b then bits_number keep k numbers r
        else slice_index numbers r * 2 ^ k + bits_number keep k numbers (r + 1))
    by true =
        let same : r + 0 ≡ r = omega arith in
        let none : 0 * 2 ^ k + bits_number keep k numbers (r + 0) ≡ bits_number keep k numbers (r + 0) = omega arith in
        none ∙ ap (bits_number keep k numbers) same
    by false = refl

-- one bit more behind a node
shifted : (acc b p rest : ℕ) → (acc * 2 ^ 1 + b) * p + rest ≡ acc * (p * 2) + (b * p + rest)
shifted acc b p rest =
    let twice : acc * 2 ^ 1 * p ≡ acc * (2 * p) = mul_assoc acc (2 ^ 1) p in
    let turned : 2 * p ≡ p * 2 = omega arith in
    omega (arith, add-mul (acc * 2 ^ 1) b p, twice, ap (λ n. acc * n) turned)

pub joined_more : (keep : Keep) (k acc : ℕ) (numbers : List ℕ) (r whole : ℕ)
    → acc * 2 ^ suc k + bits_number keep (suc k) numbers r ≡ whole
    → joined 1 acc (bit_number keep k numbers r) * 2 ^ k
    + bits_number keep k numbers (r + length (bit_registers keep k)) ≡ whole
joined_more keep k acc numbers r whole e =
    shifted acc (bit_number keep k numbers r) (2 ^ k)
    (bits_number keep k numbers (r + length (bit_registers keep k)))
    ∙ (λ i. acc * sym (pow-suc 2 k) i + number_more keep k numbers r i) ∙ e

pub number_none : (keep : Keep) (acc : ℕ) (numbers : List ℕ) (r whole : ℕ)
    → acc * 2 ^ 0 + bits_number keep 0 numbers r ≡ whole → acc ≡ whole
number_none keep acc numbers r whole e =
    let one : acc * 2 ^ 0 + 0 ≡ acc = omega arith in sym one ∙ e
