-- Bits of a number that are gathered into another one.
use Rattle.std.specs.Prelude.{◌≡◌, refl, ℕ, zero, suc, ◌+◌, ◌*◌, ◌/◌, ◌%◌, ◌<◌, ◌^◌, List, [], ◌∷◌, ◌++◌, length}
use Rattle.std.specs.Prelude.{Some, is_none, slice_get}
use Rattle.std.proofs.Common.{ap, sym, ◌∙◌, arith, pow-suc, true≢false, ◌⊎◌, inl, inr}
use Rattle.std.proofs.lemmas.Nat.{mod_below}
use Rattle.std.proofs.lemmas.Nat.Bits.{bit_at-suc, bit_at_lowest, same_from_bits_below}
use Rattle.std.proofs.lemmas.Option.{same_Some}
use Rattle.vl_mean.specs.Targets.{bit_of}
use Rattle.vl_lower_spec.specs.Maps.{gathered}
use Rattle.vl_lower_spec.specs.Sources.{below}

bit_small : (x k : ℕ) → bit_of x k < 2
bit_small x k = mod_below (x / 2 ^ k) 2 (omega arith)

first_bit : (a b g h : ℕ) → a < 2 → b < 2 → a + 2 * g ≡ b + 2 * h → (a ≡ b) × (g ≡ h)
first_bit a b g h p q e = (omega (arith, p, q, e), omega (arith, p, q, e))

pub gathered_same : (x y : ℕ) (bs : List ℕ) → ((j k : ℕ) → slice_get bs j ≡ Some k → bit_of x k ≡ bit_of y k)
    → gathered x bs ≡ gathered y bs
gathered_same x y [] h = refl
gathered_same x y (b ∷ bs) h =
    (λ i. h zero b refl i + 2 * gathered_same x y bs (λ j k e. h (suc j) k e) i)

pub gathered_bit : (x y : ℕ) (bs : List ℕ) → gathered x bs ≡ gathered y bs → (j k : ℕ) → slice_get bs j ≡ Some k
    → bit_of x k ≡ bit_of y k
gathered_bit x y [] h j k e = absurd (true≢false (ap is_none e))
gathered_bit x y (b ∷ bs) h zero k e =
    let first = first_bit (bit_of x b) (bit_of y b) (gathered x bs) (gathered y bs) (bit_small x b) (bit_small y b) h in
    sym (ap (bit_of x) (same_Some b k e)) ∙ first.0 ∙ ap (bit_of y) (same_Some b k e)
gathered_bit x y (b ∷ bs) h (suc j) k e =
    let first = first_bit (bit_of x b) (bit_of y b) (gathered x bs) (gathered y bs) (bit_small x b) (bit_small y b) h in
    gathered_bit x y bs first.1 j k e

pub gathered_small : (x : ℕ) (bs : List ℕ) → gathered x bs < 2 ^ length bs
gathered_small x [] = omega arith
gathered_small x (b ∷ bs) = omega (arith, bit_small x b, gathered_small x bs, pow-suc 2 (length bs))

half : (a g : ℕ) → a < 2 → ((a + 2 * g) / 2 ≡ g) × ((a + 2 * g) % 2 ≡ a)
half a g p = (omega (arith, p), omega (arith, p))

-- a bit of what is gathered
pub gathered_at : (x : ℕ) (bs : List ℕ) (j k : ℕ) → slice_get bs j ≡ Some k → bit_of (gathered x bs) j ≡ bit_of x k
gathered_at x [] j k e = absurd (true≢false (ap is_none e))
gathered_at x (b ∷ bs) zero k e =
    bit_at_lowest (bit_of x b + 2 * gathered x bs) ∙ (half (bit_of x b) (gathered x bs) (bit_small x b)).1
    ∙ ap (bit_of x) (same_Some b k e)
gathered_at x (b ∷ bs) (suc j) k e =
    bit_at-suc (bit_of x b + 2 * gathered x bs) j
    ∙ ap (λ n. bit_of n j) (half (bit_of x b) (gathered x bs) (bit_small x b)).0 ∙ gathered_at x bs j k e

at_place : (bs : List ℕ) (j : ℕ) → j < length bs → (k : ℕ) × (slice_get bs j ≡ Some k)
at_place [] j less = absurd (omega (arith, less))
at_place (b ∷ bs) zero less = (b, refl)
at_place (b ∷ bs) (suc j) less = at_place bs j (omega (arith, less))

-- a number whose bits are those
pub gathered_is : (x n : ℕ) (bs : List ℕ) → n < 2 ^ length bs
    → ((j k : ℕ) → slice_get bs j ≡ Some k → bit_of x k ≡ bit_of n j) → gathered x bs ≡ n
gathered_is x n bs small h =
    same_from_bits_below (length bs) (gathered x bs) n (gathered_small x bs) small (λ j less.
    let at = at_place bs j less in gathered_at x bs j at.0 at.1 ∙ h j at.0 at.1)

-- ---- all bits

pub below_many : (n : ℕ) → length (below n) ≡ n
below_many zero = refl
below_many (suc n) = omega (arith, below_many n, more (below n) n)
  where
    more : (xs : List ℕ) (x : ℕ) → length (xs ++ x ∷ []) ≡ length xs + 1
    more [] x = refl
    more (y ∷ ys) x = omega (arith, more ys x)

in_front : (xs : List ℕ) (x j k : ℕ) → slice_get (xs ++ x ∷ []) j ≡ Some k
    → (slice_get xs j ≡ Some k) ⊎ ((j ≡ length xs) × (x ≡ k))
in_front [] x zero k e = inr (refl, same_Some x k e)
in_front [] x (suc j) k e = absurd (true≢false (ap is_none e))
in_front (y ∷ ys) x zero k e = inl e
in_front (y ∷ ys) x (suc j) k e = by (in_front ys x j k e)
  where
    by : (slice_get ys j ≡ Some k) ⊎ ((j ≡ length ys) × (x ≡ k))
        → (slice_get (y ∷ ys) (suc j) ≡ Some k) ⊎ ((suc j ≡ length (y ∷ ys)) × (x ≡ k))
    by (inl f) = inl f
    by (inr f) = inr (ap suc f.0, f.1)

pub below_at : (n j k : ℕ) → slice_get (below n) j ≡ Some k → (j ≡ k) × (k < n)
below_at zero j k e = absurd (true≢false (ap is_none e))
below_at (suc n) j k e = by (in_front (below n) n j k e) (below_at n j k)
  where
    by : (slice_get (below n) j ≡ Some k) ⊎ ((j ≡ length (below n)) × (n ≡ k))
        → (slice_get (below n) j ≡ Some k → (j ≡ k) × (k < n)) → (j ≡ k) × (k < suc n)
    by (inl f) h = let r = h f in (r.0, omega (arith, r.1))
    by (inr f) h = (omega (arith, f.0, f.1, below_many n), omega (arith, f.1))

pub gathered_whole : (x n : ℕ) → x < 2 ^ n → gathered x (below n) ≡ x
gathered_whole x n small =
    gathered_is x x (below n) (omega (arith, small, ap (λ m. 2 ^ m) (below_many n)))
    (λ j k e. ap (bit_of x) (sym (below_at n j k e).0))
