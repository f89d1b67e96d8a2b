-- Rows of tables, bit by bit.
use Rattle.std.specs.Prelude.{◌≡◌, refl, ℕ, zero, suc, ◌+◌, ◌-◌, ◌==◌, ◌<◌, ◌^◌, Bool, true, false, not, ◌&&◌}
use Rattle.std.specs.Prelude.{◌||◌, min, max, bit_and, bit_or, List, [], drop, length, slice_index_or}
use Rattle.std.specs.Int.{bit_at}
use Rattle.std.proofs.Common.{ap, sym, ◌∙◌, arith}
use Rattle.std.proofs.lemmas.List.{drop_more}
use Rattle.std.proofs.lemmas.Nat.Bits.{bit_at_and, bit_at_or, bit_at-lt, bit_at-zero, bit_at_ones}
use Rattle.fv_bits.specs.Bits.{bit}
use Rattle.fv_bits.proofs.SingleBits.{bit_at_complement}
use Rattle.bb_cuts.specs.declared.leaves.Leaves.{Leaves}
use Rattle.bb_cuts.specs.declared.cube.Cube.{Cube}
use Rattle.bb_cuts.specs.Rows.{row, row_of, has_row, sign_holds, cube_holds, cover_holds}

least : (a b : ℕ) → a < 2 → b < 2 → (min a b == 1) ≡ ((a == 1) && (b == 1))
least zero zero h k = refl
least zero (suc zero) h k = refl
least (suc zero) zero h k = refl
least (suc zero) (suc zero) h k = refl
least (suc (suc a)) b h k = absurd (omega arith)
least zero (suc (suc b)) h k = absurd (omega arith)
least (suc zero) (suc (suc b)) h k = absurd (omega arith)

most : (a b : ℕ) → a < 2 → b < 2 → (max a b == 1) ≡ ((a == 1) || (b == 1))
most zero zero h k = refl
most zero (suc zero) h k = refl
most (suc zero) zero h k = refl
most (suc zero) (suc zero) h k = refl
most (suc (suc a)) b h k = absurd (omega arith)
most zero (suc (suc b)) h k = absurd (omega arith)
most (suc zero) (suc (suc b)) h k = absurd (omega arith)

less : (a : ℕ) → a < 2 → (1 - a == 1) ≡ not (a == 1)
less zero h = refl
less (suc zero) h = refl
less (suc (suc a)) h = absurd (omega arith)

pub both : (a b r : ℕ) → has_row (bit_and a b) r ≡ (has_row a r && has_row b r)
both a b r = ap (λ m. m == 1) (bit_at_and a b r) ∙ least (bit_at a r) (bit_at b r) (bit_at-lt a r) (bit_at-lt b r)

pub either : (a b r : ℕ) → has_row (bit_or a b) r ≡ (has_row a r || has_row b r)
either a b r = ap (λ m. m == 1) (bit_at_or a b r) ∙ most (bit_at a r) (bit_at b r) (bit_at-lt a r) (bit_at-lt b r)

pub other : (a r : ℕ) → a < 2 ^ 16 → r < 16 → has_row (65535 - a) r ≡ not (has_row a r)
other a r fits below =
    ap (λ m. m == 1) (bit_at_complement 16 a r fits below) ∙ less (bit_at a r) (bit_at-lt a r)

pub full : (r : ℕ) → r < 16 → has_row 65535 r ≡ true
full r below = ap (λ m. m == 1) (bit_at_ones 16 r below)

pub none : (r : ℕ) → has_row 0 r ≡ false
none r = ap (λ m. m == 1) (bit_at-zero r)

bit_small : (b : Bool) → bit b < 2
bit_small true = omega arith
bit_small false = omega arith

pub row_small : (value : ℕ → Bool) (leaves : Leaves) → row_of value leaves < 16
row_small value leaves =
    omega (
      arith,
      bit_small (value leaves.first),
      bit_small (value leaves.second),
      bit_small (value leaves.third),
      bit_small (value leaves.fourth),
    )

-- the rows in which each leaf is true
pub record Leads (a b c d : Bool) : Type 0 where
  pub first : has_row 43690 (row a b c d) ≡ a
  pub second : has_row 52428 (row a b c d) ≡ b
  pub third : has_row 61680 (row a b c d) ≡ c
  pub fourth : has_row 65280 (row a b c d) ≡ d

pub leads : (a b c d : Bool) → Leads a b c d
leads true true true true = record { first = refl; second = refl; third = refl; fourth = refl }
leads true true true false = record { first = refl; second = refl; third = refl; fourth = refl }
leads true true false true = record { first = refl; second = refl; third = refl; fourth = refl }
leads true true false false = record { first = refl; second = refl; third = refl; fourth = refl }
leads true false true true = record { first = refl; second = refl; third = refl; fourth = refl }
leads true false true false = record { first = refl; second = refl; third = refl; fourth = refl }
leads true false false true = record { first = refl; second = refl; third = refl; fourth = refl }
leads true false false false = record { first = refl; second = refl; third = refl; fourth = refl }
leads false true true true = record { first = refl; second = refl; third = refl; fourth = refl }
leads false true true false = record { first = refl; second = refl; third = refl; fourth = refl }
leads false true false true = record { first = refl; second = refl; third = refl; fourth = refl }
leads false true false false = record { first = refl; second = refl; third = refl; fourth = refl }
leads false false true true = record { first = refl; second = refl; third = refl; fourth = refl }
leads false false true false = record { first = refl; second = refl; third = refl; fourth = refl }
leads false false false true = record { first = refl; second = refl; third = refl; fourth = refl }
leads false false false false = record { first = refl; second = refl; third = refl; fourth = refl }

pub cube_law : (value : ℕ → Bool) (leaves : Leaves) (cube : Cube) (f s t u low high rows : ℕ)
    → ((r : ℕ) → r < 16 → has_row f r ≡ sign_holds cube.first (has_row 43690 r))
    → ((r : ℕ) → r < 16 → has_row s r ≡ sign_holds cube.second (has_row 52428 r))
    → ((r : ℕ) → r < 16 → has_row t r ≡ sign_holds cube.third (has_row 61680 r))
    → ((r : ℕ) → r < 16 → has_row u r ≡ sign_holds cube.fourth (has_row 65280 r))
    → ((r : ℕ) → has_row low r ≡ (has_row f r && has_row s r))
    → ((r : ℕ) → has_row high r ≡ (has_row t r && has_row u r))
    → ((r : ℕ) → has_row rows r ≡ (has_row low r && has_row high r))
    → has_row rows (row_of value leaves) ≡ cube_holds value leaves cube
cube_law value leaves cube f s t u low high rows hf hs ht hu hl hh h =
    let r = row_of value leaves in
    let within = row_small value leaves in
    let p = leads (value leaves.first) (value leaves.second) (value leaves.third) (value leaves.fourth) in
    let A = sign_holds cube.first (value leaves.first) in
    let B = sign_holds cube.second (value leaves.second) in
    let C = sign_holds cube.third (value leaves.third) in
    h r ∙ ap (λ b. b && has_row high r) (hl r) ∙ ap (λ b. (has_row f r && has_row s r) && b) (hh r)
    ∙ ap (λ b. (b && has_row s r) && (has_row t r && has_row u r))
    (hf r within ∙ ap (sign_holds cube.first) p.first)
    ∙ ap (λ b. (A && b) && (has_row t r && has_row u r)) (hs r within ∙ ap (sign_holds cube.second) p.second)
    ∙ ap (λ b. (A && B) && (b && has_row u r)) (ht r within ∙ ap (sign_holds cube.third) p.third)
    ∙ ap (λ b. (A && B) && (C && b)) (hu r within ∙ ap (sign_holds cube.fourth) p.fourth)

-- ---- the loop over cubes

pub cover_begun : (value : ℕ → Bool) (leaves : Leaves) (cubes : List Cube)
    → (has_row 0 (row_of value leaves) || cover_holds value leaves cubes) ≡ cover_holds value leaves cubes
cover_begun value leaves cubes = ap (λ b. b || cover_holds value leaves cubes) (none (row_of value leaves))

or_three : (a b c : Bool) → ((a || b) || c) ≡ (a || (b || c))
or_three true b c = refl
or_three false b c = refl

pub cover_next : (value : ℕ → Bool) (leaves : Leaves) (cubes : List Cube) (i : ℕ) (d : Cube) (rows own next : ℕ)
    → i < length cubes → has_row own (row_of value leaves) ≡ cube_holds value leaves (slice_index_or cubes i d)
    → ((r : ℕ) → has_row next r ≡ (has_row rows r || has_row own r))
    → (has_row rows (row_of value leaves) || cover_holds value leaves (drop i cubes)) ≡ cover_holds value leaves cubes
    → (has_row next (row_of value leaves) || cover_holds value leaves (drop (i + 1) cubes))
    ≡ cover_holds value leaves cubes
cover_next value leaves cubes i d rows own next below is e left =
    let r = row_of value leaves in
    let rest = cover_holds value leaves (drop (i + 1) cubes) in
    ap (λ b. b || rest) (e r) ∙ ap (λ b. (has_row rows r || b) || rest) is
    ∙ or_three (has_row rows r) (cube_holds value leaves (slice_index_or cubes i d)) rest
    ∙ ap (λ cs. has_row rows r || cover_holds value leaves cs) (sym (drop_more cubes i d below)) ∙ left

or_none : (a : Bool) → a ≡ (a || false)
or_none true = refl
or_none false = refl

pub cover_done : (value : ℕ → Bool) (leaves : Leaves) (cubes : List Cube) (i rows : ℕ) → drop i cubes ≡ []
    → (has_row rows (row_of value leaves) || cover_holds value leaves (drop i cubes)) ≡ cover_holds value leaves cubes
    → has_row rows (row_of value leaves) ≡ cover_holds value leaves cubes
cover_done value leaves cubes i rows none left =
    or_none (has_row rows (row_of value leaves))
    ∙ ap (λ cs. has_row rows (row_of value leaves) || cover_holds value leaves cs) (sym none) ∙ left
