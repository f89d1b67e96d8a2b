-- Masks of cells, and sets of bits, one more after the other.
use Rattle.std.specs.Prelude.{◌≡◌, refl, ℕ, zero, suc, ◌+◌, ◌<◌, List, [], ◌∷◌, ◌++◌, length, drop, false, ◌||◌}
use Rattle.std.specs.Prelude.{slice_get, slice_index}
use Rattle.std.proofs.Common.{ap, sym, ◌∙◌, arith, ◌⊎◌, inl, inr}
use Rattle.std.proofs.lemmas.Bool.{cases_order}
use Rattle.std.proofs.lemmas.List.{get_or_append_left}
use Rattle.std.proofs.Math.Seq.{get_or-append_seam}
use Rattle.fv_bit_sets.specs.declared.step.Step.{Step}
use Rattle.fv_bit_sets.specs.Cells.{has, is_set}
use Rattle.vl_size.specs.declared.decl.Decl.{Decl}
use Rattle.vl_flow_spec.specs.Reads.{Bits}
use Rattle.vl_flow_cells.specs.Numbered.{Shows, all_cells}
use Rattle.vl_flow_cells.proofs.Lists.{get_less}
use Rattle.vl_flow_cells.proofs.Numbers.{length_more}
use Rattle.vl_flow_order.specs.Sets.{some_has}
use Rattle.vl_flow_order.proofs.Halves.{some_append}
use Rattle.vl_flow_order.proofs.Tests.{or_none}
use Rattle.vl_flow_effects.specs.Masks.{AreMasks}

-- of the first cells, the bits that a set has
pub record AreMasksBelow (bits : List Step) (masks : List ℕ) (n : ℕ) : Type 0 where
  pub each : length masks ≡ n
  pub same : (c k : ℕ) → c < n → is_set (slice_index masks c) k ≡ has bits c k

pub no_masks : (bits : List Step) (masks : List ℕ) → masks ≡ [] → AreMasksBelow bits masks 0
no_masks bits masks e = record { each = ap length e; same = λ c k less. absurd (omega (arith, less)) }

pub mask_more : (bits : List Step) (masks made : List ℕ) (n mask : ℕ) → AreMasksBelow bits masks n
    → made ≡ masks ++ mask ∷ [] → ((k : ℕ) → is_set mask k ≡ has bits n k) → AreMasksBelow bits made (n + 1)
mask_more bits masks made n mask were e is = record {
  each = ap length e ∙ length_more masks mask ∙ ap (λ m. m + 1) were.each;
  same = λ c k less. ap (λ xs. is_set (slice_index xs c) k) e ∙ by c k less (cases_order c n);
}
  where
    by : (c k : ℕ) → c < n + 1 → (c ≡ n) ⊎ ((c < n) ⊎ (n < c))
        → is_set (slice_index (masks ++ mask ∷ []) c) k ≡ has bits c k
    by c k less (inl same) =
        let last : c ≡ length masks = same ∙ sym were.each in
        ap (λ m. is_set (slice_index (masks ++ mask ∷ []) m) k) last
        ∙ ap (λ m. is_set m k) (get_or-append_seam masks mask [] 0) ∙ is k ∙ ap (λ m. has bits m k) (sym same)
    by c k less (inr (inl before)) =
        let within : c < length masks = omega (arith, before, were.each) in
        ap (λ m. is_set m k) (get_or_append_left masks (mask ∷ []) 0 c within) ∙ were.same c k before
    by c k less (inr (inr past)) = absurd (omega (arith, less, past))

pub all_masks : (ds : List Decl) (bits : List Step) (masks : List ℕ) (n : ℕ) (K : Bits) → AreMasksBelow bits masks n
    → n ≡ length (all_cells ds) → Shows ds (has bits) K → AreMasks ds masks K
all_masks ds bits masks n K all count shows = (
  all.each ∙ count,
  λ c m k at.
      let less : c < n = omega (arith, get_less (all_cells ds) c m at, count) in all.same c k less ∙ shows c m k at,
)

-- ---- sets

pub no_sets : (ds : List Decl) (sets : List (List Step)) (K : Bits) → sets ≡ [] → ((n : List ℕ) (k : ℕ) → K n k ≡ false)
    → Shows ds (some_has sets) K
no_sets ds sets K e none c n k at = ap (λ xs. some_has xs c k) e ∙ sym (none n k)

-- one more stands behind the others
pub set_more : (ds : List Decl) (sets made : List (List Step)) (set : List Step) (before one after : Bits)
    → Shows ds (some_has sets) before → made ≡ sets ++ set ∷ [] → Shows ds (has set) one
    → ((n : List ℕ) (k : ℕ) → after n k ≡ (before n k || one n k)) → Shows ds (some_has made) after
set_more ds sets made set before one after were e is both c n k at =
    ap (λ xs. some_has xs c k) e ∙ some_append sets (set ∷ []) c k
    ∙ (λ i. were c n k at i || or_none (has set c k) i) ∙ ap (λ b. before n k || b) (is c n k at) ∙ sym (both n k)

-- ---- the element at a place

pub get_drop : {A : Type 0} (xs : List A) (i : ℕ) → slice_get xs i ≡ slice_get (drop i xs) 0
get_drop [] zero = refl
get_drop [] (suc i) = refl
get_drop (x ∷ xs) zero = refl
get_drop (x ∷ xs) (suc i) = get_drop xs i
