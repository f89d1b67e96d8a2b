-- The widths of the vectors among names, summed up over the names that are marked.
use Rattle.std.specs.Prelude.{◌≡◌, refl, IfSome, ℕ, zero, suc, ◌+◌, ◌-◌, ◌≤◌, ◌<◌, List, [], ◌∷◌, length, drop}
use Rattle.std.specs.Prelude.{Bool, true, false, ◌&&◌, Option, Some, None, is_none, slice_get, if◌then◌else◌}
use Rattle.std.specs.Option.{option_map}
use Rattle.std.proofs.Common.{ap, sym, ◌∙◌, arith, subst, true≢false}
use Rattle.std.proofs.lemmas.Option.{same_Some}
use Rattle.vl_size.specs.declared.decl.Decl.{Decl}
use Rattle.vl_mean.specs.Cells.{contains_name}
use Rattle.vl_mean.specs.ConstantFaults.{capped}
use Rattle.vl_flow_spec.specs.Weight.{widths_of}
use Rattle.fv_bit_sets.specs.declared.step.Step.{Step}
use Rattle.fv_bit_sets.specs.Cells.{has, IsBare, IsBefore}
use Rattle.vl_flow_cells.proofs.Lists.{get_less}
use Rattle.vl_flow_order.specs.Names.{AreNames}
use Rattle.vl_flow_weight.proofs.Adding.{Sums, sum_begun, sum_done, sum_one}

-- the width, where it is that of a vector
abbrev pub vector_width : Decl → ℕ
vector_width d = if is_none d.words then d.width else 0

-- past the last one
behind : {A : Type 0} (xs : List A) (j : ℕ) → slice_get xs j ≡ None → length xs ≤ j
behind [] j h = omega arith
behind (x ∷ xs) zero h = absurd (true≢false (sym (ap is_none h)))
behind (x ∷ xs) (suc j) h = let less = behind xs j h in omega (arith, less)

-- of those from the next mark on
abbrev pub from_next : List (List ℕ) → List Decl → Option ℕ → ℕ
from_next names ds None = 0
from_next names ds (Some place) = widths_of (drop place ds) names

module _ (names : List (List ℕ)) where
  abbrev share : Decl → ℕ
  share d = if is_none d.words && contains_name names d.name then d.width else 0

  widths_at : (ds : List Decl) (p : ℕ) (d : Decl) → slice_get ds p ≡ Some d
      → widths_of (drop p ds) names ≡ share d + widths_of (drop (suc p) ds) names
  widths_at [] p d e = absurd (true≢false (ap is_none e))
  widths_at (x ∷ ds) zero d e = ap (λ y. share y + widths_of ds names) (same_Some x d e)
  widths_at (x ∷ ds) (suc p) d e = widths_at ds p d e

  widths_past : (ds : List Decl) (p : ℕ) → length ds ≤ p → widths_of (drop p ds) names ≡ 0
  widths_past [] zero h = refl
  widths_past [] (suc p) h = refl
  widths_past (x ∷ ds) zero h = absurd (omega (arith, h))
  widths_past (x ∷ ds) (suc p) h = widths_past ds p (omega (arith, h))

  unshared : (d : Decl) → contains_name names d.name ≡ false → share d ≡ 0
  unshared d h = ap (λ b. if is_none d.words && b then d.width else 0) h ∙ none (is_none d.words)
    where
      none : (b : Bool) → (if b && false then d.width else 0) ≡ 0
      none true = refl
      none false = refl

  pub shared : (d : Decl) → contains_name names d.name ≡ true → share d ≡ vector_width d
  shared d h = ap (λ b. if is_none d.words && b then d.width else 0) h ∙ whole (is_none d.words)
    where
      whole : (b : Bool) → (if b && true then d.width else 0) ≡ (if b then d.width else 0)
      whole true = refl
      whole false = refl

  module _ (ds : List Decl) (marked : List Step) (are : AreNames ds names (has marked)) where
    -- names without marks add nothing
    skipped : (k p : ℕ) → ((c : ℕ) → p ≤ c → c < p + k → IsBare marked c)
        → widths_of (drop p ds) names ≡ widths_of (drop (p + k) ds) names
    skipped zero p bare = let same : p ≡ p + 0 = omega arith in ap (λ q. widths_of (drop q ds) names) same
    skipped (suc k) p bare =
        by (slice_get ds p) refl
        (skipped k (suc p) (λ c from before. bare c (omega (arith, from)) (omega (arith, before))))
      where
        next : suc p + k ≡ p + suc k
        next = omega arith

        by : (o : Option Decl) → slice_get ds p ≡ o
            → widths_of (drop (suc p) ds) names ≡ widths_of (drop (suc p + k) ds) names
            → widths_of (drop p ds) names ≡ widths_of (drop (p + suc k) ds) names
        by None e later =
            let past = behind ds p e in
            widths_past ds p past ∙ sym (widths_past ds (p + suc k) (omega (arith, past)))
        by (Some d) e later =
            let lacks : contains_name names d.name ≡ false =
            sym (are.is p d e) ∙ bare p (omega arith) (omega arith) 0 in
            let zero_left : 0 + widths_of (drop (suc p) ds) names ≡ widths_of (drop (suc p) ds) names = omega arith in
            widths_at ds p d e ∙ ap (λ n. n + widths_of (drop (suc p) ds) names) (unshared d lacks) ∙ zero_left
            ∙ later ∙ ap (λ q. widths_of (drop q ds) names) next

    pub to_next : (p : ℕ) (next : Option ℕ)
        → IfSome next (λ cell. (p ≤ cell) × ((bit : ℕ) × (has marked cell bit ≡ true)))
        → ((c : ℕ) → p ≤ c → IsBefore c next → IsBare marked c)
        → widths_of (drop p ds) names ≡ from_next names ds next
    to_next p None found bare =
        skipped (length ds) p (λ c from before. bare c from tt) ∙ widths_past ds (p + length ds) (omega arith)
    to_next p (Some q) found bare =
        let end : p + (q - p) ≡ q = omega (arith, found.0) in
        skipped (q - p) p (λ c from before. bare c from (omega (arith, found.0, before)))
        ∙ ap (λ k. widths_of (drop k ds) names) end

    -- ---- the walk

    pub merge_begun : (next : Option ℕ)
        → IfSome next (λ cell. (0 ≤ cell) × ((bit : ℕ) × (has marked cell bit ≡ true)))
        → ((c : ℕ) → 0 ≤ c → IsBefore c next → IsBare marked c)
        → Sums 0 (from_next names ds next) (widths_of ds names)
    merge_begun next found bare =
        subst (λ n. Sums 0 n (widths_of ds names)) (to_next 0 next found bare) (sum_begun (widths_of ds names))

    lowest : (place bit : ℕ) → has marked place bit ≡ true → has marked place 0 ≡ true
    lowest place zero h = h
    lowest place (suc bit) h = absurd (true≢false (sym h ∙ are.alone place (suc bit) (omega arith)))

    pub merge_more : (weight place bit width made : ℕ) (next : Option ℕ) → has marked place bit ≡ true
        → Some width ≡ option_map vector_width (slice_get ds place) → made ≡ capped (weight + width)
        → IfSome next (λ cell. (place + 1 ≤ cell) × ((bit : ℕ) × (has marked cell bit ≡ true)))
        → ((c : ℕ) → place + 1 ≤ c → IsBefore c next → IsBare marked c)
        → Sums weight (from_next names ds (Some place)) (widths_of ds names)
        → Sums made (from_next names ds next) (widths_of ds names)
    merge_more weight place bit width made next h is e found bare sums = by (slice_get ds place) refl is
      where
        one_more : place + 1 ≡ suc place
        one_more = omega arith

        by : (o : Option Decl) → slice_get ds place ≡ o → Some width ≡ option_map vector_width o
            → Sums made (from_next names ds next) (widths_of ds names)
        by None at w = absurd (true≢false (sym (ap is_none w)))
        by (Some d) at w =
            let contained : contains_name names d.name ≡ true = sym (are.is place d at) ∙ lowest place bit h in
            let wide : width ≡ share d = same_Some width (vector_width d) w ∙ sym (shared d contained) in
            let rest : widths_of (drop (suc place) ds) names ≡ from_next names ds next =
            ap (λ k. widths_of (drop k ds) names) (sym one_more) ∙ to_next (place + 1) next found bare in
            subst (λ n. Sums made n (widths_of ds names)) rest
            (sum_one weight (share d) width made (widths_of (drop (suc place) ds) names) (widths_of ds names)
            (ap capped wide) e (subst (λ n. Sums weight n (widths_of ds names)) (widths_at ds place d at) sums))

    pub merge_past : (weight place : ℕ) → None ≡ option_map vector_width (slice_get ds place)
        → Sums weight (from_next names ds (Some place)) (widths_of ds names) → weight ≡ capped (widths_of ds names)
    merge_past weight place is sums = by (slice_get ds place) refl is
      where
        by : (o : Option Decl) → slice_get ds place ≡ o → None ≡ option_map vector_width o
            → weight ≡ capped (widths_of ds names)
        by None at w =
            sum_done weight (widths_of ds names)
            (subst (λ n. Sums weight n (widths_of ds names)) (widths_past ds place (behind ds place at)) sums)
        by (Some d) at w = absurd (true≢false (ap is_none w))

pub place_less : (ds : List Decl) (place width : ℕ) → Some width ≡ option_map vector_width (slice_get ds place)
    → place < length ds
place_less ds place width is = by (slice_get ds place) refl is
  where
    by : (o : Option Decl) → slice_get ds place ≡ o → Some width ≡ option_map vector_width o → place < length ds
    by None at w = absurd (true≢false (sym (ap is_none w)))
    by (Some d) at w = get_less ds place d at
