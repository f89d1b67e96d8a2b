-- That all targets are nodes of the graph, row by row.
use Rattle.std.specs.Prelude.{◌≡◌, ℕ, ◌+◌, ◌<◌, ◌≤◌, List, length, All, Some, is_none, slice_get}
use Rattle.std.proofs.Common.{ap, sym, ◌∙◌, true≢false, ◌⊎◌, inl, inr, subst, get_or, arith}
use Rattle.std.proofs.lemmas.Bool.{cases_lt}
use Rattle.std.proofs.lemmas.Option.{same_Some, slice_get_past, slice_get-get_or}
use Rattle.fv_graph.specs.Graph.{or_empty, targets, IsWithin}
use Rattle.fv_graph.proofs.Lists.{get_less}
use Rattle.fv_graph.proofs.Moves.{same_or_not}
use Rattle.fv_graph.proofs.Rows.{row_at}

all_at : (n : ℕ) (xs : List ℕ) (k j : ℕ) → All (λ x. x < n) xs → slice_get xs k ≡ Some j → j < n
all_at n xs k j h e =
    let less = get_less xs k j e in
    subst (λ y. y < n) (same_Some (get_or xs k 0) j (sym (slice_get-get_or xs k 0 less) ∙ e)) (h k 0 less)

all_from : (n : ℕ) (xs : List ℕ) → ((k j : ℕ) → slice_get xs k ≡ Some j → j < n) → All (λ x. x < n) xs
all_from n xs f k d less = f k (get_or xs k d) (slice_get-get_or xs k d less)

-- the first rows
abbrev pub AreWithin : List (List ℕ) → ℕ → Type 0
AreWithin g n = (i : ℕ) → i < n → All (λ j. j < length g) (targets g i)

pub more_within : (g : List (List ℕ)) (n : ℕ) (row found : List ℕ) → n < length g → row ≡ get_or g n row
    → found ≡ row → All (λ j. j < length g) found → AreWithin g n → AreWithin g (n + 1)
more_within g n row found less e f h before i below = by (same_or_not i n)
  where
    by : (i ≡ n) ⊎ (i ≡ n → ⊥) → All (λ j. j < length g) (targets g i)
    by (inl same) =
        subst (All (λ j. j < length g)) (sym (ap (targets g) same ∙ row_at g n row less e ∙ sym f)) h
    by (inr other) = before i (omega (arith, below, other))

pub all_within : (g : List (List ℕ)) (n : ℕ) → length g ≤ n → AreWithin g n → IsWithin g
all_within g n past h i j lead = by (cases_lt i (length g))
  where
    by : (i < length g) ⊎ (length g ≤ i) → j < length g
    by (inl less) = all_at (length g) (targets g i) lead.0 j (h i (omega (arith, less, past))) lead.1
    by (inr over) =
        absurd (true≢false (ap is_none (sym (ap (λ o. slice_get (or_empty o) lead.0) (slice_get_past g i over))
        ∙ lead.1)))

pub row_within : (g : List (List ℕ)) (n : ℕ) (row found : List ℕ) → n < length g → row ≡ get_or g n row
    → found ≡ row → IsWithin g → All (λ j. j < length g) found
row_within g n row found less e f w =
    all_from (length g) found (λ k j at.
    w n j (k, ap (λ r. slice_get r k) (row_at g n row less e ∙ sym f) ∙ at))
