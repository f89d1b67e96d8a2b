-- Graphs to which edges are added.
use Rattle.std.specs.Prelude.{◌≡◌, refl, ℕ, ◌<◌, List, [], ◌∷◌, ◌++◌, length, Some, slice_get}
use Rattle.std.specs.Prelude.{slice_set}
use Rattle.std.proofs.Common.{ap, sym, ◌∙◌, subst, ◌⊎◌, inl, inr}
use Rattle.fv_graph.specs.Graph.{or_empty, targets, Leads}
use Rattle.fv_graph.proofs.Lists.{get_set, get_unset, length_set, get_front, get_last, get_cases}
use Rattle.fv_graph.proofs.Moves.{same_or_not}
use Rattle.vl_flow_order.specs.Edges.{AddsEdge, Grows}

pub adds_edge : (g new : List (List ℕ)) (i j : ℕ) → i < length g
    → new ≡ slice_set g i (targets g i ++ j ∷ []) → AddsEdge g i j new
adds_edge g new i j less e = record {
  size = ap length e ∙ length_set g i row;
  kept = λ a b lead. kept a b lead (same_or_not a i);
  added = (length (targets g i), ap (λ r. slice_get r (length (targets g i))) here ∙ get_last (targets g i) j);
  only = λ a b lead. only a b lead (same_or_not a i);
}
  where
    row : List ℕ
    row = targets g i ++ j ∷ []

    here : targets new i ≡ targets g i ++ j ∷ []
    here = ap (λ h. targets h i) e ∙ ap or_empty (get_set g i (targets g i ++ j ∷ []) less)

    there : (a : ℕ) → (a ≡ i → ⊥) → targets new a ≡ targets g a
    there a other = ap (λ h. targets h a) e ∙ ap or_empty (get_unset g i a (targets g i ++ j ∷ []) other)

    kept : (a b : ℕ) → Leads g a b → (a ≡ i) ⊎ (a ≡ i → ⊥) → Leads new a b
    kept a b lead (inl same) = (
      lead.0,
      ap (λ x. slice_get (targets new x) lead.0) same ∙ ap (λ r. slice_get r lead.0) here
          ∙ get_front (targets g i) j lead.0 b (ap (λ x. slice_get (targets g x) lead.0) (sym same) ∙ lead.1),
    )
    kept a b lead (inr other) = (lead.0, ap (λ r. slice_get r lead.0) (there a other) ∙ lead.1)

    only : (a b : ℕ) → Leads new a b → (a ≡ i) ⊎ (a ≡ i → ⊥) → Leads g a b ⊎ ((a ≡ i) × (b ≡ j))
    only a b lead (inl same) =
        by (get_cases (targets g i) j lead.0 b
        (sym (ap (λ r. slice_get r lead.0) here) ∙ ap (λ x. slice_get (targets new x) lead.0) (sym same) ∙ lead.1))
      where
        by : (slice_get (targets g i) lead.0 ≡ Some b) ⊎ ((lead.0 ≡ length (targets g i)) × (j ≡ b))
            → Leads g a b ⊎ ((a ≡ i) × (b ≡ j))
        by (inl h) = inl (lead.0, ap (λ x. slice_get (targets g x) lead.0) same ∙ h)
        by (inr h) = inr (same, sym h.1)
    only a b lead (inr other) =
        inl (lead.0, sym (ap (λ r. slice_get r lead.0) (there a other)) ∙ lead.1)

module _ (P : ℕ → ℕ → Type 0) where
  pub grows_none : (g : List (List ℕ)) → Grows P g g
  grows_none g = record { size = refl; kept = λ a b lead. lead; only = λ a b lead. inl lead }

  pub grows_edge : (g h : List (List ℕ)) (i j : ℕ) → AddsEdge g i j h → P i j → Grows P g h
  grows_edge g h i j e p = record { size = e.size; kept = e.kept; only = λ a b lead. by a b (e.only a b lead) }
    where
      by : (a b : ℕ) → Leads g a b ⊎ ((a ≡ i) × (b ≡ j)) → Leads g a b ⊎ P a b
      by a b (inl lead) = inl lead
      by a b (inr q) = inr (subst (λ x. P x b) (sym q.0) (subst (P i) (sym q.1) p))

  pub grows_then : (f g h : List (List ℕ)) → Grows P f g → Grows P g h → Grows P f h
  grows_then f g h x y = record {
    size = y.size ∙ x.size;
    kept = λ a b lead. y.kept a b (x.kept a b lead);
    only = λ a b lead. by a b (y.only a b lead);
  }
    where
      by : (a b : ℕ) → Leads g a b ⊎ P a b → Leads f a b ⊎ P a b
      by a b (inl lead) = x.only a b lead
      by a b (inr p) = inr p

pub grows_as : (P Q : ℕ → ℕ → Type 0) (g h : List (List ℕ)) → ((a b : ℕ) → P a b → Q a b) → Grows P g h → Grows Q g h
grows_as P Q g h f x = record { size = x.size; kept = x.kept; only = λ a b lead. by a b (x.only a b lead) }
  where
    by : (a b : ℕ) → Leads g a b ⊎ P a b → Leads g a b ⊎ Q a b
    by a b (inl lead) = inl lead
    by a b (inr p) = inr (f a b p)
