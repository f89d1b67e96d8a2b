-- What is kept of one cell more.
use Rattle.std.specs.Prelude.{◌≡◌, ℕ, ◌+◌, ◌<◌, List, [], ◌∷◌, ◌++◌, length, slice_index}
use Rattle.std.proofs.Common.{ap, sym, ◌∙◌, arith, ◌⊎◌, inl, inr}
use Rattle.std.proofs.lemmas.Bool.{cases_order}
use Rattle.std.proofs.lemmas.List.{get_or_append_left}
use Rattle.std.proofs.Math.Seq.{get_or-append_seam}
use Rattle.vl_flow_cells.proofs.Numbers.{length_more}
use Rattle.vl_lower_cell_laws.specs.declared.keep.Keep.{Keep}
use Rattle.vl_lower.specs.Design.{keeping}
use Rattle.vl_lower.specs.Keeping.{AreJoined}

module _ (driven known values : List ℕ) where
  abbrev pub kept_in : ℕ → Keep
  kept_in c = record { driven = slice_index driven c; known = slice_index known c; value = slice_index values c }

  -- of the first cells
  pub record AreJoinedBelow (keeps : List Keep) (n : ℕ) : Type 0 where
    pub each : length keeps ≡ n
    pub same : (c : ℕ) → c < n → keeping keeps c ≡ kept_in c

  pub none_joined : (keeps : List Keep) → keeps ≡ [] → AreJoinedBelow keeps 0
  none_joined keeps e = record { each = ap length e; same = λ c less. absurd (omega (arith, less)) }

  pub one_joined_more : (keeps made : List Keep) (n : ℕ) (k : Keep) → AreJoinedBelow keeps n → made ≡ keeps ++ k ∷ []
      → k ≡ kept_in n → AreJoinedBelow made (n + 1)
  one_joined_more keeps made n k were e is = record {
    each = ap length e ∙ length_more keeps k ∙ ap (λ m. m + 1) were.each;
    same = λ c less. ap (λ xs. keeping xs c) e ∙ by c less (cases_order c n);
  }
    where
      by : (c : ℕ) → c < n + 1 → (c ≡ n) ⊎ ((c < n) ⊎ (n < c)) → keeping (keeps ++ k ∷ []) c ≡ kept_in c
      by c less (inl same) =
          let last : c ≡ length keeps = same ∙ sym were.each in
          ap (keeping (keeps ++ k ∷ [])) last
          ∙ get_or-append_seam keeps k [] (record { driven = 0; known = 0; value = 0 }) ∙ is ∙ ap kept_in (sym same)
      by c less (inr (inl before)) =
          let within : c < length keeps = omega (arith, before, were.each) in
          get_or_append_left keeps (k ∷ []) (record { driven = 0; known = 0; value = 0 }) c within ∙ were.same c before
      by c less (inr (inr past)) = absurd (omega (arith, less, past))

  pub all_joined : (keeps : List Keep) (n : ℕ) → AreJoinedBelow keeps n → n ≡ length driven
      → AreJoined driven known values keeps
  all_joined keeps n all e = record {
    each = all.each ∙ e;
    same = λ c less. all.same c (omega (arith, less, e));
  }
