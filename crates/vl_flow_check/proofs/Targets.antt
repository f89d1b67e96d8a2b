-- The places that a target adds: those of each of its names.
use Rattle.std.specs.Prelude.{◌≡◌, ℕ, List, [], ◌∷◌, ◌++◌, true, replicate}
use Rattle.std.proofs.Common.{ap, sym, ◌∙◌, subst}
use Rattle.std.proofs.lemmas.List.{replicate-append-replicate}
use Rattle.fv_text.specs.declared.pos.Pos.{Pos}
use Rattle.vl_tree.specs.Expr.{Selects}
use Rattle.vl_tree.specs.Lval.{Lval, Lvals, named, more_lvals}
use Rattle.vl_size.specs.declared.decl.Decl.{Decl}
use Rattle.vl_mean.specs.FlatLaw.{flat_scopes, is_net, IsTarget}
use Rattle.vl_mean.specs.Scopes.{no_values}
use Rattle.vl_mean.specs.Targets.{all_spots, may_change, spots}
use Rattle.fv_bit_sets.specs.declared.step.Step.{Step}
use Rattle.fv_bit_sets.specs.Cells.{has}
use Rattle.vl_flow_spec.specs.Refusals.{count_spot}
use Rattle.vl_flow_cells.specs.Numbered.{Shows}
use Rattle.vl_flow_check.specs.declared.share.Share.{Share}
use Rattle.vl_flow_check.specs.Shares.{places_at, target_places, AddsPlaces}
use Rattle.vl_flow_check.proofs.Once.{count_append, name_once, one_if}
use Rattle.vl_flow_check.proofs.Places.{share_more}

-- of targets one behind the other
abbrev pub all_target_places : List Decl → Lvals → Pos → List ℕ → ℕ → List Pos
all_target_places ds ls p n i = replicate (count_spot n i (all_spots (flat_scopes ds) no_values ls)) p

module _ (ds : List Decl) where
  pub first_target : (l : Lval) (ls : Lvals) (p : Pos) (n : List ℕ) (i : ℕ)
      → target_places ds l p n i ++ all_target_places ds ls p n i ≡ all_target_places ds (more_lvals l ls) p n i
  first_target l ls p n i =
      let first = spots (flat_scopes ds) no_values l in
      let others = all_spots (flat_scopes ds) no_values ls in
      replicate-append-replicate (count_spot n i first) (count_spot n i others) p
      ∙ ap (λ k. replicate k p) (sym (count_append n i first others))

  pub name_added : (p : Pos) (text : List ℕ) (xs : Selects) (l : Lval) (place : Pos) (bits : List Step)
      (before after : List Share) → named p text xs ≡ l → Shows ds (has bits) (may_change (flat_scopes ds) l)
      → IsTarget ds is_net true l → after ≡ before ++ record { bits = bits; pos = place } ∷ []
      → AddsPlaces ds before after (target_places ds l place)
  name_added p text xs l place bits before after same shows is pushed c n i e =
      share_more before after (record { bits = bits; pos = place }) c i pushed
      ∙ ap (λ b. places_at before c i ++ replicate (one_if b) place) (shows c n i e)
      ∙ ap (λ k. places_at before c i ++ replicate k place) (sym once)
    where
      fix : IsTarget ds is_net true (named p text xs)
      fix = subst (IsTarget ds is_net true) (sym same) is

      once : count_spot n i (spots (flat_scopes ds) no_values l) ≡ one_if (may_change (flat_scopes ds) l n i)
      once = subst
          (λ t. count_spot n i (spots (flat_scopes ds) no_values t) ≡ one_if (may_change (flat_scopes ds) t n i))
          same (name_once ds p text xs fix.2 n i)
