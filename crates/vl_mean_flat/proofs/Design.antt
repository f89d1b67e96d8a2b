-- A design and its parts without hierarchy have the same maps.
use Rattle.std.specs.Prelude.{ℕ, List, [], ◌∷◌}
use Rattle.std.proofs.Common.{sym}
use Rattle.vl_tree.specs.declared.source.Module.{Module}
use Rattle.vl_size.specs.declared.decl.Decl.{Decl}
use Rattle.vl_size.specs.Table.{AreDifferent}
use Rattle.vl_mean.specs.Parts.{Part, declares, equation, combinational, clocked, starts, design}
use Rattle.vl_mean.specs.Runs.{Each}
use Rattle.vl_mean.specs.Scopes.{Scope}
use Rattle.vl_mean.specs.Walk.{walk}
use Rattle.vl_mean_flat.specs.Flattened.{decls_of, flattened, PartNames, IsSeen, Known}
use Rattle.vl_mean_flat.specs.Found.{Found}
use Rattle.vl_mean_flat.specs.SameMaps.{AreSameMaps}
use Rattle.vl_mean_flat.specs.StepScopes.{PartScopes}
use Rattle.vl_mean_flat.proofs.FoundNames.{AreScopes, found}
use Rattle.vl_mean_flat.proofs.LaidScopes.{laid_walk}
use Rattle.vl_mean_flat.proofs.NamesMap.{expr_map, target_map, stmt_map}
use Rattle.vl_mean_flat.proofs.SameMaps.{same_holds, same_choices, same_next, same_init, same_run, same_assumed}
use Rattle.vl_mean_flat.proofs.SameMaps.{same_driven, same_writes}
use Rattle.vl_mean_flat.proofs.StepParts.{of_steps}

module _ (es : List Decl) where
  seen_found : (ss : List Scope) → AreScopes es ss → (text : List ℕ) → IsSeen ss text → Found es ss text
  seen_found ss laid text h = found es ss text h.decl laid h.declared

  part_found : (p : Part) → PartScopes (AreScopes es) p → Known p → PartNames (Found es) p
  part_found (declares d) l h = tt
  part_found (equation ts t ss e) l h = (target_map (seen_found ts l.0) ts t h.0, expr_map (seen_found ss l.1) ss e h.1)
  part_found (combinational ss s) l h = stmt_map (seen_found ss l) ss s h
  part_found (clocked ss s) l h = stmt_map (seen_found ss l) ss s h
  part_found (starts ss t e) l h =
      (target_map (seen_found ss l) ss t h.0, expr_map (seen_found ss l) ss e h.1, h.2, h.3)

  all_found : (ps : List Part) → Each (PartScopes (AreScopes es)) ps → Each Known ps → Each (PartNames (Found es)) ps
  all_found [] l h = tt
  all_found (p ∷ ps) l h = (part_found p l.0 h.0, all_found ps l.1 h.1)

pub same_maps : (ms : List Module) (top : List ℕ) → AreDifferent (decls_of (design ms top)) → Each Known (design ms top)
    → AreSameMaps (design ms top) (flattened (design ms top))
same_maps ms top different known =
    let ps : List Part = design ms top in
    let es : List Decl = decls_of ps in
    let found_all : Each (PartNames (Found es)) ps = all_found es ps
    (of_steps (AreScopes es) (walk ms top) (laid_walk ms top different)) known in
    record {
      holds = λ v. same_holds ps found_all v;
      chosen = λ u v. same_choices ps found_all u v;
      steps = λ v u. same_next ps found_all v u;
      begins = λ v. same_init ps found_all v;
      runs = λ d run. same_run ps found_all d run;
      assumed = λ run. same_assumed ps found_all run;
      driven = λ n k. sym (same_driven ps found_all n k);
      writes = sym (same_writes ps found_all);
    }
