-- A design that is drawn from parts is those parts without hierarchy.
use Rattle.std.specs.Prelude.{◌≡◌, refl, ℕ, List, [], ◌∷◌, ◌++◌, map}
use Rattle.std.proofs.Common.{ap, sym, ◌∙◌, subst}
use Rattle.vl_tree.specs.declared.source.Module.{Module}
use Rattle.vl_size.specs.Table.{AreDifferent}
use Rattle.vl_mean.specs.declared.driver.Driver.{Driver}
use Rattle.vl_mean.specs.declared.flat.Flat.{Flat}
use Rattle.vl_mean.specs.FlatLaw.{flat_scopes}
use Rattle.vl_mean.specs.FlatParts.{driver_part, start_part, flat_parts}
use Rattle.vl_mean.specs.Parts.{Part, declares, equation, combinational, clocked, starts, design}
use Rattle.vl_mean.specs.Runs.{Each}
use Rattle.vl_mean.specs.Scopes.{Scope}
use Rattle.vl_mean_flat.specs.Flattened.{decls_of, flat_part, flat_decls, flat_drivers, flat_starts, flattened, Known}
use Rattle.vl_mean_flat.specs.SameMaps.{AreSameMaps}
use Rattle.vl_mean_flat.proofs.Design.{same_maps as flattened_maps}
use Rattle.vl_elab_draft.specs.Drawn.{drivers_of, starts_of, IsDrawn}

module _ (fs : List Scope) where
  same_decls : (ps : List Part) → map (λ d. declares d) (decls_of ps) ≡ flat_decls fs ps
  same_decls [] = refl
  same_decls (declares d ∷ ps) = ap (λ l. declares d ∷ l) (same_decls ps)
  same_decls (equation ts l ss e ∷ ps) = same_decls ps
  same_decls (combinational ss s ∷ ps) = same_decls ps
  same_decls (clocked ss s ∷ ps) = same_decls ps
  same_decls (starts ss l e ∷ ps) = same_decls ps

  same_drivers : (ps : List Part) → map (driver_part fs) (drivers_of ps) ≡ flat_drivers fs ps
  same_drivers [] = refl
  same_drivers (declares d ∷ ps) = same_drivers ps
  same_drivers (equation ts l ss e ∷ ps) = ap (λ qs. flat_part fs (equation ts l ss e) ∷ qs) (same_drivers ps)
  same_drivers (combinational ss s ∷ ps) = ap (λ qs. flat_part fs (combinational ss s) ∷ qs) (same_drivers ps)
  same_drivers (clocked ss s ∷ ps) = ap (λ qs. flat_part fs (clocked ss s) ∷ qs) (same_drivers ps)
  same_drivers (starts ss l e ∷ ps) = same_drivers ps

  same_starts : (ps : List Part) → map (start_part fs) (starts_of ps) ≡ flat_starts fs ps
  same_starts [] = refl
  same_starts (declares d ∷ ps) = same_starts ps
  same_starts (equation ts l ss e ∷ ps) = same_starts ps
  same_starts (combinational ss s ∷ ps) = same_starts ps
  same_starts (clocked ss s ∷ ps) = same_starts ps
  same_starts (starts ss l e ∷ ps) = ap (λ qs. flat_part fs (starts ss l e) ∷ qs) (same_starts ps)

  of_kinds : (xs : List Driver) → map (λ x. driver_part fs x.what) xs ≡ map (driver_part fs) (map (λ x. x.what) xs)
  of_kinds [] = refl
  of_kinds (x ∷ xs) = ap (λ qs. driver_part fs x.what ∷ qs) (of_kinds xs)

drawn : (ps : List Part) (f : Flat) → IsDrawn ps f → flat_parts f ≡ flattened ps
drawn ps f h =
    let fs : List Scope = flat_scopes (decls_of ps) in
    (λ i. map (λ d. declares d) (h.decls_are i) ++ map (λ x. driver_part (flat_scopes (h.decls_are i)) x.what) f.drivers
    ++ map (start_part (flat_scopes (h.decls_are i))) (h.starts_are i))
    ∙ (λ i. same_decls fs ps i ++ (of_kinds fs f.drivers ∙ ap (map (driver_part fs)) h.drivers_are
    ∙ same_drivers fs ps) i ++ same_starts fs ps i)

pub same_maps : (ms : List Module) (top : List ℕ) (f : Flat) → AreDifferent (decls_of (design ms top))
    → Each Known (design ms top) → IsDrawn (design ms top) f → AreSameMaps (design ms top) (flat_parts f)
same_maps ms top f different known h =
    subst (AreSameMaps (design ms top)) (sym (drawn (design ms top) f h)) (flattened_maps ms top different known)
