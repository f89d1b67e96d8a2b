-- A design that is written behind nothing.
use Rattle.std.specs.Prelude.{◌≡◌, ℕ, List, All}
use Rattle.std.proofs.Common.{ap, subst, sym, ◌∙◌}
use Rattle.vl_tree.specs.declared.source.Module.{Module}
use Rattle.vl_tree.specs.WellFormed.{IsModule}
use Rattle.vl_mean.specs.declared.flat.Flat.{Flat}
use Rattle.vl_mean.specs.FlatLaw.{IsLawful}
use Rattle.vl_mean.specs.Parts.{design}
use Rattle.vl_mean_flat.specs.Flattened.{decls_of}
use Rattle.vl_elab_accepted_laws.specs.Unrefused.{NoStepRefused}
use Rattle.vl_mean_flat.specs.DriverPlaces.{driver_places, places_of}
use Rattle.vl_elab_draft.specs.Drawn.{IsDrawn}
use Rattle.vl_elab_draft.specs.Written.{Written, nothing}
use Rattle.vl_elab_flatten_laws.proofs.KeptWhole.{design_lawful}
use Rattle.vl_elab_emit.specs.Behind.{Placed, StandBehind, kinds_of, placed_design}

pub lawful : (ms : List Module) (top : List ℕ) (v : Written) → StandBehind nothing (placed_design ms top) v
    → All IsModule ms → NoStepRefused ms top → IsLawful v.decls v.drivers v.starts
lawful ms top v h formed fine =
    subst (λ ds. IsLawful ds v.drivers v.starts) (sym h.decls_are)
    (subst (λ xs. IsLawful (decls_of (design ms top)) v.drivers xs) (sym h.starts_are)
    (design_lawful ms top v.drivers formed fine h.drivers_are))

pub drawn : (xs : Placed) (v : Written) (f : Flat) → StandBehind nothing xs v → f.decls ≡ v.decls
    → f.drivers ≡ v.drivers → f.starts ≡ v.starts → IsDrawn xs.parts f
drawn xs v f h decls drivers starts = record {
  decls_are = decls ∙ h.decls_are;
  drivers_are = ap kinds_of drivers ∙ h.drivers_are;
  starts_are = starts ∙ h.starts_are;
}

pub placed : (ms : List Module) (top : List ℕ) (v : Written) (f : Flat) → StandBehind nothing (placed_design ms top) v
    → f.drivers ≡ v.drivers → places_of f.drivers ≡ driver_places ms top
placed ms top v f h drivers = ap places_of drivers ∙ h.places_are
