-- Between functions: Parts of a design as they are written behind what stands in a design without hierarchy. Rule of
-- this project.
use Rattle.std.specs.Prelude.{◌≡◌, ℕ, List, [], ◌++◌, map}
use Rattle.fv_text.specs.declared.pos.Pos.{Pos}
use Rattle.vl_tree.specs.declared.source.Module.{Module}
use Rattle.vl_size.specs.Table.{AreDifferent, IsShaped}
use Rattle.vl_mean.specs.declared.driver.Driver.{Driver}
use Rattle.vl_mean.specs.declared.driver.DriverKind.{DriverKind}
use Rattle.vl_mean.specs.Parts.{Part, parts_of_steps}
use Rattle.vl_mean.specs.Runs.{Each}
use Rattle.vl_mean.specs.Walk.{Step, walk}
use Rattle.vl_mean_flat.specs.Flattened.{decls_of}
use Rattle.vl_mean_flat.specs.DriverPlaces.{all_at, places_of, places_of_steps}
use Rattle.vl_elab_draft.specs.Drawn.{drivers_of, starts_of}
use Rattle.vl_elab_draft.specs.Ends.{EndsPlain}
use Rattle.vl_elab_draft.specs.Written.{Written}
use Rattle.vl_elab_emit.specs.Begins.{Begins}

-- full names differ and are none of a memory's word, shapes are in range, and what begins with a value may be written
pub record MayStandBehind (w : Written) (ps : List Part) : Type 0 where
  pub different : AreDifferent (w.decls ++ decls_of ps)
  pub ended : Each EndsPlain (decls_of ps)
  pub shaped : Each IsShaped (decls_of ps)
  pub begun : Each Begins ps

-- ---- parts in their places

-- parts, and where the drivers among them stand, in order
pub record Placed : Type 0 where
  pub parts : List Part
  pub places : List Pos

-- all at one place
abbrev pub placed_at : Pos → List Part → Placed
placed_at p ps = record { parts = ps; places = all_at p ps }

-- none of which drives
abbrev pub unplaced : List Part → Placed
unplaced ps = record { parts = ps; places = [] }

abbrev pub followed_by : Placed → Placed → Placed
followed_by xs ys = record { parts = xs.parts ++ ys.parts; places = xs.places ++ ys.places }

-- of steps
abbrev pub placed_steps : List Step → Placed
placed_steps xs = record { parts = parts_of_steps xs; places = places_of_steps xs }

-- of the design with this top module
abbrev pub placed_design : List Module → List ℕ → Placed
placed_design ms top = placed_steps (walk ms top)

-- ---- what is written

-- what drivers are
abbrev pub kinds_of : List Driver → List DriverKind
kinds_of xs = map (λ x. x.what) xs

-- v is w with the declarations, drivers and values at first of the parts behind it, each in order, and each driver in
-- its place
pub record StandBehind (w : Written) (xs : Placed) (v : Written) : Type 0 where
  pub decls_are : v.decls ≡ w.decls ++ decls_of xs.parts
  pub drivers_are : kinds_of v.drivers ≡ kinds_of w.drivers ++ drivers_of xs.parts
  pub places_are : places_of v.drivers ≡ places_of w.drivers ++ xs.places
  pub starts_are : v.starts ≡ w.starts ++ starts_of xs.parts
