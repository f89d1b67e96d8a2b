-- Between functions: In which cells the numbers of declared names stand: in the order of the names. Rule of this
-- project.
use Rattle.std.specs.Prelude.{◌≡◌, ℕ, ◌≤◌, List, All, length, slice_get, Some, is_none, if◌then◌else◌}
use Rattle.vl_size.specs.declared.decl.Decl.{Decl}
use Rattle.vl_size.specs.Table.{IsShaped, AreDifferent, AreApart}
use Rattle.vl_mean.specs.FlatLaw.{IsKept, all_names_count}
use Rattle.vl_flow_cells.specs.Numbered.{first_cell}
use Rattle.vl_lower_nodes.specs.Points.{past}
use Rattle.vl_lower_expr.specs.declared.place.Place.{Place}
use Rattle.vl_lower_expr.specs.declared.place.Place.TheVariants as place

-- a vector has a cell, and a memory one for each word
abbrev pub place_at : Decl → ℕ → Place
place_at d at = if is_none d.words then place.Vector at else place.Words at

-- The declarations are those of a design without hierarchy, and each name's cells are numbered in their order.
pub record IsLayout (ds : List Decl) (places : List Place) : Type 0 where
  pub each : length places ≡ length ds
  pub at : (i : ℕ) (d : Decl) → slice_get ds i ≡ Some d → slice_get places i ≡ Some (place_at d (first_cell ds i))
  pub shaped : All IsShaped ds
  pub kept : All IsKept ds
  pub different : AreDifferent ds
  pub apart : AreApart ds
  pub few : all_names_count ds ≤ past

-- the declaration is one of them, and its first cell is this one
abbrev pub IsDeclaredAt : List Decl → Decl → ℕ → Type 0
IsDeclaredAt ds d first = (i : ℕ) × (slice_get ds i ≡ Some d) × (first ≡ first_cell ds i)
