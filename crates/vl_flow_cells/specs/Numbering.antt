-- Between functions: The numbers of a design's cells. Rule of this project.
use Rattle.std.specs.Prelude.{◌≡◌, ℕ, ◌≤◌, List, [], length, All, Some, slice_get}
use Rattle.vl_size.specs.declared.decl.Decl.{Decl}
use Rattle.vl_size.specs.Table.{AreApart, AreDifferent, IsShaped}
use Rattle.vl_mean.specs.Env.{values_of}
use Rattle.vl_mean.specs.FlatLaw.{IsKept, all_names_count}
use Rattle.vl_flow_cells.specs.Numbered.{first_cell}
use Rattle.vl_flow_cells.specs.declared.numbering.Numbering.{Numbering}

-- where the cells of each declaration begin, of declarations that a design without hierarchy may have
pub record IsNumberingOf (ds : List Decl) (x : Numbering) : Type 0 where
  pub size : length x.firsts ≡ length ds
  pub firsts : (i first : ℕ) → slice_get x.firsts i ≡ Some first → first ≡ first_cell ds i
  -- what constants are evaluated in has no names
  pub bare : x.bare.decls ≡ []
  pub numberless : (text : List ℕ) → values_of x.bare text ≡ 0
  pub shaped : All IsShaped ds
  pub different : AreDifferent ds
  pub apart : AreApart ds
  pub kept : All IsKept ds
  pub few : all_names_count ds ≤ 200000

-- the declaration is one of those, and its first cell has the number
pub record BeginsAt (ds : List Decl) (d : Decl) (first : ℕ) : Type 0 where
  pub place : ℕ
  pub at : slice_get ds place ≡ Some d
  pub number : first ≡ first_cell ds place
  pub different : AreDifferent ds
  pub apart : AreApart ds
  pub kept : All IsKept ds
