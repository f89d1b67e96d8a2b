-- Between functions: Declared ranges that aren't refused. Rule of this project.
use Rattle.std.specs.Prelude.{◌≡◌, ◌≤◌, true, Option, Some, None, ℤ}
use Rattle.vl_size.specs.Size.{is_bound}
use Rattle.vl_size.specs.Table.{span}
use Rattle.vl_elab_const.specs.declared.ranges.Extent.{Extent}

-- both have 32 signed bits
pub record AreBounds (bounds : ℤ × ℤ) : Type 0 where
  pub left : is_bound bounds.0 ≡ true
  pub right : is_bound bounds.1 ≡ true

-- and lie at most 128 places apart
pub record IsShort (bounds : ℤ × ℤ) : Type 0 where
  pub bounded : AreBounds bounds
  pub few : span bounds.0 bounds.1 ≤ 128

-- of a memory's words
abbrev pub AreWords : Option (ℤ × ℤ) → Type 0
AreWords None = Unit {0}
AreWords (Some bounds) = AreBounds bounds

-- it has these bounds, and as many bits
pub record Covers (bounds : ℤ × ℤ) (x : Extent) : Type 0 where
  pub bits : x.bits ≡ span bounds.0 bounds.1
  pub left : x.left ≡ bounds.0
  pub right : x.right ≡ bounds.1
