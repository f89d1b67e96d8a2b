-- Between functions: What is known of declared ranges. IEEE 1364-2005, sections 3.3 and 3.11; that a range has 128
-- bits at most is a rule of this project.
use Rattle.std.specs.Prelude.{List, Bool, ◌&&◌, int_le, nat_le, ℤ, pos, Option, Some, None, if◌then◌else◌}
use Rattle.vl_tree.specs.declared.declaration.Range.{Range}
use Rattle.vl_size.specs.Size.{is_bound}
use Rattle.vl_size.specs.Table.{span}
use Rattle.vl_elab_spec.specs.Meanings.{Names, bound, is_known_shape, declared_width}
use Rattle.vl_elab_params.specs.declared.extents.Bounds.{Bounds}
use Rattle.vl_elab_params.specs.declared.extents.Extent.{Extent}

-- it is `[width - 1 : 0]`
abbrev pub goes_down_to_0 : ℤ → ℤ → Bool
goes_down_to_0 left right = int_le (pos 0) left && int_le right (pos 0) && int_le (pos 0) right

-- a range of any width
abbrev pub bounds_of : ℤ → ℤ → Bounds
bounds_of l r = record { bits = span l r; left = l; right = r }

abbrev pub as_extent : Bounds → Extent
as_extent b = record { bits = b.bits; left = b.left; right = b.right }

-- where it has 128 bits at most
abbrev pub few_bits : Option Bounds → Option Extent
few_bits None = None
few_bits (Some b) = if nat_le b.bits 128 then Some (as_extent b) else None

-- of two numbers, where they may be bounds of at most 128 bits
abbrev pub extent_between : ℤ → ℤ → Option Extent
extent_between l r =
    if (is_bound l && is_bound r) && nat_le (span l r) 128 then Some (as_extent (bounds_of l r)) else None

-- a scalar has the range `[0:0]`
abbrev pub left_bound : List Names → Option Range → ℤ
left_bound ns None = pos 0
left_bound ns (Some r) = bound ns r.left

abbrev pub right_bound : List Names → Option Range → ℤ
right_bound ns None = pos 0
right_bound ns (Some r) = bound ns r.right

abbrev pub extent_of : List Names → Option Range → Extent
extent_of ns r = record { bits = declared_width ns r; left = left_bound ns r; right = right_bound ns r }

-- of a declared range that is known, and has at most 128 bits
abbrev pub known_extent : List Names → Option Range → Option Extent
known_extent ns r = if is_known_shape ns r then Some (extent_of ns r) else None
