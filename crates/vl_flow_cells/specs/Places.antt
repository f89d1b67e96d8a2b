-- Between functions: Places in vectors and memories. IEEE 1364-2005, sections 4.2.1 and 4.9.3; the limits are rules of
-- this project.
use Rattle.std.specs.Prelude.{◌≡◌, ℕ, ◌<◌, ◌≤◌, ◌-◌, ◌^◌, List, Bool, nat_lt, Some, ℤ, pos, negsuc, ◌+ℤ◌, ◌-ℤ◌}
use Rattle.std.specs.Prelude.{int_lt, if◌then◌else◌}
use Rattle.vl_tree.specs.Expr.{Selects}
use Rattle.fv_bit_sets.specs.Cells.{is_set}
use Rattle.vl_size.specs.declared.decl.Decl.{Decl}
use Rattle.vl_size.specs.Table.{is_between}
use Rattle.vl_mean.specs.FlatLaw.{flat_scopes}
use Rattle.vl_mean.specs.Scopes.{no_values}
use Rattle.vl_mean.specs.Targets.{has_spot, vector_spots}

-- 64 bits with a sign have the index
abbrev pub is_near : ℤ → Bool
is_near i = is_between (negsuc (2 ^ 63 - 1)) (pos (2 ^ 63 - 1)) i

-- so many of the places of a vector of w bits lie below one
pub record AreBelow (w : ℕ) (p : ℤ) (count : ℕ) : Type 0 where
  pub within : count ≤ w
  pub below : (k : ℕ) → k < w → nat_lt k count ≡ int_lt (pos k) p

-- the index so many words on
abbrev pub index_at : Bool → ℤ → ℕ → ℤ
index_at up i k = if up then i +ℤ pos k else i -ℤ pos k

-- the mask has the bits of the vector that constant selects take
abbrev pub IsMaskOf : List Decl → Decl → Selects → ℕ → Type 0
IsMaskOf ds d xs mask =
    (n : List ℕ) (k : ℕ) → is_set mask k ≡ has_spot n k (vector_spots (flat_scopes ds) no_values d (Some n) xs)
