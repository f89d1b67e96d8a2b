-- Between functions: The values of all variables, from a cube and values of those that it leaves open. Rule of this
-- project.
use Rattle.std.specs.Prelude.{ℕ, zero, suc, ◌+◌, ◌-◌, Bool, true, false, if◌then◌else◌, List, [], ◌∷◌, ◌++◌, ℤ, pos}
use Rattle.std.specs.Prelude.{slice_index_or}
use Rattle.lrat_check.specs.Sets.{has, is_false}
use Rattle.sat_cubes.specs.Cubes.{new_number}

-- the value of a variable under a cube; if that leaves it open, the value at the place
abbrev pub value_at : List ℤ → List Bool → ℕ → ℕ → Bool
value_at cube values place var =
    if has cube (pos var) then true
    else if is_false cube (pos var) then false
    else slice_index_or values place false

-- the place is that of the variable's new number
abbrev pub value_under : List ℤ → List Bool → ℕ → Bool
value_under cube values var = value_at cube values (new_number cube var - 1) var

-- the values of so many variables, that of variable 1 first
abbrev pub merged : List ℤ → List Bool → ℕ → List Bool
merged cube values zero = []
merged cube values (suc n) = merged cube values n ++ value_under cube values (n + 1) ∷ []
