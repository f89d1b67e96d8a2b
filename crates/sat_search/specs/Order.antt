-- Between functions: Variables that have values, by their indexes. Rule of this project.
use Rattle.std.specs.Prelude.{ℕ, ◌+◌, ◌<◌, ◌≤◌, ◌≡◌, true, List, ℤ}
use Rattle.sat_trail.specs.Trail.{is_assigned}

-- each variable from an index on, up to so many, has a value; variable 1's index is 0
abbrev pub AssignedFrom : ℕ → ℕ → List ℤ → Type 0
AssignedFrom start vars set =
    (index : ℕ) → start ≤ index → index < vars → is_assigned set (index + 1) ≡ true
