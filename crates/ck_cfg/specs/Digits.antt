-- Between functions: Numbers in decimal digits, as they are compared. Rule of this project.
use Rattle.std.specs.Prelude.{ℕ, ◌+◌, ◌-◌, ◌*◌, ◌==◌, if◌then◌else◌, List, [], ◌∷◌}

-- the number that digits continue
abbrev pub continued_value : ℕ → List ℕ → ℕ
continued_value n [] = n
continued_value n (d ∷ ds) = continued_value (10 * n + (d - 48)) ds

-- the number of digits
abbrev pub value : List ℕ → ℕ
value ds = continued_value 0 ds

-- without leading zeros
abbrev pub significant : List ℕ → List ℕ
significant [] = []
significant (d ∷ ds) = if d == 48 then significant ds else d ∷ ds
