-- Between functions: What a set of true literals makes of a clause. Rules of this project.
use Rattle.std.specs.Prelude.{◌≡◌, true, false, List, ℤ}
use Rattle.lrat_check.specs.Sets.{has, is_false}

-- no literal of the clause is true
abbrev pub NoneTrue : List ℤ → List ℤ → Type 0
NoneTrue set clause = (x : ℤ) → has clause x ≡ true → has set x ≡ false

-- each literal of the clause is false
abbrev pub AllFalse : List ℤ → List ℤ → Type 0
AllFalse set clause = (x : ℤ) → has clause x ≡ true → is_false set x ≡ true

-- each literal of a is in b
abbrev pub Within : List ℤ → List ℤ → Type 0
Within a b = (x : ℤ) → has a x ≡ true → has b x ≡ true
