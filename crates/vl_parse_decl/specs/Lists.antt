-- Between functions: What functions promise each other, and what they stand on. The first of a list. Rule of this
-- project.
use Rattle.std.specs.Prelude.{◌≡◌, List, [], ◌∷◌}

-- it is the first of the list
abbrev pub BeginsWith : {A : Type 0} → A → List A → Type 0
BeginsWith x [] = ⊥
BeginsWith x (y ∷ ys) = y ≡ x
