-- Between functions: Paths that share the paths of the scopes around. Rule of this project.
use Rattle.std.specs.Prelude.{ℕ, List, ◌++◌, ◌<◌, length, Option, Some, None}

-- behind the text of a path around, if there is one
abbrev pub text_behind : Option (List ℕ) → List ℕ → List ℕ
text_behind None own = own
text_behind (Some around) own = around ++ own

-- a text behind a path isn't empty
abbrev pub IsLinked : Option (List ℕ) → List ℕ → Type 0
IsLinked None own = Unit {0}
IsLinked (Some around) own = 0 < length own
