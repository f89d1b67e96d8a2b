-- Between functions: Names that are none of a memory's word: a word's name ends with a bracket. Rule of this project.
use Rattle.std.specs.Prelude.{◌≡◌, ℕ, List, [], ◌∷◌, Bool, true, not, ◌==◌}
use Rattle.vl_size.specs.declared.decl.Decl.{Decl}

-- the last byte is no closing bracket
abbrev pub ends_plain : List ℕ → Bool
ends_plain [] = true
ends_plain (c ∷ []) = not (c == 93)
ends_plain (c ∷ d ∷ cs) = ends_plain (d ∷ cs)

abbrev pub EndsPlain : Decl → Type 0
EndsPlain d = ends_plain d.name ≡ true
