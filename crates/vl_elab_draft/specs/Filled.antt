-- Between functions: Tables that are filled name by name. Rule of this project.
use Rattle.std.specs.Prelude.{ℕ, List, [], ◌∷◌, Option, bytes_eq, if◌then◌else◌}
use Rattle.vl_elab_scope.specs.Texts.{or_else}

-- what a table that has this at a name has there, once each of these names has what f says of it
abbrev pub filled : {A : Type 0} → (List ℕ → Option A) → List (List ℕ) → Option A → List ℕ → Option A
filled f [] o other = o
filled f (t ∷ ts) o other = filled f ts (if bytes_eq other t then or_else o (f other) else o) other
