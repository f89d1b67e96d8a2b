-- Between functions: The literals of a clause in order, each once. Rule of this project.
use Rattle.std.specs.Prelude.{List, [], ◌∷◌, ℤ}
use Rattle.std.specs.Ordering.{int_cmp}
use Rattle.std.specs.BTreeSet.{insert_key}

-- each literal comes in at its place among those that are in order
abbrev pub sorted_into : List ℤ → List ℤ → List ℤ
sorted_into keys [] = keys
sorted_into keys (l ∷ ls) = sorted_into (insert_key int_cmp keys l) ls

abbrev pub sorted : List ℤ → List ℤ
sorted lits = sorted_into [] lits
