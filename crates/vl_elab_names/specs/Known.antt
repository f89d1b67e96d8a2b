-- Between functions: Names, as a set of them. Rule of this project.
use Rattle.std.specs.Prelude.{◌≡◌, ℕ, List, Bool, false, ◌||◌, Option, Some, None, Box, bytes_eq, is_some}
use Rattle.std.specs.declared.alloc.Global.{Global}
use Rattle.std.specs.Map.{lookup}
use Rattle.vl_mean.specs.Cells.{contains_name}
use Rattle.vl_elab_names.specs.declared.set.NameSet.{NameSet}
use Rattle.vl_elab_names.specs.declared.set.Others.{Others}

-- a name that stands apart
abbrev pub is_apart : Option (List ℕ) → List ℕ → Bool
is_apart None name = false
is_apart (Some text) name = bytes_eq name text

-- those in a map
abbrev pub is_in : Others → List ℕ → Bool
is_in others name = is_some (lookup (λ key. bytes_eq name key.items) others.map.entries)

abbrev pub is_other : Option (Box Others Global) → List ℕ → Bool
is_other None name = false
is_other (Some b) name = is_in b.value name

-- whether the name is one of them
abbrev pub contains : NameSet → List ℕ → Bool
contains set name = is_apart set.first name || (is_apart set.second name || is_other set.others name)

-- they are these names
abbrev pub AreNames : NameSet → List (List ℕ) → Type 0
AreNames set names = (text : List ℕ) → contains set text ≡ contains_name names text
