-- Between functions: Names of a block that parameters of the scopes around have too: what the functions that keep them
-- promise one another. Rule of this project.
use Rattle.std.specs.Prelude.{ℕ, List, [], ◌∷◌, if◌then◌else◌}
use Rattle.vl_elab_spec.specs.Meanings.{Names, is_undeclared, meaning_in}
use Rattle.vl_elab_scope.specs.Seen.{with_name}

-- with what the name means, where it is declared
abbrev pub with_meaning : List Names → Names → List ℕ → Names
with_meaning names l text =
    if is_undeclared (meaning_in names text) then l else with_name l text (meaning_in names text)

-- if something is said of it around
abbrev pub with_shadow : List Names → List Names → Names → List ℕ → Names
with_shadow names around l text =
    if is_undeclared (meaning_in around text) then l else with_meaning names l text

-- with each of them
abbrev pub with_shadows : List Names → List Names → Names → List (List ℕ) → Names
with_shadows names around l [] = l
with_shadows names around l (text ∷ texts) = with_shadows names around (with_shadow names around l text) texts
