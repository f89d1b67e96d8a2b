-- Between functions: Names of a block that hide constants of the scopes around it: what the functions that enter them
-- promise one another. Rule of this project.
use Rattle.std.specs.Prelude.{ℕ, List, [], ◌∷◌, map, if◌then◌else◌}
use Rattle.vl_tree.specs.Item.{Item, Items, declaration, integer, no_items, more_items}
use Rattle.vl_elab_spec.specs.Meanings.{faulty, Names, is_undeclared, meaning_of}
use Rattle.vl_elab_scope.specs.Seen.{with_name}

-- those that aren't among the constants
abbrev pub with_hidden : Names → Names → List (List ℕ) → Names
with_hidden values l [] = l
with_hidden values l (text ∷ texts) =
    with_hidden values (if is_undeclared (meaning_of values text) then with_name l text faulty else l) texts

-- nets and variables
abbrev pub object_names : Item → List (List ℕ)
object_names (declaration attrs p d) = map (λ x. x.name) d.names
object_names (integer attrs p xs) = map (λ x. x.name) xs
object_names x = []

abbrev pub with_hidden_items : Names → Names → Items → Names
with_hidden_items values l no_items = l
with_hidden_items values l (more_items x xs) = with_hidden_items values (with_hidden values l (object_names x)) xs
