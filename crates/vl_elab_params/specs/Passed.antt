-- Between functions: Names that the walk has passed: what the functions that keep them promise one another. Rule of
-- this project.
use Rattle.std.specs.Prelude.{ℕ, List, [], ◌∷◌, if◌then◌else◌}
use Rattle.vl_tree.specs.Item.{Item, parameter}
use Rattle.vl_mean.specs.Walk.{parameter_names}
use Rattle.vl_elab_spec.specs.Meanings.{Meaning, constant, faulty, Names, is_undeclared, meaning_of, meaning_in}
use Rattle.vl_elab_scope.specs.Seen.{with_name}
use Rattle.vl_elab_params.specs.Entered.{with_later}

-- what a parameter means: it is known, or faulty
abbrev pub parameter_meaning : Meaning → Meaning
parameter_meaning (constant c selected) = constant c selected
parameter_meaning m = faulty

-- with a name that is passed, if it is that of a parameter
abbrev pub with_passed : Names → List Names → Names → List ℕ → Names
with_passed pending known passed text =
    if is_undeclared (meaning_of pending text) then passed
    else with_name passed text (parameter_meaning (meaning_in known text))

-- with each of them
abbrev pub with_all_passed : Names → List Names → Names → List (List ℕ) → Names
with_all_passed pending known passed [] = passed
with_all_passed pending known passed (text ∷ texts) =
    with_all_passed pending known (with_passed pending known passed text) texts

-- ---- parameters, before the first step

-- those that an item declares
abbrev pub item_parameters : Item → List (List ℕ)
item_parameters (parameter attrs p kind xs) = parameter_names xs
item_parameters x = []

-- none of them stands before
abbrev pub all_pending : List (List ℕ) → Names
all_pending texts = with_later [] texts
