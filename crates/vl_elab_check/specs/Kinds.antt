-- Between functions: Kinds of items: what the functions that tell them apart promise one another. Rule of this
-- project.
use Rattle.std.specs.Prelude.{ℕ, List, Bool, true, false, Option, Some, None}
use Rattle.vl_tree.specs.Item.{Item, declaration, integer, genvar, instance, for_loop, if_only, if_else}

-- of nets, variables or genvars
abbrev pub is_of_objects : Item → Bool
is_of_objects (declaration attrs p d) = true
is_of_objects (integer attrs p xs) = true
is_of_objects (genvar attrs p xs) = true
is_of_objects x = false

-- the name of an instance
abbrev pub instance_name : Item → Option (List ℕ)
instance_name (instance attrs p x) = Some x.name
instance_name x = None

-- an instance or a construct
abbrev pub has_steps_within : Item → Bool
has_steps_within (instance attrs p x) = true
has_steps_within (for_loop attrs p head b) = true
has_steps_within (if_only attrs p c b) = true
has_steps_within (if_else attrs p c b d) = true
has_steps_within x = false
