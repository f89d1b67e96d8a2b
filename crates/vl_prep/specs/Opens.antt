-- Meaning: Conditionals and their groups (IEEE 1364-2005, section 19.4). A list of them has the innermost first.
use Rattle.std.specs.Prelude.{Bool, true, false, not, List, [], ◌∷◌, Option, Some, None}
use Rattle.fv_text.specs.declared.pos.Pos.{Pos}
use Rattle.vl_prep.specs.declared.opens.Group.{Group}
use Rattle.vl_prep.specs.declared.opens.Group.TheVariants.{Chosen, Waiting, Passed}
use Rattle.vl_prep.specs.declared.opens.Open.{Open}

abbrev pub is_chosen : Group → Bool
is_chosen Chosen = true
is_chosen group = false

-- what stands here is in chosen groups alone: within a group that isn't chosen no group is
abbrev pub are_chosen : List Open → Bool
are_chosen [] = true
are_chosen (o ∷ os) = is_chosen o.group

-- the first group, where the conditional stands in chosen groups or doesn't, and its name decides for it or doesn't
abbrev pub first_group : Bool → Bool → Group
first_group true true = Chosen
first_group true false = Waiting
first_group false decided = Passed

-- a further group, behind one of this kind: at most one is chosen
abbrev pub next_group : Group → Bool → Group
next_group Waiting true = Chosen
next_group Waiting false = Waiting
next_group group decided = Passed

-- one more is open at a place
abbrev pub opened : Pos → Bool → List Open → List Open
opened place decided os = record { place = place; group = first_group (are_chosen os) decided; last = false } ∷ os

-- a conditional is open
abbrev pub is_open : List Open → Bool
is_open [] = false
is_open (o ∷ os) = true

-- another group can begin: a conditional is open, and its last group, behind `else, isn't there already
abbrev pub can_turn : List Open → Bool
can_turn [] = false
can_turn (o ∷ os) = not o.last

-- the next group of the innermost conditional, behind `else the last one
abbrev pub turned : Bool → Bool → List Open → List Open
turned last decided [] = []
turned last decided (o ∷ os) = record { place = o.place; group = next_group o.group decided; last = last } ∷ os

abbrev pub closed : List Open → List Open
closed [] = []
closed (o ∷ os) = os

abbrev pub innermost_place : List Open → Option Pos
innermost_place [] = None
innermost_place (o ∷ os) = Some o.place
