-- Between functions: Names that are declared and nodes of turns, over the numbers of constants: what the functions
-- that count them promise one another. IEEE 1364-2005, sections 4.9 and 12.4.1; what counts is a rule of this project.
use Rattle.std.specs.Prelude.{ℕ, zero, suc, ◌+◌, List, [], ◌∷◌, Bool, Option, Some, None, if◌then◌else◌}
use Rattle.vl_tree.specs.declared.declaration.DeclaredName.{DeclaredName}
use Rattle.vl_tree.specs.declared.declaration.Range.{Range}
use Rattle.vl_tree.specs.declared.part.LoopHead.{LoopHead}
use Rattle.vl_tree.specs.Item.{Item, declaration, integer}
use Rattle.vl_size.specs.Table.{span}
use Rattle.vl_mean.specs.declared.const_number.Const.{Const}
use Rattle.vl_mean.specs.FlatLaw.{nodes}
use Rattle.vl_mean.specs.Walk.{most_turns}
use Rattle.vl_elab_spec.specs.Meanings.{Names, bound}
use Rattle.vl_elab_const.specs.Numbers.{holds, genvar_number}
use Rattle.vl_elab_check_item.specs.TurnParts.{in_turn}

-- of a name, with the words of a memory
abbrev pub name_count : List Names → Option Range → ℕ
name_count ns None = 1
name_count ns (Some r) = span (bound ns r.left) (bound ns r.right) + 1

-- of names that are declared together
abbrev pub names_count : List Names → List DeclaredName → ℕ
names_count ns [] = 0
names_count ns (x ∷ xs) = name_count ns x.words + names_count ns xs

-- of the nets and variables of an item
abbrev pub item_count : List Names → Item → ℕ
item_count ns (declaration attrs p d) = names_count ns d.names
item_count ns (integer attrs p xs) = names_count ns xs
item_count ns x = 0

-- each turn and what leads to the next one, with so many turns to come
abbrev pub turn_nodes : ℕ → List Names → LoopHead → Const → ℕ
turn_nodes zero ns head c = nodes head.condition
turn_nodes (suc n) ns head c =
    let inner = in_turn head.variable c ns in
    let more = turn_nodes n ns head (genvar_number inner head.next) in
    nodes head.condition + (if holds inner head.condition then nodes head.next + more else 0)

-- of the first turn alone
abbrev pub one_turn_nodes : List Names → LoopHead → Const → ℕ
one_turn_nodes ns head c =
    nodes head.condition + (if holds (in_turn head.variable c ns) head.condition then nodes head.next else 0)

-- of a loop whose first turn has values
abbrev pub begun_nodes : Bool → List Names → LoopHead → ℕ
begun_nodes further ns head =
    let first = genvar_number ns head.start in
    if further then turn_nodes most_turns ns head first else one_turn_nodes ns head first
