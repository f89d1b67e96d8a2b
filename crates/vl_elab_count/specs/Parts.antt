-- Between functions: Nodes of one part of a list, and of an item whose turns are known: what the functions that count
-- them promise one another. Rule of this project.
use Rattle.std.specs.Prelude.{◌≡◌, ℕ, ◌+◌}
use Rattle.vl_tree.specs.declared.expr.Select.{Select}
use Rattle.vl_tree.specs.declared.expr.Select.TheVariants as s
use Rattle.vl_tree.specs.declared.stmt.Arm.{Arm}
use Rattle.vl_tree.specs.declared.stmt.Arm.TheVariants as a
use Rattle.vl_tree.specs.Item.{Item, for_loop}
use Rattle.vl_mean.specs.ConstantFaults.{capped}
use Rattle.vl_mean.specs.FlatLaw.{nodes, stmt_nodes, label_nodes}
use Rattle.vl_mean.specs.Walk.{Place}
use Rattle.vl_elab_spec.specs.Counts.{loop_nodes}

-- of one select
abbrev pub select_nodes : Select → ℕ
select_nodes (s.Bit p i) = nodes i.value + 1
select_nodes (s.Part p l r) = nodes l.value + nodes r.value + 1
select_nodes (s.Indexed p i n) = nodes i.value + nodes n.value + 1

-- of one arm
abbrev pub arm_nodes : Arm → ℕ
arm_nodes (a.Labels p es x) = label_nodes es + stmt_nodes x.value
arm_nodes (a.Default p colon x) = stmt_nodes x.value

-- a loop's turns have so many nodes, up to the limit
abbrev pub TurnsHave : Place → Item → ℕ → Type 0
TurnsHave at (for_loop attrs p head b) n = n ≡ capped (loop_nodes head at)
TurnsHave at x n = Unit {0}
