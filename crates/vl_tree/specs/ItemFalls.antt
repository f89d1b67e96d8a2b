-- Between functions: The parts of an item are less deep than the item. Rule of this project.
use Rattle.std.specs.Prelude.{◌≡◌, ℕ, ◌+◌, ◌*◌, ◌≤◌, List, [], ◌∷◌, Option, Some, None}
use Rattle.std.proofs.Common.{arith}
use denote.Param.Weighed.{most}
use Rattle.fv_text.specs.declared.pos.Pos.{Pos}
use Rattle.vl_tree.specs.declared.item.ItemKind.{ItemKind}
use Rattle.vl_tree.specs.declared.item.ItemKind.TheVariants as k
use Rattle.vl_tree.specs.declared.item.Block as declared
use Rattle.vl_tree.specs.declared.item.Block.TheVariants as b
use Rattle.vl_tree.specs.declared.item.Item.TheDeep.{deep-ItemKind, deep-Block, size-Item, size-Block}
use Rattle.vl_tree.specs.Attributes.{Attributes}
use Rattle.vl_tree.specs.Item.{Item, items, depth, items_depth, block_depth}
use Rattle.vl_tree.specs.ItemView.{block, shown}

most_le-items_depth : (xs : List Item) → most (λ x. depth x + 1) xs ≤ items_depth (items xs) + 1
most_le-items_depth [] = omega arith
most_le-items_depth (x ∷ xs) = omega (arith, most_le-items_depth xs)

pub deep_le-block_depth : (x : declared.Block) → deep-Block x ≤ block_depth (block x) + 1
deep_le-block_depth (b.Begin p label xs) = omega (arith, most_le-items_depth xs)
deep_le-block_depth (b.Region p xs) = omega (arith, most_le-items_depth xs)
deep_le-block_depth (b.Single x) = omega arith

pub falls : (attrs : Attributes) (p : Pos) (x : ItemKind) → deep-ItemKind x ≤ depth (shown attrs p x)
falls attrs p (k.Declaration d) = omega arith
falls attrs p (k.Integer names) = omega arith
falls attrs p (k.Genvar names) = omega arith
falls attrs p (k.Parameter kind ps) = omega arith
falls attrs p (k.Assign xs) = omega arith
falls attrs p (k.Always event s) = omega arith
falls attrs p (k.Initial s) = omega arith
falls attrs p (k.Instance x) = omega arith
falls attrs p (k.Generate mark) = omega arith
falls attrs p (k.For head body) = omega (arith, deep_le-block_depth body)
falls attrs p (k.If c first None) = omega (arith, deep_le-block_depth first)
falls attrs p (k.If c first (Some second)) = omega (arith, deep_le-block_depth first, deep_le-block_depth second)

-- what a recursion over the parts of an item counts down
pub most_le-size : (xs : List Item) → most (λ x. size-Item x) xs ≤ 3 * (items_depth (items xs) + 1)
most_le-size [] = omega arith
most_le-size (x ∷ xs) = omega (arith, most_le-size xs)

most_size : (xs : List Item) → most (λ x. size-Item x) xs ≤ 3 * most (λ x. depth x + 1) xs
most_size [] = omega arith
most_size (x ∷ xs) = omega (arith, most_size xs)

pub begin_falls : (x : declared.Block) (p : Pos) (label : Option (List ℕ)) (xs ys : List Item)
    → x ≡ b.Begin p label xs → ys ≡ xs → most (λ y. size-Item y) ys + 1 ≤ size-Block x
begin_falls x p label xs ys e f = rw (e, f) (omega (arith, most_size xs))

pub region_falls : (x : declared.Block) (p : Pos) (xs ys : List Item) → x ≡ b.Region p xs → ys ≡ xs
    → most (λ y. size-Item y) ys + 1 ≤ size-Block x
region_falls x p xs ys e f = rw (e, f) (omega (arith, most_size xs))

pub ruleset parts_fall = (most_le-size, deep_le-block_depth)
