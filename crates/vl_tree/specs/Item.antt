-- Meaning: Items as plain trees, each with the attributes before it and the place of its first token behind them. A
-- region is two marks among items, or a block. IEEE 1364-2005, sections A.1 to A.4.
use Rattle.std.specs.Prelude.{ℕ, ◌+◌, max, List, [], ◌∷◌, Option}
use Rattle.fv_text.specs.declared.pos.Pos.{Pos}
use Rattle.vl_tree.specs.declared.declaration.Declaration.{Declaration}
use Rattle.vl_tree.specs.declared.declaration.DeclaredName.{DeclaredName}
use Rattle.vl_tree.specs.declared.declaration.Parameter.{Parameter}
use Rattle.vl_tree.specs.declared.declaration.ParameterKind.{ParameterKind}
use Rattle.vl_tree.specs.declared.item.RegionMark.{RegionMark}
use Rattle.vl_tree.specs.declared.part.Assignment.{Assignment}
use Rattle.vl_tree.specs.declared.part.Event.{Event}
use Rattle.vl_tree.specs.declared.part.Instance.{Instance}
use Rattle.vl_tree.specs.declared.part.LoopHead.{LoopHead}
use Rattle.vl_tree.specs.Attributes.{Attributes}
use Rattle.vl_tree.specs.Expr.{Expr}
use Rattle.vl_tree.specs.Stmt.{Stmt}

mutual
  pub data Item : Type 0 where
    declaration : Attributes → Pos → Declaration → Item
    integer : Attributes → Pos → List DeclaredName → Item
    genvar : Attributes → Pos → List (List ℕ) → Item
    parameter : Attributes → Pos → ParameterKind → List Parameter → Item
    assign : Attributes → Pos → List Assignment → Item
    always : Attributes → Pos → Event → Stmt → Item
    initial : Attributes → Pos → Stmt → Item
    instance : Attributes → Pos → Instance → Item
    -- `generate`, or `endgenerate`
    generate : Attributes → Pos → RegionMark → Item
    for_loop : Attributes → Pos → LoopHead → Block → Item
    if_only : Attributes → Pos → Expr → Block → Item
    if_else : Attributes → Pos → Expr → Block → Block → Item

  pub data Items : Type 0 where
    no_items : Items
    more_items : Item → Items → Items

  -- a block of a generate construct, with the place of its `begin` or `generate`
  pub data Block : Type 0 where
    begin : Pos → Option (List ℕ) → Items → Block
    region : Pos → Items → Block
    single : Item → Block

abbrev pub items : List Item → Items
items [] = no_items
items (x ∷ xs) = more_items x (items xs)

abbrev mutual
  pub depth : Item → ℕ
  depth (declaration attrs p d) = 0
  depth (integer attrs p names) = 0
  depth (genvar attrs p names) = 0
  depth (parameter attrs p kind ps) = 0
  depth (assign attrs p xs) = 0
  depth (always attrs p event s) = 0
  depth (initial attrs p s) = 0
  depth (instance attrs p x) = 0
  depth (generate attrs p mark) = 0
  depth (for_loop attrs p head b) = block_depth b + 1
  depth (if_only attrs p c a) = block_depth a + 1
  depth (if_else attrs p c a b) = max (block_depth a) (block_depth b) + 1

  pub items_depth : Items → ℕ
  items_depth no_items = 0
  items_depth (more_items x xs) = max (depth x) (items_depth xs)

  pub block_depth : Block → ℕ
  block_depth (begin p label xs) = items_depth xs
  block_depth (region p xs) = items_depth xs
  block_depth (single x) = depth x
