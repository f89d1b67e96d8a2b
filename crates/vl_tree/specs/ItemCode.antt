-- Between functions: A code for items: each is written as a tree with labels, and read back. Rule of this project.
use Rattle.std.specs.Prelude.{◌≡◌, refl, ℕ, List, [], Option, None, ◌⊎◌}
use Rattle.std.specs.Coded.{Coded, code_by, coded_ℕ, coded_list, coded_option, coded×, coded⊎}
use Rattle.std.proofs.Common.{inl, inr}
use base.Stored.{coded_unit}
use Rattle.fv_text.specs.Rose.{Rose, Roses, node, coded_rose}
use Rattle.fv_text.specs.Rose as r
use Rattle.fv_text.specs.declared.pos.Pos.{Pos}
use Rattle.fv_text.specs.contracts.pos.Pos as pos
use Rattle.vl_tree.specs.declared.declaration.Declaration.{Declaration}
use Rattle.vl_tree.specs.contracts.declaration.Declaration as declarations
use Rattle.vl_tree.specs.declared.declaration.DeclaredName.{DeclaredName}
use Rattle.vl_tree.specs.contracts.declaration.DeclaredName as names
use Rattle.vl_tree.specs.declared.declaration.Parameter.{Parameter}
use Rattle.vl_tree.specs.contracts.declaration.Parameter as parameters
use Rattle.vl_tree.specs.declared.declaration.ParameterKind.{ParameterKind}
use Rattle.vl_tree.specs.contracts.declaration.ParameterKind as kinds
use Rattle.vl_tree.specs.declared.item.RegionMark.{RegionMark}
use Rattle.vl_tree.specs.contracts.item.RegionMark as marks
use Rattle.vl_tree.specs.declared.part.Assignment.{Assignment}
use Rattle.vl_tree.specs.contracts.part.Assignment as assignments
use Rattle.vl_tree.specs.declared.part.Event.{Event}
use Rattle.vl_tree.specs.contracts.part.Event as events
use Rattle.vl_tree.specs.declared.part.Instance.{Instance}
use Rattle.vl_tree.specs.contracts.part.Instance as instances
use Rattle.vl_tree.specs.declared.part.LoopHead.{LoopHead}
use Rattle.vl_tree.specs.contracts.part.LoopHead as heads
use Rattle.vl_tree.specs.Attributes.{Attributes, attributes_code}
use Rattle.vl_tree.specs.Expr.{Expr}
use Rattle.vl_tree.specs.ExprCode.{expr_code}
use Rattle.vl_tree.specs.Stmt.{Stmt}
use Rattle.vl_tree.specs.StmtCode.{stmt_code}
use Rattle.vl_tree.specs.Item.{
  Item,
  Items,
  Block,
  declaration,
  integer,
  genvar,
  parameter,
  assign,
  always,
  initial,
  instance,
  generate,
  for_loop,
  if_only,
  if_else,
  no_items,
  more_items,
  begin,
  region,
  single,
}

-- what an item that holds no items has: a declaration, or something else
abbrev Declared : Type 0
Declared = Declaration ⊎ (List DeclaredName ⊎ (List (List ℕ) ⊎ (ParameterKind × List Parameter)))

abbrev Leaf : Type 0
Leaf = List Assignment ⊎ ((Event × Stmt) ⊎ (Stmt ⊎ (Instance ⊎ RegionMark)))

-- what an item that holds blocks has besides them: a loop or an `if`
abbrev Around : Type 0
Around = LoopHead ⊎ Expr

-- of an item, or of a block
abbrev Label : Type 0
Label = (Attributes × (Pos × (Declared ⊎ (Leaf ⊎ Around))))
    ⊎ ((Pos × Option (List ℕ)) ⊎ (Pos ⊎ Unit {0}))

abbrev declared_code : Coded Declared
declared_code = coded⊎ declarations.the_row.coded (coded⊎ (coded_list names.the_row.coded)
    (coded⊎ (coded_list (coded_list coded_ℕ)) (coded× kinds.the_row.coded (coded_list parameters.the_row.coded))))

abbrev leaf_code : Coded Leaf
leaf_code = coded⊎ (coded_list assignments.the_row.coded) (coded⊎ (coded× events.the_row.coded stmt_code)
    (coded⊎ stmt_code (coded⊎ instances.the_row.coded marks.the_row.coded)))

abbrev around_code : Coded Around
around_code = coded⊎ heads.the_row.coded expr_code

abbrev label_code : Coded Label
label_code =
    coded⊎ (coded× attributes_code (coded× pos.the_row.coded
    (coded⊎ declared_code (coded⊎ leaf_code around_code))))
    (coded⊎ (coded× pos.the_row.coded (coded_option (coded_list coded_ℕ))) (coded⊎ pos.the_row.coded coded_unit))

abbrev one : Rose Label → Roses Label
one a = r.more a r.none

abbrev declared : Attributes → Pos → Declared → Rose Label
declared attrs p d = node (inl (attrs, (p, inl d))) r.none

abbrev leaf : Attributes → Pos → Leaf → Rose Label
leaf attrs p x = node (inl (attrs, (p, inr (inl x)))) r.none

abbrev around : Attributes → Pos → Around → Roses Label → Rose Label
around attrs p x ts = node (inl (attrs, (p, inr (inr x)))) ts

abbrev mutual
  to : Item → Rose Label
  to (declaration attrs p d) = declared attrs p (inl d)
  to (integer attrs p xs) = declared attrs p (inr (inl xs))
  to (genvar attrs p xs) = declared attrs p (inr (inr (inl xs)))
  to (parameter attrs p kind xs) = declared attrs p (inr (inr (inr (kind, xs))))
  to (assign attrs p xs) = leaf attrs p (inl xs)
  to (always attrs p event s) = leaf attrs p (inr (inl (event, s)))
  to (initial attrs p s) = leaf attrs p (inr (inr (inl s)))
  to (instance attrs p x) = leaf attrs p (inr (inr (inr (inl x))))
  to (generate attrs p mark) = leaf attrs p (inr (inr (inr (inr mark))))
  to (for_loop attrs p head b) = around attrs p (inl head) (one (to_block b))
  to (if_only attrs p c a) = around attrs p (inr c) (one (to_block a))
  to (if_else attrs p c a b) = around attrs p (inr c) (r.more (to_block a) (one (to_block b)))

  to_items : Items → Roses Label
  to_items no_items = r.none
  to_items (more_items x xs) = r.more (to x) (to_items xs)

  to_block : Block → Rose Label
  to_block (begin p label xs) = node (inr (inl (p, label))) (to_items xs)
  to_block (region p xs) = node (inr (inr (inl p))) (to_items xs)
  to_block (single x) = node (inr (inr (inr tt))) (one (to x))

abbrev back_declared : Attributes → Pos → Declared → Item
back_declared attrs p (inl d) = declaration attrs p d
back_declared attrs p (inr (inl xs)) = integer attrs p xs
back_declared attrs p (inr (inr (inl xs))) = genvar attrs p xs
back_declared attrs p (inr (inr (inr (kind, xs)))) = parameter attrs p kind xs

abbrev back_leaf : Attributes → Pos → Leaf → Item
back_leaf attrs p (inl xs) = assign attrs p xs
back_leaf attrs p (inr (inl (event, s))) = always attrs p event s
back_leaf attrs p (inr (inr (inl s))) = initial attrs p s
back_leaf attrs p (inr (inr (inr (inl x)))) = instance attrs p x
back_leaf attrs p (inr (inr (inr (inr mark)))) = generate attrs p mark

abbrev mutual
  back : Rose Label → Item
  back (node (inl (attrs, (p, inl d))) ts) = back_declared attrs p d
  back (node (inl (attrs, (p, inr (inl x)))) ts) = back_leaf attrs p x
  back (node (inl (attrs, (p, inr (inr (inl head))))) (r.more b ts)) = for_loop attrs p head (back_block b)
  back (node (inl (attrs, (p, inr (inr (inr c))))) (r.more a r.none)) = if_only attrs p c (back_block a)
  back (node (inl (attrs, (p, inr (inr (inr c))))) (r.more a (r.more b ts))) =
      if_else attrs p c (back_block a) (back_block b)
  back t = genvar [] (record { file = 0; line = 0; col = 0 }) []

  backs : Roses Label → Items
  backs r.none = no_items
  backs (r.more t ts) = more_items (back t) (backs ts)

  back_block : Rose Label → Block
  back_block (node (inr (inl (p, label))) ts) = begin p label (backs ts)
  back_block (node (inr (inr (inl p))) ts) = region p (backs ts)
  back_block (node (inr (inr (inr u))) (r.more x ts)) = single (back x)
  back_block t = begin (record { file = 0; line = 0; col = 0 }) None no_items

mutual
  pub back-to : (x : Item) → back (to x) ≡ x
  back-to (declaration attrs p d) = refl
  back-to (integer attrs p xs) = refl
  back-to (genvar attrs p xs) = refl
  back-to (parameter attrs p kind xs) = refl
  back-to (assign attrs p xs) = refl
  back-to (always attrs p event s) = refl
  back-to (initial attrs p s) = refl
  back-to (instance attrs p x) = refl
  back-to (generate attrs p mark) = refl
  back-to (for_loop attrs p head b) = λ i. for_loop attrs p head (back_block-to b i)
  back-to (if_only attrs p c a) = λ i. if_only attrs p c (back_block-to a i)
  back-to (if_else attrs p c a b) = λ i. if_else attrs p c (back_block-to a i) (back_block-to b i)

  pub backs-to : (xs : Items) → backs (to_items xs) ≡ xs
  backs-to no_items = refl
  backs-to (more_items x xs) = λ i. more_items (back-to x i) (backs-to xs i)

  pub back_block-to : (b : Block) → back_block (to_block b) ≡ b
  back_block-to (begin p label xs) = λ i. begin p label (backs-to xs i)
  back_block-to (region p xs) = λ i. region p (backs-to xs i)
  back_block-to (single x) = λ i. single (back-to x i)

abbrev pub item_code : Coded Item
item_code = code_by (Rose Label) (coded_rose label_code) to back back-to
