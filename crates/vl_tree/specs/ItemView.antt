-- Between functions: What a contract sees of an item of the program: the plain tree, without its pointers. Rule of
-- this project.
use Rattle.std.specs.Prelude.{Some, None}
use Rattle.fv_text.specs.declared.pos.Pos.{Pos}
use Rattle.vl_tree.specs.declared.item.ItemKind.{ItemKind}
use Rattle.vl_tree.specs.declared.item.ItemKind.TheVariants as k
use Rattle.vl_tree.specs.declared.item.Block as declared
use Rattle.vl_tree.specs.declared.item.Block.TheVariants as b
use Rattle.vl_tree.specs.Attributes.{Attributes}
use Rattle.vl_tree.specs.Item.{
  Item,
  Block,
  declaration,
  integer,
  genvar,
  parameter,
  assign,
  always,
  initial,
  instance,
  generate,
  for_loop,
  if_only,
  if_else,
  begin,
  region,
  single,
  items,
}

abbrev pub block : declared.Block → Block
block (b.Begin p label xs) = begin p label (items xs)
block (b.Region p xs) = region p (items xs)
block (b.Single x) = single x.value

abbrev pub shown : Attributes → Pos → ItemKind → Item
shown attrs p (k.Declaration d) = declaration attrs p d
shown attrs p (k.Integer names) = integer attrs p names
shown attrs p (k.Genvar names) = genvar attrs p names
shown attrs p (k.Parameter kind ps) = parameter attrs p kind ps
shown attrs p (k.Assign xs) = assign attrs p xs
shown attrs p (k.Always event s) = always attrs p event s
shown attrs p (k.Initial s) = initial attrs p s
shown attrs p (k.Instance x) = instance attrs p x
shown attrs p (k.Generate mark) = generate attrs p mark
shown attrs p (k.For head body) = for_loop attrs p head (block body)
shown attrs p (k.If c first None) = if_only attrs p c (block first)
shown attrs p (k.If c first (Some second)) = if_else attrs p c (block first) (block second)
