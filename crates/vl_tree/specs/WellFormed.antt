-- Meaning: Well formed items, modules and sources: names are names, an `else` belongs to the nearest `if`, both names
-- in the head of a loop are equal, each region ends in the list that it begins in, and each list has an element where
-- the grammar wants one. IEEE 1364-2005, sections 12.4 and A.1 to A.4.
use Rattle.std.specs.Prelude.{◌≡◌, ℕ, suc, All, Bool, true, false, List, [], ◌∷◌, Option, Some, None}
use Rattle.fv_text.specs.declared.pos.Pos.{Pos}
use Rattle.vl_tree.specs.declared.declaration.Declaration.{Declaration}
use Rattle.vl_tree.specs.declared.declaration.HeaderParameter.{HeaderParameter}
use Rattle.vl_tree.specs.declared.declaration.Port.{Port}
use Rattle.vl_tree.specs.declared.item.RegionMark.{RegionMark}
use Rattle.vl_tree.specs.declared.item.RegionMark.TheVariants as mark
use Rattle.vl_tree.specs.declared.part.Assignment.{Assignment}
use Rattle.vl_tree.specs.declared.part.Connection.{Connection}
use Rattle.vl_tree.specs.declared.part.EventKind.{EventKind}
use Rattle.vl_tree.specs.declared.part.EventKind.TheVariants as e
use Rattle.vl_tree.specs.declared.part.Instance.{Instance}
use Rattle.vl_tree.specs.declared.part.LoopHead.{LoopHead}
use Rattle.vl_tree.specs.declared.source.Module.{Module}
use Rattle.vl_tree.specs.declared.source.Source.{Source}
use Rattle.vl_tree.specs.Attributes.{Attributes}
use Rattle.vl_tree.specs.DeclarationWellFormed.{
  AreAttributes,
  AreSome,
  AreHeaderParameters,
  ArePorts,
  IsDeclaredName,
  IsParameter,
  IsShape,
}
use Rattle.vl_tree.specs.ExprWellFormed as expr
use Rattle.vl_tree.specs.ExprWellFormed.{IsName, IsValue}
use Rattle.vl_tree.specs.LvalWellFormed as lval
use Rattle.vl_tree.specs.StmtWellFormed as stmt
use Rattle.vl_tree.specs.StmtWellFormed.{IsOptionalName}
use Rattle.vl_tree.specs.Item.{
  Item,
  Items,
  Block,
  declaration,
  integer,
  genvar,
  parameter,
  assign,
  always,
  initial,
  instance,
  generate,
  for_loop,
  if_only,
  if_else,
  no_items,
  more_items,
  begin,
  region,
  single,
  items,
}

abbrev pub IsDeclaration : Declaration → Type 0
IsDeclaration d = IsShape d.shape × AreSome IsDeclaredName d.names

abbrev pub IsAssignment : Assignment → Type 0
IsAssignment x = lval.IsWellFormed x.target × expr.IsWellFormed x.value

abbrev pub IsEvent : EventKind → Type 0
IsEvent (e.Posedge name) = IsName name
IsEvent kind = Unit {0}

abbrev pub IsConnection : Connection → Type 0
IsConnection x = IsName x.port × IsValue x.value

abbrev pub AreOverrides : Option (List Connection) → Type 0
AreOverrides None = Unit {0}
AreOverrides (Some xs) = All IsConnection xs

abbrev pub IsInstance : Instance → Type 0
IsInstance x = IsName x.definition × AreOverrides x.overrides × IsName x.name × All IsConnection x.connections

abbrev pub IsHead : LoopHead → Type 0
IsHead x =
    IsName x.variable × (x.next_variable ≡ x.variable) × expr.IsWellFormed x.start × expr.IsWellFormed x.condition
    × expr.IsWellFormed x.next

abbrev pub attributes_of : Item → Attributes
attributes_of (declaration attrs p d) = attrs
attributes_of (integer attrs p xs) = attrs
attributes_of (genvar attrs p xs) = attrs
attributes_of (parameter attrs p kind xs) = attrs
attributes_of (assign attrs p xs) = attrs
attributes_of (always attrs p event x) = attrs
attributes_of (initial attrs p x) = attrs
attributes_of (instance attrs p x) = attrs
attributes_of (generate attrs p mark) = attrs
attributes_of (for_loop attrs p head b) = attrs
attributes_of (if_only attrs p c b) = attrs
attributes_of (if_else attrs p c b d) = attrs

abbrev pub mark_of : Item → Option RegionMark
mark_of (generate attrs p mark) = Some mark
mark_of x = None

-- how many regions are open behind a mark, where so many are before it; None from where one is ended that isn't open
abbrev pub open_behind_mark : Option RegionMark → Option ℕ → Option ℕ
open_behind_mark None n = n
open_behind_mark (Some mark.Open) None = None
open_behind_mark (Some mark.Open) (Some n) = Some (suc n)
open_behind_mark (Some mark.Close) (Some (suc n)) = Some n
open_behind_mark (Some mark.Close) n = None

abbrev pub open_behind : Items → Option ℕ → Option ℕ
open_behind no_items n = n
open_behind (more_items x xs) n = open_behind xs (open_behind_mark (mark_of x) n)

-- each region that begins in the list ends in it
abbrev pub AreBalanced : Items → Type 0
AreBalanced xs = open_behind xs (Some 0) ≡ Some 0

-- no attributes stand in front of `endgenerate`
abbrev pub IsMarked : RegionMark → Attributes → Type 0
IsMarked mark.Open attrs = Unit {0}
IsMarked mark.Close attrs = attrs ≡ []

-- an `else` behind it would belong to an `if` in it
abbrev mutual
  pub ends_open : Item → Bool
  ends_open (always attrs p event x) = stmt.ends_open x
  ends_open (for_loop attrs p head b) = block_ends_open b
  ends_open (if_only attrs p c b) = true
  ends_open (if_else attrs p c b d) = block_ends_open d
  ends_open x = false

  pub block_ends_open : Block → Bool
  block_ends_open (begin p label xs) = false
  block_ends_open (region p xs) = false
  block_ends_open (single x) = ends_open x

abbrev mutual
  pub IsWellFormed : Item → Type 0
  IsWellFormed (declaration attrs p d) = AreAttributes attrs × IsDeclaration d
  IsWellFormed (integer attrs p xs) = AreAttributes attrs × AreSome IsDeclaredName xs
  IsWellFormed (genvar attrs p xs) = AreAttributes attrs × AreSome IsName xs
  IsWellFormed (parameter attrs p kind xs) = AreAttributes attrs × AreSome IsParameter xs
  IsWellFormed (assign attrs p xs) = AreAttributes attrs × AreSome IsAssignment xs
  IsWellFormed (always attrs p event x) = AreAttributes attrs × IsEvent event.kind × stmt.IsWellFormed x
  IsWellFormed (initial attrs p x) = AreAttributes attrs × stmt.IsInitial x × stmt.IsWellFormed x
  IsWellFormed (instance attrs p x) = AreAttributes attrs × IsInstance x
  IsWellFormed (generate attrs p mark) = AreAttributes attrs × IsMarked mark attrs
  IsWellFormed (for_loop attrs p head b) = AreAttributes attrs × IsHead head × IsBlock b
  IsWellFormed (if_only attrs p c b) = AreAttributes attrs × expr.IsWellFormed c × IsBlock b
  IsWellFormed (if_else attrs p c b d) =
      AreAttributes attrs × expr.IsWellFormed c × (block_ends_open b ≡ false) × IsBlock b × IsBlock d

  pub AreWellFormed : Items → Type 0
  AreWellFormed no_items = Unit {0}
  AreWellFormed (more_items x xs) = IsWellFormed x × AreWellFormed xs

  -- no attributes stand before the one item of a block without `begin`, and it is no mark
  pub IsBlock : Block → Type 0
  IsBlock (begin p label xs) = IsOptionalName label × AreBalanced xs × AreWellFormed xs
  IsBlock (region p xs) = AreBalanced xs × AreWellFormed xs
  IsBlock (single x) = (attributes_of x ≡ []) × (mark_of x ≡ None) × IsWellFormed x

abbrev pub AreOptionalParameters : Option (List HeaderParameter) → Type 0
AreOptionalParameters None = Unit {0}
AreOptionalParameters (Some xs) = AreHeaderParameters xs

abbrev pub AreOptionalPorts : Option (List Port) → Type 0
AreOptionalPorts None = Unit {0}
AreOptionalPorts (Some xs) = ArePorts xs

abbrev pub IsModule : Module → Type 0
IsModule m = IsName m.name × AreOptionalParameters m.parameters × AreOptionalPorts m.ports
    × AreBalanced (items m.items)
    × AreWellFormed (items m.items)

-- a source without modules has the place 1:1 of file 1
abbrev pub HasPlace : Pos → List Module → Type 0
HasPlace p [] = p ≡ record { file = 1; line = 1; col = 1 }
HasPlace p (m ∷ ms) = Unit {0}

abbrev pub IsSource : Source → Type 0
IsSource x = HasPlace x.pos x.modules × All IsModule x.modules
