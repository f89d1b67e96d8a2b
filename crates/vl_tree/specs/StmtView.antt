-- Between functions: What a contract sees of a statement of the program: the plain tree, without its pointers. Rule of
-- this project.
use Rattle.std.specs.Prelude.{List, [], ◌∷◌, Some, None}
use Rattle.fv_text.specs.declared.pos.Pos.{Pos}
use Rattle.vl_tree.specs.declared.stmt.StmtKind.{StmtKind}
use Rattle.vl_tree.specs.declared.stmt.StmtKind.TheVariants as k
use Rattle.vl_tree.specs.declared.stmt.Arm.{Arm}
use Rattle.vl_tree.specs.declared.stmt.Arm.TheVariants as a
use Rattle.vl_tree.specs.Attributes.{Attributes}
use Rattle.vl_tree.specs.Stmt.{
  Stmt,
  Arms,
  begin,
  if_only,
  if_else,
  case,
  assign,
  assume,
  empty,
  no_arms,
  labels,
  default,
  stmts,
}

abbrev pub with_arm : Arm → Arms → Arms
with_arm (a.Labels p es s) rest = labels p es s.value rest
with_arm (a.Default p colon s) rest = default p colon s.value rest

abbrev pub arms : List Arm → Arms
arms [] = no_arms
arms (x ∷ xs) = with_arm x (arms xs)

abbrev pub shown : Attributes → Pos → StmtKind → Stmt
shown attrs p (k.Begin label ss) = begin attrs p label (stmts ss)
shown attrs p (k.If c first None) = if_only attrs p c first.value
shown attrs p (k.If c first (Some second)) = if_else attrs p c first.value second.value
shown attrs p (k.Case kind e xs) = case attrs p kind e (arms xs)
shown attrs p (k.Assign l kind e) = assign attrs p l kind e
shown attrs p (k.Assume e) = assume attrs p e
shown attrs p k.Empty = empty attrs p
