-- Between functions: What the public calls promise. What a statement leaves behind it. IEEE 1364-2005, section 9.4.
use Rattle.std.specs.Prelude.{◌≡◌, true, List}
use Rattle.fv_text.specs.declared.kind.Kind.{Kind}
use Rattle.fv_text.specs.declared.kind.Kind.TheVariants as k
use Rattle.fv_text.specs.declared.keyword.Keyword.TheVariants as w
use Rattle.vl_tree.specs.Stmt.{Stmt}
use Rattle.vl_tree.specs.StmtWellFormed.{ends_open}
use Rattle.vl_parse_cursor.specs.Next.{IsOther}

-- no `else` comes next that would belong to an `if` in it
abbrev pub LeavesElse : Stmt → List Kind → Type 0
LeavesElse x ts = ends_open x ≡ true → IsOther (k.Keyword w.Else) ts
