-- Meaning: Well formed statements: an `else` belongs to the nearest `if`, a case has one default at most, and wild
-- bits stand in labels of a `casez` alone. IEEE 1364-2005, sections 9.4, 9.5 and A.6.
use Rattle.std.specs.Prelude.{◌≡◌, ℕ, ◌+◌, ◌≤◌, Bool, true, false, List, [], Option, Some, None}
use Rattle.vl_tree.specs.declared.stmt.CaseKind.{CaseKind}
use Rattle.vl_tree.specs.declared.stmt.CaseKind.TheVariants as c
use Rattle.vl_tree.specs.declared.stmt.AssignKind.TheVariants as a
use Rattle.vl_tree.specs.DeclarationWellFormed.{AreAttributes, AreSome}
use Rattle.vl_tree.specs.Expr.{Expr, number}
use Rattle.vl_tree.specs.ExprWellFormed as expr
use Rattle.vl_tree.specs.ExprWellFormed.{IsName}
use Rattle.vl_tree.specs.LvalWellFormed as lval
use Rattle.vl_tree.specs.Stmt.{
  Stmt,
  Stmts,
  Arms,
  begin,
  if_only,
  if_else,
  case,
  assign,
  assume,
  empty,
  no_stmts,
  more_stmts,
  no_arms,
  labels,
  default,
}

-- an `else` behind the statement would belong to an `if` in it
abbrev pub ends_open : Stmt → Bool
ends_open (if_only attrs p e x) = true
ends_open (if_else attrs p e x y) = ends_open y
ends_open x = false

abbrev pub default_count : Arms → ℕ
default_count no_arms = 0
default_count (labels p es x arms) = default_count arms
default_count (default p colon x arms) = default_count arms + 1

abbrev pub AreArmsSome : Arms → Type 0
AreArmsSome no_arms = ⊥
AreArmsSome arms = Unit {0}

-- an expression, or in a `casez` a number without unknown bits
abbrev pub IsLabel : CaseKind → Expr → Type 0
IsLabel c.Casez (number p n) = n.unknown ≡ 0
IsLabel kind e = expr.IsWellFormed e

abbrev pub IsOptionalName : Option (List ℕ) → Type 0
IsOptionalName None = Unit {0}
IsOptionalName (Some text) = IsName text

abbrev mutual
  pub IsWellFormed : Stmt → Type 0
  IsWellFormed (begin attrs p label xs) = AreAttributes attrs × IsOptionalName label × AreWellFormed xs
  IsWellFormed (if_only attrs p e x) = AreAttributes attrs × expr.IsWellFormed e × IsWellFormed x
  IsWellFormed (if_else attrs p e x y) =
      AreAttributes attrs × expr.IsWellFormed e × (ends_open x ≡ false) × IsWellFormed x × IsWellFormed y
  IsWellFormed (case attrs p kind e arms) =
      AreAttributes attrs × expr.IsWellFormed e × AreArmsSome arms × (default_count arms ≤ 1) × AreArms kind arms
  IsWellFormed (assign attrs p l kind e) = AreAttributes attrs × lval.IsWellFormed l × expr.IsWellFormed e
  IsWellFormed (assume attrs p e) = AreAttributes attrs × expr.IsWellFormed e
  IsWellFormed (empty attrs p) = AreAttributes attrs

  pub AreWellFormed : Stmts → Type 0
  AreWellFormed no_stmts = Unit {0}
  AreWellFormed (more_stmts x xs) = IsWellFormed x × AreWellFormed xs

  pub AreArms : CaseKind → Arms → Type 0
  AreArms kind no_arms = Unit {0}
  AreArms kind (labels p es x arms) = AreSome (λ e. IsLabel kind e) es × IsWellFormed x × AreArms kind arms
  AreArms kind (default p colon x arms) = IsWellFormed x × AreArms kind arms

-- what may stand behind `initial`: a blocking assignment, or a block of such without label, and no attributes
abbrev mutual
  pub IsInitial : Stmt → Type 0
  IsInitial (begin attrs p label xs) = (attrs ≡ []) × (label ≡ None) × AreInitial xs
  IsInitial (assign attrs p l kind e) = (attrs ≡ []) × (kind ≡ a.Blocking)
  IsInitial x = ⊥

  pub AreInitial : Stmts → Type 0
  AreInitial no_stmts = Unit {0}
  AreInitial (more_stmts x xs) = IsInitial x × AreInitial xs
