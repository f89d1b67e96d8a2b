-- Between functions: That what a design without hierarchy keeps is a fact: it has at most one proof. Rule of this
-- project.
use Rattle.std.specs.Prelude.{Bool, false, List, Option, None, Some, ℤ}
use Rattle.std.specs.Coded.{×_prop, Unit-prop, le_prop}
use Rattle.std.proofs.Props.{props}
use Rattle.vl_tree.specs.Expr.{Expr}
use Rattle.vl_tree.specs.Lval.{Lval, Lvals, named, joined, no_lvals, more_lvals}
use Rattle.vl_tree.specs.Stmt.{
  Stmt,
  Stmts,
  Arms,
  begin,
  if_only,
  if_else,
  case,
  assign,
  assume,
  empty,
  no_stmts,
  more_stmts,
  no_arms,
  labels,
  default,
}
use Rattle.vl_size.specs.declared.context.Context.{Context}
use Rattle.vl_size.specs.declared.decl.Decl.{Decl}
use Rattle.vl_mean.specs.declared.driver.Driver.{Driver}
use Rattle.vl_mean.specs.declared.driver.DriverKind.{DriverKind}
use Rattle.vl_mean.specs.declared.driver.DriverKind.TheVariants as k
use Rattle.vl_mean.specs.declared.driver.Start.{Start}
use Rattle.vl_mean.specs.FlatLaw.{IsMemory, IsReadIn, IsTarget, AreTargets, IsAssigned, IsBlock, AreBlocks, AreArms}
use Rattle.vl_mean.specs.FlatLaw.{IsDriver, IsLawful, is_variable}

is_memory_prop : (words : Option (ℤ × ℤ)) (d : Decl) → IsProp (IsMemory words d)
is_memory_prop None d = Unit-prop
is_memory_prop (Some bounds) d = hlevel props

module _ (ds : List Decl) where
  read_prop : (c : Context) (e : Expr) → IsProp (IsReadIn ds c e)
  read_prop c e = hlevel props

  mutual
    target_prop : (may : Decl → Bool) (fixed : Bool) (l : Lval) → IsProp (IsTarget ds may fixed l)
    target_prop may fixed (named p text ss) = hlevel props
    target_prop may fixed (joined p ls) = targets_prop may fixed ls

    targets_prop : (may : Decl → Bool) (fixed : Bool) (ls : Lvals) → IsProp (AreTargets ds may fixed ls)
    targets_prop may fixed no_lvals = Unit-prop
    targets_prop may fixed (more_lvals l ls) = ×_prop (target_prop may fixed l) (targets_prop may fixed ls)

  assigned_prop : (may : Decl → Bool) (fixed : Bool) (l : Lval) → IsProp (IsAssigned ds may fixed l)
  assigned_prop may fixed l = ×_prop (target_prop may fixed l) le_prop

  mutual
    block_prop : (s : Stmt) → IsProp (IsBlock ds s)
    block_prop (begin attrs p label xs) = blocks_prop xs
    block_prop (if_only attrs p e x) = ×_prop (read_prop _ e) (block_prop x)
    block_prop (if_else attrs p e x y) = ×_prop (read_prop _ e) (×_prop (block_prop x) (block_prop y))
    block_prop (case attrs p kind e arms) = ×_prop (read_prop _ e) (×_prop le_prop (arms_prop _ arms))
    block_prop (assign attrs p l kind e) = ×_prop (assigned_prop is_variable false l) (read_prop _ e)
    block_prop (assume attrs p e) = read_prop _ e
    block_prop (empty attrs p) = Unit-prop

    blocks_prop : (xs : Stmts) → IsProp (AreBlocks ds xs)
    blocks_prop no_stmts = Unit-prop
    blocks_prop (more_stmts x xs) = ×_prop (block_prop x) (blocks_prop xs)

    arms_prop : (c : Context) (arms : Arms) → IsProp (AreArms ds c arms)
    arms_prop c no_arms = Unit-prop
    arms_prop c (labels p es x arms) = ×_prop (hlevel props) (×_prop (block_prop x) (arms_prop c arms))
    arms_prop c (default p colon x arms) = ×_prop (block_prop x) (arms_prop c arms)

  driver_prop : (what : DriverKind) → IsProp (IsDriver ds what)
  driver_prop (k.Assign l e) = ×_prop (assigned_prop _ _ l) (read_prop _ e)
  driver_prop (k.Comb s) = block_prop s
  driver_prop (k.Clocked s) = block_prop s

pub lawful_prop : (ds : List Decl) (drivers : List Driver) (starts : List Start) → IsProp (IsLawful ds drivers starts)
lawful_prop ds drivers starts = hlevel (props, is_memory_prop, driver_prop, assigned_prop)
