-- Between functions: Which refusal of a target or a statement is answered, part by part: what the functions that go
-- through it promise one another. Rule of this project.
use Rattle.std.specs.Prelude.{ℕ, List, [], ◌∷◌, ◌++◌, Bool, true, false, Option, Some, None}
use Rattle.fv_text.specs.declared.pos.Pos.{Pos}
use Rattle.vl_tree.specs.Expr.{Expr}
use Rattle.vl_tree.specs.Lval.{Lval, Lvals, named, joined, no_lvals, more_lvals}
use Rattle.vl_tree.specs.Stmt.{
  Stmt,
  Stmts,
  Arms,
  begin,
  if_only,
  if_else,
  case,
  assign,
  assume,
  empty,
  no_stmts,
  more_stmts,
  no_arms,
  labels,
  default,
}
use Rattle.vl_tree.specs.declared.stmt.Arm.{Arm}
use Rattle.vl_tree.specs.declared.stmt.Arm.TheVariants as a
use Rattle.vl_size.specs.declared.context.Context.{Context}
use Rattle.vl_size.specs.declared.decl.Class.{Class}
use Rattle.vl_mean.specs.Scopes.{is_clock_class}
use Rattle.vl_elab_spec.specs.declared.elab_fault.ElabFault.{ElabFault}
use Rattle.vl_elab_spec.specs.declared.elab_fault.ElabFault.TheVariants as f
use Rattle.vl_elab_spec.specs.Expressions.{refused_if, too_wide, expr_refusals, own_refusals}
use Rattle.vl_elab_spec.specs.Meanings.{Names}
use Rattle.vl_elab_spec.specs.Refused.{lower_of, lowest}
use Rattle.vl_elab_spec.specs.Statements.{target_refusals, target_width, assignment_refusals, with_label, case_context}

-- of a net or a variable that is assigned
abbrev pub object_assigned : Bool → Class → Pos → List ℕ → List ElabFault
object_assigned is_wrong c p text = refused_if (is_clock_class c) (f.Clock p) ++ refused_if is_wrong (f.Kind text p)

module _ (ns : List Names) where
  abbrev mutual
    pub target_fault : Bool → Bool → Lval → Option ElabFault
    target_fault continuous fixed (named p text ss) = lowest (target_refusals ns continuous fixed (named p text ss))
    target_fault continuous fixed (joined p ls) =
        lower_of (targets_fault continuous fixed ls) (lowest (too_wide p (target_width ns (joined p ls))))

    pub targets_fault : Bool → Bool → Lvals → Option ElabFault
    targets_fault continuous fixed no_lvals = None
    targets_fault continuous fixed (more_lvals l ls) =
        lower_of (target_fault continuous fixed l) (targets_fault continuous fixed ls)

  abbrev pub labels_fault : Context → List Expr → Option ElabFault
  labels_fault c [] = None
  labels_fault c (e ∷ es) = lower_of (lowest (expr_refusals ns false c e)) (labels_fault c es)

  abbrev mutual
    pub stmt_fault : Stmt → Option ElabFault
    stmt_fault (begin attrs p label xs) = stmts_fault xs
    stmt_fault (if_only attrs p e x) = lower_of (lowest (own_refusals ns false e)) (stmt_fault x)
    stmt_fault (if_else attrs p e x y) =
        lower_of (lower_of (lowest (own_refusals ns false e)) (stmt_fault x)) (stmt_fault y)
    stmt_fault (case attrs p kind e arms) =
        let c = case_context ns (with_label ns (record { size = Some 0; signed = true }) e) arms
        in lower_of (lowest (expr_refusals ns false c e)) (arms_fault c arms)
    stmt_fault (assign attrs p l kind e) = lowest (assignment_refusals ns false false false l e)
    stmt_fault (assume attrs p e) = lowest (own_refusals ns false e)
    stmt_fault (empty attrs p) = None

    pub stmts_fault : Stmts → Option ElabFault
    stmts_fault no_stmts = None
    stmts_fault (more_stmts x xs) = lower_of (stmt_fault x) (stmts_fault xs)

    pub arms_fault : Context → Arms → Option ElabFault
    arms_fault c no_arms = None
    arms_fault c (labels p es s arms) = lower_of (lower_of (labels_fault c es) (stmt_fault s)) (arms_fault c arms)
    arms_fault c (default p colon s arms) = lower_of (stmt_fault s) (arms_fault c arms)

  -- of one arm
  abbrev pub arm_fault : Context → Arm → Option ElabFault
  arm_fault c (a.Labels p es s) = lower_of (labels_fault c es) (stmt_fault s.value)
  arm_fault c (a.Default p colon s) = stmt_fault s.value

  abbrev mutual
    pub initial_fault : Stmt → Option ElabFault
    initial_fault (begin attrs p label xs) = all_initial_fault xs
    initial_fault (assign attrs p l kind e) = lowest (assignment_refusals ns false true true l e)
    initial_fault s = None

    pub all_initial_fault : Stmts → Option ElabFault
    all_initial_fault no_stmts = None
    all_initial_fault (more_stmts x xs) = lower_of (initial_fault x) (all_initial_fault xs)
