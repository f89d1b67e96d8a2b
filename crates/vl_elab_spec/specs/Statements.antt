-- Meaning: Where targets and statements are refused, and why. IEEE 1364-2005, sections 6.1, 6.2, 9.2 and 9.5; that the
-- clock, inputs and names that are free aren't assigned, and the limits, are rules of this project.
use Rattle.std.specs.Prelude.{
  ℕ,
  ◌+◌,
  List,
  [],
  ◌∷◌,
  ◌++◌,
  Bool,
  true,
  false,
  ◌&&◌,
  ◌||◌,
  not,
  nat_le,
  Option,
  Some,
  None,
  if◌then◌else◌,
}
use Rattle.fv_text.specs.declared.pos.Pos.{Pos}
use Rattle.vl_tree.specs.Expr.{Expr}
use Rattle.vl_tree.specs.Lval.{Lval, Lvals, named, joined, no_lvals, more_lvals}
use Rattle.vl_tree.specs.Stmt.{
  Stmt,
  Stmts,
  Arms,
  begin,
  if_only,
  if_else,
  case,
  assign,
  assume,
  empty,
  no_stmts,
  more_stmts,
  no_arms,
  labels,
  default,
}
use Rattle.vl_size.specs.declared.context.Context.{Context}
use Rattle.vl_size.specs.declared.decl.Class.{Class}
use Rattle.vl_size.specs.declared.decl.Class.TheVariants as class
use Rattle.vl_size.specs.Divisors.{larger, selects_zero_divisor}
use Rattle.vl_size.specs.Sign.{sign}
use Rattle.vl_size.specs.Size.{◌>>=◌, size}
use Rattle.vl_mean.specs.ConstantFaults.{capped}
use Rattle.vl_mean.specs.Constants.{settled_selects, vector_of}
use Rattle.vl_mean.specs.Scopes.{is_clock_class}
use Rattle.vl_elab_spec.specs.declared.elab_fault.ElabFault.{ElabFault}
use Rattle.vl_elab_spec.specs.declared.elab_fault.ElabFault.TheVariants as f
use Rattle.vl_elab_spec.specs.Expressions.{refused_if, name_width, too_wide, object_selects, select_refusals}
use Rattle.vl_elab_spec.specs.Expressions.{divided_by_zero, is_constant_name, vector_selects}
use Rattle.vl_elab_spec.specs.Expressions.{expr_refusals, own_refusals, known}
use Rattle.vl_elab_spec.specs.Meanings.{Meaning, undeclared, constant, loop_variable, object, faulty, shapeless, later}
use Rattle.vl_elab_spec.specs.Meanings.{Names, meaning_in, constants, is_input, objects}

-- by a continuous assignment, or by one of a block
abbrev pub may_be_assigned : Bool → Class → Bool
may_be_assigned true class.Net = true
may_be_assigned false class.Variable = true
may_be_assigned continuous c = false

-- the larger of both sizes; that of a target of more than 128 bits, which is refused, doesn't count
abbrev pub widened : Option ℕ → Option ℕ → Option ℕ
widened None n = None
widened (Some m) n = if nat_le m 128 then larger (Some m) n else n

module _ (ns : List Names) where
  -- ---- targets; their indices are constant where they have to be

  abbrev pub assigned_refusals : Bool → Pos → List ℕ → Meaning → List ElabFault
  assigned_refusals continuous p text undeclared = f.Unknown text p ∷ []
  assigned_refusals continuous p text loop_variable = f.Kind text p ∷ []
  assigned_refusals continuous p text (constant c selected) = f.Kind text p ∷ []
  assigned_refusals continuous p text faulty = []
  assigned_refusals continuous p text shapeless = []
  assigned_refusals continuous p text later = []
  assigned_refusals continuous p text (object d role scalar) =
      refused_if (is_clock_class d.class) (f.Clock p)
      ++ refused_if (is_input role || not (may_be_assigned continuous d.class)) (f.Kind text p)

  abbrev pub target_selects : Pos → Meaning → Lval → List ElabFault
  target_selects p (object d role scalar) (named q text ss) = object_selects ns p scalar d ss
  target_selects p (constant c selected) (named q text ss) = vector_selects ns selected (vector_of text c) ss
  target_selects p m l = []

  abbrev mutual
    pub target_width : Lval → Option ℕ
    target_width (named p text ss) = name_width ns text (meaning_in ns text) ss
    target_width (joined p ls) = targets_width ls

    pub targets_width : Lvals → Option ℕ
    targets_width no_lvals = Some 0
    targets_width (more_lvals l ls) = target_width l >>= λ m. targets_width ls >>= λ n. Some (capped (m + n))

  abbrev mutual
    pub target_refusals : Bool → Bool → Lval → List ElabFault
    target_refusals continuous fixed (named p text ss) =
        let m = meaning_in ns text in
        select_refusals ns (fixed || is_constant_name ns m) ss ++ divided_by_zero
        (selects_zero_divisor (objects ns) (settled_selects (constants ns) ss))
        ++ assigned_refusals continuous p text m ++ target_selects p m (named p text ss)
        ++ too_wide p (target_width (named p text ss))
    target_refusals continuous fixed (joined p ls) =
        targets_refusals continuous fixed ls ++ too_wide p (target_width (joined p ls))

    pub targets_refusals : Bool → Bool → Lvals → List ElabFault
    targets_refusals continuous fixed no_lvals = []
    targets_refusals continuous fixed (more_lvals l ls) =
        target_refusals continuous fixed l ++ targets_refusals continuous fixed ls

  -- ---- contexts

  -- the larger of both sizes, with the sign of the right side: section 5.4
  abbrev pub assigned_in : Option ℕ → Expr → Context
  assigned_in m e = record {
    size = widened m (size (objects ns) (known ns e));
    signed = sign (objects ns) (known ns e);
  }

  abbrev pub assignment_refusals : Bool → Bool → Bool → Lval → Expr → List ElabFault
  assignment_refusals continuous fixed_target fixed_value l e =
      target_refusals continuous fixed_target l ++ expr_refusals ns fixed_value (assigned_in (target_width l) e) e

  -- of a case, all have the largest size, and are signed where all are: section 9.5
  abbrev pub with_label : Context → Expr → Context
  with_label c e = record {
    size = larger c.size (size (objects ns) (known ns e));
    signed = c.signed
        && sign (objects ns) (known ns e);
  }

  abbrev pub with_labels : Context → List Expr → Context
  with_labels c [] = c
  with_labels c (e ∷ es) = with_labels (with_label c e) es

  abbrev pub case_context : Context → Arms → Context
  case_context c no_arms = c
  case_context c (labels p es s arms) = case_context (with_labels c es) arms
  case_context c (default p colon s arms) = case_context c arms

  abbrev pub labels_refusals : Context → List Expr → List ElabFault
  labels_refusals c [] = []
  labels_refusals c (e ∷ es) = expr_refusals ns false c e ++ labels_refusals c es

  -- ---- statements

  abbrev mutual
    pub stmt_refusals : Stmt → List ElabFault
    stmt_refusals (begin attrs p label xs) = stmts_refusals xs
    stmt_refusals (if_only attrs p e x) = own_refusals ns false e ++ stmt_refusals x
    stmt_refusals (if_else attrs p e x y) = own_refusals ns false e ++ stmt_refusals x ++ stmt_refusals y
    stmt_refusals (case attrs p kind e arms) =
        let c = case_context (with_label (record { size = Some 0; signed = true }) e) arms
        in expr_refusals ns false c e ++ arms_refusals c arms
    stmt_refusals (assign attrs p l kind e) = assignment_refusals false false false l e
    stmt_refusals (assume attrs p e) = own_refusals ns false e
    stmt_refusals (empty attrs p) = []

    pub stmts_refusals : Stmts → List ElabFault
    stmts_refusals no_stmts = []
    stmts_refusals (more_stmts x xs) = stmt_refusals x ++ stmts_refusals xs

    pub arms_refusals : Context → Arms → List ElabFault
    arms_refusals c no_arms = []
    arms_refusals c (labels p es s arms) = labels_refusals c es ++ stmt_refusals s ++ arms_refusals c arms
    arms_refusals c (default p colon s arms) = stmt_refusals s ++ arms_refusals c arms

  -- an `initial` block gives constants, by constant indices
  abbrev mutual
    pub initial_refusals : Stmt → List ElabFault
    initial_refusals (begin attrs p label xs) = all_initial_refusals xs
    initial_refusals (assign attrs p l kind e) = assignment_refusals false true true l e
    initial_refusals s = []

    pub all_initial_refusals : Stmts → List ElabFault
    all_initial_refusals no_stmts = []
    all_initial_refusals (more_stmts x xs) = initial_refusals x ++ all_initial_refusals xs
