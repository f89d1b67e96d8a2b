-- Names of what isn't refused are constants or declared.
use Rattle.std.specs.Prelude.{◌≡◌, refl, ℕ, List, [], ◌∷◌, ◌++◌, Bool, true, false, ◌||◌, not, Some, None}
use Rattle.std.specs.Prelude.{is_none}
use Rattle.std.proofs.Common.{ap, sym, subst}
use Rattle.fv_text.specs.declared.pos.Pos.{Pos}
use Rattle.vl_tree.specs.declared.stmt.CaseKind.{CaseKind}
use Rattle.vl_tree.specs.declared.stmt.CaseKind.TheVariants as kinds
use Rattle.vl_tree.specs.Expr.{Expr, Selects, number}
use Rattle.vl_tree.specs.ExprWellFormed as expr
use Rattle.vl_tree.specs.ExprWellFormed.{AreSelects}
use Rattle.vl_tree.specs.Lval.{Lval, Lvals, named, joined, no_lvals, more_lvals}
use Rattle.vl_tree.specs.LvalWellFormed as lval
use Rattle.vl_tree.specs.Stmt.{
  Stmt,
  Stmts,
  Arms,
  begin,
  if_only,
  if_else,
  case,
  assign,
  assume,
  empty,
  no_stmts,
  more_stmts,
  no_arms,
  labels,
  default,
}
use Rattle.vl_tree.specs.StmtWellFormed as stmt
use Rattle.vl_tree.specs.StmtWellFormed.{IsLabel}
use Rattle.vl_size.specs.declared.context.Context.{Context}
use Rattle.vl_size.specs.declared.decl.Decl.{Decl}
use Rattle.vl_size.specs.Divisors.{own_context, selects_zero_divisor}
use Rattle.vl_mean.specs.Constants.{settled_selects}
use Rattle.vl_mean.specs.Scopes.{Scope, is_clock_class}
use Rattle.vl_mean.specs.Runs.{Each}
use Rattle.vl_mean_flat.specs.Flattened.{IsSeen}
use Rattle.vl_mean_flat.specs.Names.{Names as EachName, SelectsNames, ExprNames, ExprsNames, TargetNames, TargetsNames}
use Rattle.vl_mean_flat.specs.Names.{StmtNames, StmtsNames, ArmsNames}
use Rattle.vl_mean_flat.proofs.NamesMap.{expr_map, target_map, stmt_map}
use Rattle.vl_elab_accepted_laws.proofs.Fresh.{NoneOf, none-front, none-back, not-refused}
use Rattle.vl_elab_accepted_laws.proofs.Plain.{all-each}
use Rattle.vl_elab_spec.specs.declared.elab_fault.ElabFault.TheVariants as f
use Rattle.vl_elab_spec.specs.declared.role.Role.{Role}
use Rattle.vl_elab_spec.specs.Expressions.{refused_if, too_wide, divided_by_zero, name_width, object_selects, refusals}
use Rattle.vl_elab_spec.specs.Expressions.{select_refusals, is_constant_name, known, expr_refusals, own_refusals}
use Rattle.vl_elab_spec.specs.Meanings.{Meaning, undeclared, constant, loop_variable, object, faulty, shapeless, later}
use Rattle.vl_elab_spec.specs.Meanings.{Names, meaning_in, value_of, constants, objects}
use Rattle.vl_elab_spec.specs.Statements.{assigned_refusals, target_selects, target_width, target_refusals}
use Rattle.vl_elab_spec.specs.Statements.{targets_refusals, assigned_in, with_label, case_context}
use Rattle.vl_elab_spec.specs.Statements.{labels_refusals, stmt_refusals, stmts_refusals, arms_refusals}
use Rattle.vl_elab_scope.specs.Seen.{AllNamed}
use Rattle.vl_elab_accepted_laws.specs.Sized.{IsRead, IsSized}
use Rattle.vl_elab_accepted_laws.proofs.Parts.{selected}
use Rattle.vl_elab_accepted_laws.proofs.Sizes.{read, vector, word}
use Rattle.vl_elab_accepted_laws.proofs.Tests.{undivided}
use Rattle.vl_elab_accepted_laws.specs.Means.{MeansIn, AreMeant}
use Rattle.vl_elab_accepted_laws.proofs.Agreeing.{sound, seen, known_is, selects_are, refused_name}

module _ (ns : List Names) (ss : List Scope) (named_so : AllNamed ns) (meant : AreMeant ns ss) where
  abbrev Reads : List ℕ → Type 0
  Reads text = IsRead (meaning_in ns text)

  read_expr : (fixed : Bool) (c : Context) (e : Expr) → expr.IsWellFormed e → NoneOf (expr_refusals ns fixed c e)
      → ExprNames Reads ss e
  read_expr fixed c e w h =
      let x : IsSized ns fixed e = read ns fixed c e named_so (sound ns ss meant) w h in
      subst (EachName Reads) (known_is ns ss meant fixed e (none-front (refusals ns fixed e) _ h)) x.names

  read_own : (fixed : Bool) (e : Expr) → expr.IsWellFormed e → NoneOf (own_refusals ns fixed e) → ExprNames Reads ss e
  read_own fixed e w h = read_expr fixed (own_context (objects ns) (known ns e)) e w h

  -- ---- targets

  -- a net or a variable with its selects
  read_object : (fixed : Bool) (p : Pos) (text : List ℕ) (xs : Selects) (d : Decl) (role : Role) (scalar : Bool)
      → meaning_in ns text ≡ object d role scalar → is_clock_class d.class ≡ false → AreSelects xs
      → NoneOf (select_refusals ns (fixed || false) xs)
      → selects_zero_divisor (objects ns) (settled_selects (constants ns) xs) ≡ None
      → NoneOf (object_selects ns p scalar d xs)
      → NoneOf (too_wide p (name_width ns text (object d role scalar) xs)) → TargetNames Reads ss (named p text xs)
  read_object fixed p text xs d role scalar e clock w inner z selects wide =
      let means = subst (MeansIn ss text) e (meant text) in
      let shaped = means.2 in
      let x = selected ns (is_none d.words) (fixed || false) (not scalar) p d xs
      (λ may d one few h k t z. vector ns named_so (sound ns ss meant) (fixed || false) may p d xs w one few h k t z)
      (λ d one few h k t z. word ns named_so (sound ns ss meant) (fixed || false) p d xs w one few h k t z)
      shaped.some_bits shaped.few_bits inner selects wide z in (
        means.0,
        subst IsRead (sym e) clock,
        subst (SelectsNames Reads) (selects_are ns ss meant (fixed || false) p text xs inner (ap value_of e) means.0)
            x.names,
      )

  read_named : (continuous fixed : Bool) (p : Pos) (text : List ℕ) (xs : Selects) (m : Meaning)
      → meaning_in ns text ≡ m → AreSelects xs
      → NoneOf (select_refusals ns (fixed || is_constant_name ns m) xs
      ++ divided_by_zero (selects_zero_divisor (objects ns) (settled_selects (constants ns) xs))
      ++ assigned_refusals ns continuous p text m ++ target_selects ns p m (named p text xs)
      ++ too_wide p (name_width ns text m xs)) → TargetNames Reads ss (named p text xs)
  read_named continuous fixed p text xs undeclared e w h =
      absurd (refused_name _ _ _ (none-front _ _ h))
  read_named continuous fixed p text xs loop_variable e w h =
      absurd (refused_name _ _ _ (none-front _ _ h))
  read_named continuous fixed p text xs (constant c selected) e w h =
      absurd (refused_name _ _ _ (none-front _ _ h))
  read_named continuous fixed p text xs faulty e w h = absurd (subst (MeansIn ss text) e (meant text))
  read_named continuous fixed p text xs shapeless e w h = absurd (subst (MeansIn ss text) e (meant text))
  read_named continuous fixed p text xs later e w h = absurd (subst (MeansIn ss text) e (meant text))
  read_named continuous fixed p text xs (object d role scalar) e w h =
      let inner = select_refusals ns (fixed || false) xs in
      let divided = divided_by_zero (selects_zero_divisor (objects ns) (settled_selects (constants ns) xs)) in
      let assigned = assigned_refusals ns continuous p text (object d role scalar) in
      let selects = object_selects ns p scalar d xs in
      let narrow = none-front (inner ++ divided ++ assigned ++ selects) _ h in
      let front = none-front (inner ++ divided ++ assigned) selects narrow in
      let two = none-front (inner ++ divided) assigned front in
      read_object fixed p text xs d role scalar e
      (not-refused (is_clock_class d.class) _
      (none-front (refused_if (is_clock_class d.class) (f.Clock p)) _ (none-back (inner ++ divided) assigned front))) w
      (none-front inner divided two) (undivided _ (none-back inner divided two))
      (none-back (inner ++ divided ++ assigned) selects narrow)
      (none-back (inner ++ divided ++ assigned ++ selects) _ h)

  mutual
    read_target : (continuous fixed : Bool) (l : Lval) → lval.IsWellFormed l
        → NoneOf (target_refusals ns continuous fixed l) → TargetNames Reads ss l
    read_target continuous fixed (named p text xs) w h =
        read_named continuous fixed p text xs (meaning_in ns text) refl w.1 h
    read_target continuous fixed (joined p ls) w h =
        read_targets continuous fixed ls w.1 (none-front (targets_refusals ns continuous fixed ls) _ h)

    read_targets : (continuous fixed : Bool) (ls : Lvals) → lval.AreWellFormed ls
        → NoneOf (targets_refusals ns continuous fixed ls) → TargetsNames Reads ss ls
    read_targets continuous fixed no_lvals w h = tt
    read_targets continuous fixed (more_lvals l ls) w h = (
      read_target continuous fixed l w.0
          (none-front (target_refusals ns continuous fixed l) (targets_refusals ns continuous fixed ls) h),
      read_targets continuous fixed ls w.1
          (none-back (target_refusals ns continuous fixed l) (targets_refusals ns continuous fixed ls) h),
    )

  -- ---- statements

  -- in a `casez` a label may be a number with wild bits
  read_label : (kind : CaseKind) (c : Context) (e : Expr) → IsLabel kind e → NoneOf (expr_refusals ns false c e)
      → ExprNames Reads ss e
  read_label kinds.Case c e w h = read_expr false c e w h
  read_label kinds.Casez c (number p n) w h = tt
  read_label kinds.Casez c e w h = read_expr false c e w h

  read_labels : (kind : CaseKind) (c : Context) (es : List Expr) → Each (IsLabel kind) es
      → NoneOf (labels_refusals ns c es) → ExprsNames Reads ss es
  read_labels kind c [] w h = tt
  read_labels kind c (e ∷ es) w h = (
    read_label kind c e w.0 (none-front (expr_refusals ns false c e) (labels_refusals ns c es) h),
    read_labels kind c es w.1 (none-back (expr_refusals ns false c e) (labels_refusals ns c es) h),
  )

  mutual
    read_stmt : (s : Stmt) → stmt.IsWellFormed s → NoneOf (stmt_refusals ns s) → StmtNames Reads ss s
    read_stmt (begin attrs p label xs) w h = read_stmts xs w.2 h
    read_stmt (if_only attrs p e x) w h = (
      read_own false e w.1 (none-front (own_refusals ns false e) (stmt_refusals ns x) h),
      read_stmt x w.2 (none-back (own_refusals ns false e) (stmt_refusals ns x) h),
    )
    read_stmt (if_else attrs p e x y) w h =
        let front = own_refusals ns false e ++ stmt_refusals ns x in
        let two = none-front front (stmt_refusals ns y) h in (
          read_own false e w.1 (none-front (own_refusals ns false e) (stmt_refusals ns x) two),
          read_stmt x w.3 (none-back (own_refusals ns false e) (stmt_refusals ns x) two),
          read_stmt y w.4 (none-back front (stmt_refusals ns y) h),
        )
    read_stmt (case attrs p kind e arms) w h =
        let c = case_context ns (with_label ns (record { size = Some 0; signed = true }) e) arms in (
          read_expr false c e w.1 (none-front (expr_refusals ns false c e) (arms_refusals ns c arms) h),
          read_arms kind c arms w.4 (none-back (expr_refusals ns false c e) (arms_refusals ns c arms) h),
        )
    read_stmt (assign attrs p l kind e) w h =
        let c = assigned_in ns (target_width ns l) e in (
          read_target false false l w.1 (none-front (target_refusals ns false false l) (expr_refusals ns false c e) h),
          read_expr false c e w.2 (none-back (target_refusals ns false false l) (expr_refusals ns false c e) h),
        )
    read_stmt (assume attrs p e) w h = read_own false e w.1 h
    read_stmt (empty attrs p) w h = tt

    read_stmts : (xs : Stmts) → stmt.AreWellFormed xs → NoneOf (stmts_refusals ns xs) → StmtsNames Reads ss xs
    read_stmts no_stmts w h = tt
    read_stmts (more_stmts x xs) w h = (
      read_stmt x w.0 (none-front (stmt_refusals ns x) (stmts_refusals ns xs) h),
      read_stmts xs w.1 (none-back (stmt_refusals ns x) (stmts_refusals ns xs) h),
    )

    read_arms : (kind : CaseKind) (c : Context) (arms : Arms) → stmt.AreArms kind arms
        → NoneOf (arms_refusals ns c arms) → ArmsNames Reads ss arms
    read_arms kind c no_arms w h = tt
    read_arms kind c (labels p es x arms) w h =
        let front = labels_refusals ns c es ++ stmt_refusals ns x in
        let two = none-front front (arms_refusals ns c arms) h in (
          read_labels kind c es (all-each (IsLabel kind) es w.0.1)
              (none-front (labels_refusals ns c es) (stmt_refusals ns x) two),
          read_stmt x w.1 (none-back (labels_refusals ns c es) (stmt_refusals ns x) two),
          read_arms kind c arms w.2 (none-back front (arms_refusals ns c arms) h),
        )
    read_arms kind c (default p colon x arms) w h = (
      read_stmt x w.0 (none-front (stmt_refusals ns x) (arms_refusals ns c arms) h),
      read_arms kind c arms w.1 (none-back (stmt_refusals ns x) (arms_refusals ns c arms) h),
    )

-- ---- that a name is read says that it is declared

pub known_expr : (ns : List Names) (ss : List Scope) (fixed : Bool) (c : Context) (e : Expr) → AllNamed ns
    → AreMeant ns ss → expr.IsWellFormed e → expr_refusals ns fixed c e ≡ [] → ExprNames (IsSeen ss) ss e
known_expr ns ss fixed c e n m w h = expr_map (seen ns ss m) ss e (read_expr ns ss n m fixed c e w h)

pub known_target : (ns : List Names) (ss : List Scope) (continuous fixed : Bool) (l : Lval) → AllNamed ns
    → AreMeant ns ss → lval.IsWellFormed l → target_refusals ns continuous fixed l ≡ []
    → TargetNames (IsSeen ss) ss l
known_target ns ss continuous fixed l n m w h =
    target_map (seen ns ss m) ss l (read_target ns ss n m continuous fixed l w h)

pub known_stmt : (ns : List Names) (ss : List Scope) (s : Stmt) → AllNamed ns → AreMeant ns ss → stmt.IsWellFormed s
    → stmt_refusals ns s ≡ [] → StmtNames (IsSeen ss) ss s
known_stmt ns ss s n m w h = stmt_map (seen ns ss m) ss s (read_stmt ns ss n m s w h)
