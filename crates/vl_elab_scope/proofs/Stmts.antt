-- Targets and statements are refused alike over names that mean the same.
use Rattle.std.specs.Prelude.{◌≡◌, refl, ℕ, ◌+◌, List, [], ◌∷◌, ◌++◌, Bool, true, false, ◌&&◌, ◌||◌, Option, Some}
use Rattle.std.proofs.Common.{ap, ◌∙◌}
use Rattle.fv_text.specs.declared.pos.Pos.{Pos}
use Rattle.vl_tree.specs.Expr.{Expr}
use Rattle.vl_tree.specs.Lval.{Lval, Lvals, named, joined, no_lvals, more_lvals}
use Rattle.vl_tree.specs.Stmt.{
  Stmt,
  Stmts,
  Arms,
  begin,
  if_only,
  if_else,
  case,
  assign,
  assume,
  empty,
  no_stmts,
  more_stmts,
  no_arms,
  labels,
  default,
}
use Rattle.vl_size.specs.declared.context.Context.{Context}
use Rattle.vl_size.specs.Divisors.{larger}
use Rattle.vl_size.specs.Size.{◌>>=◌}
use Rattle.vl_mean.specs.ConstantFaults.{capped}
use Rattle.vl_mean.specs.Constants.{vector_of}
use Rattle.vl_elab_spec.specs.Expressions.{too_wide, divided_by_zero, expr_refusals}
use Rattle.vl_elab_spec.specs.Meanings.{Meaning, undeclared, constant, loop_variable, object, faulty, shapeless, later}
use Rattle.vl_elab_spec.specs.Meanings.{Names, meaning_in}
use Rattle.vl_elab_spec.specs.Statements.{widened, assigned_refusals, target_selects, target_width, targets_width}
use Rattle.vl_elab_spec.specs.Statements.{target_refusals, targets_refusals, assigned_in, assignment_refusals}
use Rattle.vl_elab_spec.specs.Statements.{with_label, with_labels, case_context, labels_refusals, stmt_refusals}
use Rattle.vl_elab_spec.specs.Statements.{stmts_refusals, arms_refusals, initial_refusals, all_initial_refusals}
use Rattle.vl_elab_scope.specs.Alike.{Alike}
use Rattle.vl_elab_scope.proofs.Exprs as x
use Rattle.vl_elab_scope.proofs.Sizes as z

module _ (ns ms : List Names) (h : Alike ns ms) where
  -- ---- targets

  taken : (continuous : Bool) (p : Pos) (text : List ℕ) (m : Meaning)
      → assigned_refusals ns continuous p text m ≡ assigned_refusals ms continuous p text m
  taken continuous p text undeclared = refl
  taken continuous p text (constant c selected) = refl
  taken continuous p text loop_variable = refl
  taken continuous p text (object d role scalar) = refl
  taken continuous p text faulty = refl
  taken continuous p text shapeless = refl
  taken continuous p text later = refl

  same_taken : (continuous : Bool) (p : Pos) (text : List ℕ)
      → assigned_refusals ns continuous p text (meaning_in ns text)
      ≡ assigned_refusals ms continuous p text (meaning_in ms text)
  same_taken continuous p text =
      taken continuous p text (meaning_in ns text) ∙ ap (assigned_refusals ms continuous p text) (h.meaning text)

  chosen : (p : Pos) (m : Meaning) (l : Lval) → target_selects ns p m l ≡ target_selects ms p m l
  chosen p (object d role scalar) (named q text ss) = x.same_object ns ms h p scalar d ss
  chosen p (constant c selected) (named q text ss) = x.same_vector ns ms h selected (vector_of text c) ss
  chosen p undeclared (named q text ss) = refl
  chosen p loop_variable (named q text ss) = refl
  chosen p faulty (named q text ss) = refl
  chosen p shapeless (named q text ss) = refl
  chosen p later (named q text ss) = refl
  chosen p undeclared (joined q ls) = refl
  chosen p (constant c selected) (joined q ls) = refl
  chosen p loop_variable (joined q ls) = refl
  chosen p (object d role scalar) (joined q ls) = refl
  chosen p faulty (joined q ls) = refl
  chosen p shapeless (joined q ls) = refl
  chosen p later (joined q ls) = refl

  same_chosen : (p : Pos) (text : List ℕ) (l : Lval)
      → target_selects ns p (meaning_in ns text) l ≡ target_selects ms p (meaning_in ms text) l
  same_chosen p text l = chosen p (meaning_in ns text) l ∙ ap (λ m. target_selects ms p m l) (h.meaning text)

  mutual
    pub same_target_width : (l : Lval) → target_width ns l ≡ target_width ms l
    same_target_width (named p text ss) = z.same_name_width ns ms h text ss
    same_target_width (joined p ls) = same_targets_width ls

    same_targets_width : (ls : Lvals) → targets_width ns ls ≡ targets_width ms ls
    same_targets_width no_lvals = refl
    same_targets_width (more_lvals l ls) =
        λ i. same_target_width l i >>= λ m. same_targets_width ls i >>= λ n. Some (capped (m + n))

  mutual
    pub same_target : (continuous fixed : Bool) (l : Lval)
        → target_refusals ns continuous fixed l ≡ target_refusals ms continuous fixed l
    same_target continuous fixed (named p text ss) =
        λ i. x.same_named ns ms h fixed text ss i ++ divided_by_zero (z.same_selects ns ms h ss i)
        ++ same_taken continuous p text i ++ same_chosen p text (named p text ss) i
        ++ too_wide p (same_target_width (named p text ss) i)
    same_target continuous fixed (joined p ls) =
        λ i. same_targets continuous fixed ls i ++ too_wide p (same_target_width (joined p ls) i)

    same_targets : (continuous fixed : Bool) (ls : Lvals)
        → targets_refusals ns continuous fixed ls ≡ targets_refusals ms continuous fixed ls
    same_targets continuous fixed no_lvals = refl
    same_targets continuous fixed (more_lvals l ls) =
        λ i. same_target continuous fixed l i ++ same_targets continuous fixed ls i

  -- ---- contexts

  pub same_assigned_in : (m : Option ℕ) (e : Expr) → assigned_in ns m e ≡ assigned_in ms m e
  same_assigned_in m e =
      λ i. record { size = widened m (z.same_own_size ns ms h e i); signed = z.same_own_sign ns ms h e i }

  pub same_assignment : (continuous fixed_target fixed_value : Bool) (l : Lval) (e : Expr)
      → assignment_refusals ns continuous fixed_target fixed_value l e
      ≡ assignment_refusals ms continuous fixed_target fixed_value l e
  same_assignment continuous fixed_target fixed_value l e =
      let context : assigned_in ns (target_width ns l) e ≡ assigned_in ms (target_width ms l) e =
      same_assigned_in (target_width ns l) e ∙ ap (λ w. assigned_in ms w e) (same_target_width l) in
      let value = x.same_expr ns ms h fixed_value (assigned_in ns (target_width ns l) e) e
      ∙ ap (λ c. expr_refusals ms fixed_value c e) context in
      λ i. same_target continuous fixed_target l i ++ value i

  same_label : (c : Context) (e : Expr) → with_label ns c e ≡ with_label ms c e
  same_label c e =
      λ i. record {
        size = larger c.size (z.same_own_size ns ms h e i);
        signed = c.signed && z.same_own_sign ns ms h e i;
      }

  same_labels : (c : Context) (es : List Expr) → with_labels ns c es ≡ with_labels ms c es
  same_labels c [] = refl
  same_labels c (e ∷ es) = same_labels (with_label ns c e) es ∙ ap (λ k. with_labels ms k es) (same_label c e)

  same_case : (c : Context) (arms : Arms) → case_context ns c arms ≡ case_context ms c arms
  same_case c no_arms = refl
  same_case c (labels p es s arms) =
      same_case (with_labels ns c es) arms ∙ ap (λ k. case_context ms k arms) (same_labels c es)
  same_case c (default p colon s arms) = same_case c arms

  label_refusals : (c : Context) (es : List Expr) → labels_refusals ns c es ≡ labels_refusals ms c es
  label_refusals c [] = refl
  label_refusals c (e ∷ es) = λ i. x.same_expr ns ms h false c e i ++ label_refusals c es i

  -- ---- statements

  abbrev no_label : Context
  no_label = record { size = Some 0; signed = true }

  mutual
    pub same_stmt : (s : Stmt) → stmt_refusals ns s ≡ stmt_refusals ms s
    same_stmt (begin attrs p label xs) = same_stmts xs
    same_stmt (if_only attrs p e a) = λ i. x.same_own ns ms h false e i ++ same_stmt a i
    same_stmt (if_else attrs p e a b) = λ i. x.same_own ns ms h false e i ++ same_stmt a i ++ same_stmt b i
    same_stmt (case attrs p kind e arms) =
        let first = with_label ns no_label e in
        let c = case_context ns first arms in
        let context : c ≡ case_context ms (with_label ms no_label e) arms =
        same_case first arms ∙ ap (λ k. case_context ms k arms) (same_label no_label e) in
        let here : expr_refusals ns false c e ++ arms_refusals ns c arms
        ≡ expr_refusals ms false c e ++ arms_refusals ms c arms =
        λ i. x.same_expr ns ms h false c e i ++ same_arms c arms i in
        here ∙ ap (λ k. expr_refusals ms false k e ++ arms_refusals ms k arms) context
    same_stmt (assign attrs p l kind e) = same_assignment false false false l e
    same_stmt (assume attrs p e) = x.same_own ns ms h false e
    same_stmt (empty attrs p) = refl

    same_stmts : (xs : Stmts) → stmts_refusals ns xs ≡ stmts_refusals ms xs
    same_stmts no_stmts = refl
    same_stmts (more_stmts a xs) = λ i. same_stmt a i ++ same_stmts xs i

    same_arms : (c : Context) (arms : Arms) → arms_refusals ns c arms ≡ arms_refusals ms c arms
    same_arms c no_arms = refl
    same_arms c (labels p es s arms) = λ i. label_refusals c es i ++ same_stmt s i ++ same_arms c arms i
    same_arms c (default p colon s arms) = λ i. same_stmt s i ++ same_arms c arms i

  mutual
    pub same_initial : (s : Stmt) → initial_refusals ns s ≡ initial_refusals ms s
    same_initial (begin attrs p label xs) = same_initials xs
    same_initial (if_only attrs p e a) = refl
    same_initial (if_else attrs p e a b) = refl
    same_initial (case attrs p kind e arms) = refl
    same_initial (assign attrs p l kind e) = same_assignment false true true l e
    same_initial (assume attrs p e) = refl
    same_initial (empty attrs p) = refl

    same_initials : (xs : Stmts) → all_initial_refusals ns xs ≡ all_initial_refusals ms xs
    same_initials no_stmts = refl
    same_initials (more_stmts a xs) = λ i. same_initial a i ++ same_initials xs i
