-- A bit that no assignment of a statement may change stays.
use Rattle.std.specs.Prelude.{◌≡◌, refl, ℕ, ◌≤◌, List, Bool, true, false, Some, if◌then◌else◌}
use Rattle.std.proofs.Common.{sym, ◌∙◌}
use Rattle.vl_tree.specs.declared.stmt.AssignKind.TheVariants as a
use Rattle.vl_tree.specs.Expr.{Expr}
use Rattle.vl_tree.specs.Lval.{Lval}
use Rattle.vl_tree.specs.Stmt.{
  Stmt,
  Stmts,
  Arms,
  begin,
  if_only,
  if_else,
  case,
  assign,
  assume,
  empty,
  no_stmts,
  more_stmts,
  no_arms,
  labels,
  default,
}
use Rattle.vl_size.specs.declared.context.Context.{Context}
use Rattle.vl_size.specs.declared.decl.Decl.{Decl}
use Rattle.vl_size.specs.Size.{Values}
use Rattle.vl_size.specs.Table.{declared_as}
use Rattle.vl_mean.specs.Execution.{State, assigned, exec, exec_all, pick, otherwise, assigns, any_assigns, arms_assign}
use Rattle.vl_mean.specs.FlatLaw.{flat_scopes, IsBlock, AreBlocks, AreArms, case_context, is_variable}
use Rattle.vl_mean.specs.Targets.{bit_of, put_all, may_change}
use Rattle.vl_flow_spec.proofs.Bools.{left_none, right_none, none_of}
use Rattle.vl_flow_spec.proofs.Execs.{assigned_small, assigned_to, variable_counted}
use Rattle.vl_flow_spec.proofs.Targets.{Marks, marks}
use Rattle.vl_flow_spec.proofs.Writes.{writes_to, puts_stay}

after_choice : (b : Bool) (x y t : State) (n : List ℕ) (k : ℕ) → bit_of (x.now n) k ≡ bit_of (t.now n) k
    → bit_of (y.now n) k ≡ bit_of (t.now n) k → bit_of ((if b then x else y).now n) k ≡ bit_of (t.now n) k
after_choice true x y t n k h i = h
after_choice false x y t n k h i = i

module _ (ds : List Decl) where
  pub no_write : (l : Lval) (e : Expr) (v : Values) → Marks ds l → (n : List ℕ) (k : ℕ)
      → may_change (flat_scopes ds) l n k ≡ false
      → writes_to (assigned (flat_scopes ds) l (flat_scopes ds) e v) n k ≡ false
  no_write l e v m n k h =
      none_of (writes_to (assigned (flat_scopes ds) l (flat_scopes ds) e v) n k) (λ t.
      sym h ∙ m.within v n k (sym (assigned_to ds l e v n k) ∙ t))

  pub assigned_stays : (l : Lval) (e : Expr) (v : Values) → Marks ds l → (n : List ℕ) (k : ℕ)
      → may_change (flat_scopes ds) l n k ≡ false
      → bit_of (put_all (assigned (flat_scopes ds) l (flat_scopes ds) e v) v n) k ≡ bit_of (v n) k
  assigned_stays l e v m n k h =
      puts_stay (assigned (flat_scopes ds) l (flat_scopes ds) e v) v n k (assigned_small ds l e v)
      (no_write l e v m n k h)

module _ (ds : List Decl) (wide : (d : Decl) → declared_as ds d.name ≡ Some d → 1 ≤ d.width) where
  mutual
    pub exec_stays : (s : Stmt) → IsBlock ds s → (t : State) (n : List ℕ) (k : ℕ) → assigns (flat_scopes ds) s n k ≡ false
        → bit_of ((exec (flat_scopes ds) s t).now n) k ≡ bit_of (t.now n) k
    exec_stays (begin attrs p label xs) is t n k h = all_stay xs is t n k h
    exec_stays (if_only attrs p e x) is t n k h =
        after_choice _ (exec (flat_scopes ds) x t) t t n k (exec_stays x is.1 t n k h) refl
    exec_stays (if_else attrs p e x y) is t n k h =
        after_choice _ (exec (flat_scopes ds) x t) (exec (flat_scopes ds) y t) t n k
        (exec_stays x is.1.0 t n k (left_none (assigns (flat_scopes ds) x n k) (assigns (flat_scopes ds) y n k) h))
        (exec_stays y is.1.1 t n k (right_none (assigns (flat_scopes ds) x n k) (assigns (flat_scopes ds) y n k) h))
    exec_stays (case attrs p kind e arms) is t n k h =
        picked_stay (case_context ds e arms) arms is.1.1 _ (λ u. otherwise (flat_scopes ds) arms u) t n k h
        (otherwise_stays (case_context ds e arms) arms is.1.1 t n k h)
    exec_stays (assign attrs p l a.Blocking e) is t n k h =
        assigned_stays ds l e t.now (marks ds wide is_variable variable_counted false l is.0.0) n k h
    exec_stays (assign attrs p l a.Nonblocking e) is t n k h = refl
    exec_stays (assume attrs p e) is t n k h = refl
    exec_stays (empty attrs p) is t n k h = refl

    all_stay : (xs : Stmts) → AreBlocks ds xs → (t : State) (n : List ℕ) (k : ℕ)
        → any_assigns (flat_scopes ds) xs n k ≡ false
        → bit_of ((exec_all (flat_scopes ds) xs t).now n) k ≡ bit_of (t.now n) k
    all_stay no_stmts is t n k h = refl
    all_stay (more_stmts x xs) is t n k h =
        all_stay xs is.1 (exec (flat_scopes ds) x t) n k
        (right_none (assigns (flat_scopes ds) x n k) (any_assigns (flat_scopes ds) xs n k) h)
        ∙ exec_stays x is.0 t n k (left_none (assigns (flat_scopes ds) x n k) (any_assigns (flat_scopes ds) xs n k) h)

    picked_stay : (c : Context) (arms : Arms) → AreArms ds c arms → (f : List Expr → Bool) (other : State → State)
        (t : State) (n : List ℕ) (k : ℕ) → arms_assign (flat_scopes ds) arms n k ≡ false
        → bit_of ((other t).now n) k ≡ bit_of (t.now n) k
        → bit_of ((pick (flat_scopes ds) arms f other t).now n) k ≡ bit_of (t.now n) k
    picked_stay c no_arms is f other t n k h last = last
    picked_stay c (labels p es x arms) is f other t n k h last =
        after_choice (f es) (exec (flat_scopes ds) x t) (pick (flat_scopes ds) arms f other t) t n k
        (exec_stays x is.1.0 t n k (left_none (assigns (flat_scopes ds) x n k) (arms_assign (flat_scopes ds) arms n k) h))
        (picked_stay c arms is.1.1 f other t n k
        (right_none (assigns (flat_scopes ds) x n k) (arms_assign (flat_scopes ds) arms n k) h) last)
    picked_stay c (default p colon x arms) is f other t n k h last =
        picked_stay c arms is.1 f other t n k
        (right_none (assigns (flat_scopes ds) x n k) (arms_assign (flat_scopes ds) arms n k) h) last

    otherwise_stays : (c : Context) (arms : Arms) → AreArms ds c arms → (t : State) (n : List ℕ) (k : ℕ)
        → arms_assign (flat_scopes ds) arms n k ≡ false
        → bit_of ((otherwise (flat_scopes ds) arms t).now n) k ≡ bit_of (t.now n) k
    otherwise_stays c no_arms is t n k h = refl
    otherwise_stays c (labels p es x arms) is t n k h =
        otherwise_stays c arms is.1.1 t n k
        (right_none (assigns (flat_scopes ds) x n k) (arms_assign (flat_scopes ds) arms n k) h)
    otherwise_stays c (default p colon x arms) is t n k h =
        exec_stays x is.0 t n k (left_none (assigns (flat_scopes ds) x n k) (arms_assign (flat_scopes ds) arms n k) h)
