-- A bit that a block doesn't assign is left where its values are stored.
use Rattle.std.specs.Prelude.{◌≡◌, refl, ℕ, ◌≤◌, List, Bool, true, false, Some, if◌then◌else◌}
use Rattle.vl_tree.specs.Expr.{Expr}
use Rattle.vl_tree.specs.Stmt.{
  Stmt,
  Stmts,
  Arms,
  begin,
  if_only,
  if_else,
  case,
  assign,
  assume,
  empty,
  no_stmts,
  more_stmts,
  no_arms,
  labels,
  default,
}
use Rattle.vl_size.specs.declared.context.Context.{Context}
use Rattle.vl_size.specs.declared.decl.Decl.{Decl}
use Rattle.vl_size.specs.Size.{Values, is_true}
use Rattle.vl_size.specs.Table.{declared_as}
use Rattle.std.proofs.Common.{◌∙◌}
use Rattle.vl_mean.specs.Execution.{State, any_assigns, arms_assign, assigned, assigns, exec}
use Rattle.vl_mean.specs.FlatLaw.{AreArms, AreBlocks, IsBlock, case_context, flat_scopes, is_variable}
use Rattle.vl_mean.specs.Scopes.{operand_in}
use Rattle.vl_mean.specs.Targets.{bit_of}
use Rattle.vl_flow_spec.proofs.Bools.{left_none, right_none}
use Rattle.vl_flow_spec.proofs.Execs.{assigned_small, variable_counted}
use Rattle.vl_flow_spec.proofs.Stays.{no_write}
use Rattle.vl_flow_spec.proofs.Targets.{marks}
use Rattle.vl_flow_spec.proofs.Writes.{puts_stay}
use Rattle.vl_lower_assign.specs.Stored.{all_stored, arm_stored, otherwise_stored, stored}

either : (b : Bool) (x y w : Values) (n : List ℕ) (k : ℕ) → bit_of (x n) k ≡ bit_of (w n) k
    → bit_of (y n) k ≡ bit_of (w n) k → bit_of ((if b then x else y) n) k ≡ bit_of (w n) k
either true x y w n k h g = h
either false x y w n k h g = g

module _ (ds : List Decl) (wide : (d : Decl) → declared_as ds d.name ≡ Some d → 1 ≤ d.width) where
  mutual
    pub stored_stays : (s : Stmt) → IsBlock ds s → (t : State) (w : Values) (n : List ℕ) (k : ℕ)
        → assigns (flat_scopes ds) s n k ≡ false
        → bit_of (stored (flat_scopes ds) s t w n) k ≡ bit_of (w n) k
    stored_stays (begin attrs p label xs) is t w n k h = all_stay xs is t w n k h
    stored_stays (if_only attrs p e x) is t w n k h =
        either (is_true (operand_in (flat_scopes ds) t.now e)) (stored (flat_scopes ds) x t w) w w n k
        (stored_stays x is.1 t w n k h) refl
    stored_stays (if_else attrs p e x y) is t w n k h =
        either (is_true (operand_in (flat_scopes ds) t.now e)) (stored (flat_scopes ds) x t w)
        (stored (flat_scopes ds) y t w) w n k
        (stored_stays x is.1.0 t w n k
        (left_none (assigns (flat_scopes ds) x n k) (assigns (flat_scopes ds) y n k) h))
        (stored_stays y is.1.1 t w n k
        (right_none (assigns (flat_scopes ds) x n k) (assigns (flat_scopes ds) y n k) h))
    stored_stays (case attrs p kind e arms) is t w n k h =
        arms_stay (case_context ds e arms) arms is.1.1 _ (λ u m. otherwise_stored (flat_scopes ds) arms u m) t w n k h
        (otherwise_stay (case_context ds e arms) arms is.1.1 t w n k h)
    stored_stays (assign attrs p l kind e) is t w n k h =
        puts_stay (assigned (flat_scopes ds) l (flat_scopes ds) e t.now) w n k (assigned_small ds l e t.now)
        (no_write ds l e t.now (marks ds wide is_variable variable_counted false l is.0.0) n k h)
    stored_stays (assume attrs p e) is t w n k h = refl
    stored_stays (empty attrs p) is t w n k h = refl

    all_stay : (xs : Stmts) → AreBlocks ds xs → (t : State) (w : Values) (n : List ℕ) (k : ℕ)
        → any_assigns (flat_scopes ds) xs n k ≡ false
        → bit_of (all_stored (flat_scopes ds) xs t w n) k ≡ bit_of (w n) k
    all_stay no_stmts is t w n k h = refl
    all_stay (more_stmts x xs) is t w n k h =
        all_stay xs is.1 (exec (flat_scopes ds) x t) (stored (flat_scopes ds) x t w) n k
        (right_none (assigns (flat_scopes ds) x n k) (any_assigns (flat_scopes ds) xs n k) h)
        ∙ stored_stays x is.0 t w n k
        (left_none (assigns (flat_scopes ds) x n k) (any_assigns (flat_scopes ds) xs n k) h)

    arms_stay : (c : Context) (arms : Arms) → AreArms ds c arms → (test : List Expr → Bool)
        (other : State → Values → Values) (t : State) (w : Values) (n : List ℕ) (k : ℕ)
        → arms_assign (flat_scopes ds) arms n k ≡ false → bit_of (other t w n) k ≡ bit_of (w n) k
        → bit_of (arm_stored (flat_scopes ds) arms test other t w n) k ≡ bit_of (w n) k
    arms_stay c no_arms is test other t w n k h last = last
    arms_stay c (labels p es x arms) is test other t w n k h last =
        either (test es) (stored (flat_scopes ds) x t w) (arm_stored (flat_scopes ds) arms test other t w) w n k
        (stored_stays x is.1.0 t w n k
        (left_none (assigns (flat_scopes ds) x n k) (arms_assign (flat_scopes ds) arms n k) h))
        (arms_stay c arms is.1.1 test other t w n k
        (right_none (assigns (flat_scopes ds) x n k) (arms_assign (flat_scopes ds) arms n k) h) last)
    arms_stay c (default p colon x arms) is test other t w n k h last =
        arms_stay c arms is.1 test other t w n k
        (right_none (assigns (flat_scopes ds) x n k) (arms_assign (flat_scopes ds) arms n k) h) last

    otherwise_stay : (c : Context) (arms : Arms) → AreArms ds c arms → (t : State) (w : Values) (n : List ℕ) (k : ℕ)
        → arms_assign (flat_scopes ds) arms n k ≡ false
        → bit_of (otherwise_stored (flat_scopes ds) arms t w n) k ≡ bit_of (w n) k
    otherwise_stay c no_arms is t w n k h = refl
    otherwise_stay c (labels p es x arms) is t w n k h =
        otherwise_stay c arms is.1.1 t w n k
        (right_none (assigns (flat_scopes ds) x n k) (arms_assign (flat_scopes ds) arms n k) h)
    otherwise_stay c (default p colon x arms) is t w n k h =
        stored_stays x is.0 t w n k
        (left_none (assigns (flat_scopes ds) x n k) (arms_assign (flat_scopes ds) arms n k) h)
