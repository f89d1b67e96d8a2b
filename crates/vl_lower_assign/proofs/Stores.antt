-- A bit that a statement assigns in one way only: what is stored for it is its value at the block's end.
use Rattle.std.specs.Prelude.{◌≡◌, refl, ℕ, ◌≤◌, ◌==◌, List, [], ◌∷◌, ◌++◌, Bool, true, false, ◌&&◌, Some, bytes_eq}
use Rattle.std.specs.Prelude.{if◌then◌else◌}
use Rattle.std.proofs.Common.{ap, sym, ◌∙◌}
use Rattle.vl_tree.specs.declared.stmt.AssignKind.{AssignKind}
use Rattle.vl_tree.specs.declared.stmt.AssignKind.TheVariants as a
use Rattle.vl_tree.specs.Expr.{Expr}
use Rattle.vl_tree.specs.Lval.{Lval}
use Rattle.vl_tree.specs.Stmt.{
  Stmt,
  Stmts,
  Arms,
  begin,
  if_only,
  if_else,
  case,
  assign,
  assume,
  empty,
  no_stmts,
  more_stmts,
  no_arms,
  labels,
  default,
}
use Rattle.vl_size.specs.declared.context.Context.{Context}
use Rattle.vl_size.specs.declared.decl.Decl.{Decl}
use Rattle.vl_size.specs.Size.{Values}
use Rattle.vl_size.specs.Table.{declared_as}
use Rattle.vl_mean.specs.Execution.{State, begun, ended, assigned, exec, exec_all, pick, otherwise}
use Rattle.vl_mean.specs.FlatLaw.{flat_scopes, IsBlock, AreBlocks, AreArms, case_context, is_variable, IsTarget}
use Rattle.vl_mean.specs.Targets.{Write, bit_of, put_all, may_change}
use Rattle.vl_flow_spec.specs.Paths.{changes, any_changes, arms_change, is_blocking, is_nonblocking}
use Rattle.vl_flow_spec.proofs.Bools.{left_none, right_none, or_none}
use Rattle.vl_flow_spec.proofs.Execs.{assigned_small, variable_counted}
use Rattle.vl_flow_spec.proofs.Stays.{no_write}
use Rattle.vl_flow_spec.proofs.Targets.{marks}
use Rattle.vl_flow_spec.proofs.Writes.{writes_to, AreSmall, puts_bit, puts_stay}
use Rattle.vl_lower_assign.specs.Stored.{stored, all_stored, arm_stored, otherwise_stored}
use Rattle.vl_lower_assign.proofs.Writing.{puts_append}

-- ---- writes behind writes

small_append : (xs ys : List Write) → AreSmall xs → AreSmall ys → AreSmall (xs ++ ys)
small_append [] ys h k = k
small_append (x ∷ xs) ys h k = (h.0, small_append xs ys h.1 k)

none_append : (xs ys : List Write) (n : List ℕ) (k : ℕ) → writes_to xs n k ≡ false → writes_to ys n k ≡ false
    → writes_to (xs ++ ys) n k ≡ false
none_append [] ys n k h g = g
none_append (x ∷ xs) ys n k h g =
    let here = bytes_eq n x.spot.name && (k == x.spot.offset) in
    or_none here (writes_to (xs ++ ys) n k) (left_none here (writes_to xs n k) h)
    (none_append xs ys n k (right_none here (writes_to xs n k) h) g)

-- ---- what holds of the values, of what waits, and of what is stored

module _ (ds : List Decl) (counts : AssignKind → Bool) (n : List ℕ) (k : ℕ) (R : Values → List Write → Values → Type 0)
    (now : (l : Lval) (e : Expr) (v : Values) (ps : List Write) (w : Values) → IsTarget ds is_variable false l
    → (counts a.Blocking && may_change (flat_scopes ds) l n k) ≡ false → R v ps w
    → R (put_all (assigned (flat_scopes ds) l (flat_scopes ds) e v) v) ps
    (put_all (assigned (flat_scopes ds) l (flat_scopes ds) e v) w))
    (later : (l : Lval) (e : Expr) (v : Values) (ps : List Write) (w : Values) → IsTarget ds is_variable false l
    → (counts a.Nonblocking && may_change (flat_scopes ds) l n k) ≡ false → R v ps w
    → R v (ps ++ assigned (flat_scopes ds) l (flat_scopes ds) e v)
    (put_all (assigned (flat_scopes ds) l (flat_scopes ds) e v) w)) where
  one_of : (b : Bool) (x y : State) (u w : Values) → R x.now x.pending u → R y.now y.pending w
      → R (if b then x else y).now (if b then x else y).pending (if b then u else w)
  one_of true x y u w h g = h
  one_of false x y u w h g = g

  mutual
    holds : (s : Stmt) → IsBlock ds s → changes ds counts s n k ≡ false → (t : State) (w : Values)
        → R t.now t.pending w
        → R (exec (flat_scopes ds) s t).now (exec (flat_scopes ds) s t).pending (stored (flat_scopes ds) s t w)
    holds (begin attrs p label xs) is c t w h = all_hold xs is c t w h
    holds (if_only attrs p e x) is c t w h =
        one_of _ (exec (flat_scopes ds) x t) t (stored (flat_scopes ds) x t w) w (holds x is.1 c t w h) h
    holds (if_else attrs p e x y) is c t w h =
        one_of _ (exec (flat_scopes ds) x t) (exec (flat_scopes ds) y t) (stored (flat_scopes ds) x t w)
        (stored (flat_scopes ds) y t w)
        (holds x is.1.0 (left_none (changes ds counts x n k) (changes ds counts y n k) c) t w h)
        (holds y is.1.1 (right_none (changes ds counts x n k) (changes ds counts y n k) c) t w h)
    holds (case attrs p kind e arms) is c t w h =
        picked_hold (case_context ds e arms) arms is.1.1 c _ (λ u. otherwise (flat_scopes ds) arms u)
        (λ u m. otherwise_stored (flat_scopes ds) arms u m) t w h
        (otherwise_hold (case_context ds e arms) arms is.1.1 c t w h)
    holds (assign attrs p l a.Blocking e) is c t w h = now l e t.now t.pending w is.0.0 c h
    holds (assign attrs p l a.Nonblocking e) is c t w h = later l e t.now t.pending w is.0.0 c h
    holds (assume attrs p e) is c t w h = h
    holds (empty attrs p) is c t w h = h

    all_hold : (xs : Stmts) → AreBlocks ds xs → any_changes ds counts xs n k ≡ false → (t : State) (w : Values)
        → R t.now t.pending w
        → R (exec_all (flat_scopes ds) xs t).now (exec_all (flat_scopes ds) xs t).pending
        (all_stored (flat_scopes ds) xs t w)
    all_hold no_stmts is c t w h = h
    all_hold (more_stmts x xs) is c t w h =
        all_hold xs is.1 (right_none (changes ds counts x n k) (any_changes ds counts xs n k) c)
        (exec (flat_scopes ds) x t) (stored (flat_scopes ds) x t w)
        (holds x is.0 (left_none (changes ds counts x n k) (any_changes ds counts xs n k) c) t w h)

    picked_hold : (c : Context) (arms : Arms) → AreArms ds c arms → arms_change ds counts arms n k ≡ false
        → (f : List Expr → Bool) (other : State → State) (stores : State → Values → Values) (t : State) (w : Values)
        → R t.now t.pending w → R (other t).now (other t).pending (stores t w)
        → R (pick (flat_scopes ds) arms f other t).now (pick (flat_scopes ds) arms f other t).pending
        (arm_stored (flat_scopes ds) arms f stores t w)
    picked_hold c no_arms is h f other stores t w own last = last
    picked_hold c (labels p es x arms) is h f other stores t w own last =
        one_of (f es) (exec (flat_scopes ds) x t) (pick (flat_scopes ds) arms f other t)
        (stored (flat_scopes ds) x t w) (arm_stored (flat_scopes ds) arms f stores t w)
        (holds x is.1.0 (left_none (changes ds counts x n k) (arms_change ds counts arms n k) h) t w own)
        (picked_hold c arms is.1.1 (right_none (changes ds counts x n k) (arms_change ds counts arms n k) h) f other
        stores t w own last)
    picked_hold c (default p colon x arms) is h f other stores t w own last =
        picked_hold c arms is.1 (right_none (changes ds counts x n k) (arms_change ds counts arms n k) h) f other
        stores t w own last

    otherwise_hold : (c : Context) (arms : Arms) → AreArms ds c arms → arms_change ds counts arms n k ≡ false
        → (t : State) (w : Values) → R t.now t.pending w
        → R (otherwise (flat_scopes ds) arms t).now (otherwise (flat_scopes ds) arms t).pending
        (otherwise_stored (flat_scopes ds) arms t w)
    otherwise_hold c no_arms is h t w own = own
    otherwise_hold c (labels p es x arms) is h t w own =
        otherwise_hold c arms is.1.1 (right_none (changes ds counts x n k) (arms_change ds counts arms n k) h) t w own
    otherwise_hold c (default p colon x arms) is h t w own =
        holds x is.0 (left_none (changes ds counts x n k) (arms_change ds counts arms n k) h) t w own

-- ---- a bit to which nothing waits

record IsNow (n : List ℕ) (k : ℕ) (v : Values) (ps : List Write) (w : Values) : Type 0 where
  bits : bit_of (w n) k ≡ bit_of (v n) k
  idle : writes_to ps n k ≡ false
  small : AreSmall ps

-- ---- a bit that isn't assigned at once

record IsLater (n : List ℕ) (k : ℕ) (v : Values) (ps : List Write) (w : Values) : Type 0 where
  bits : bit_of (w n) k ≡ bit_of (put_all ps v n) k
  small : AreSmall ps

module _ (ds : List Decl) (wide : (d : Decl) → declared_as ds d.name ≡ Some d → 1 ≤ d.width) (n : List ℕ) (k : ℕ) where
  none : (l : Lval) (e : Expr) (v : Values) → IsTarget ds is_variable false l → may_change (flat_scopes ds) l n k ≡ false
      → writes_to (assigned (flat_scopes ds) l (flat_scopes ds) e v) n k ≡ false
  none l e v is h = no_write ds l e v (marks ds wide is_variable variable_counted false l is) n k h

  -- only blocking assignments
  pub stored_now : (s : Stmt) → IsBlock ds s → changes ds is_nonblocking s n k ≡ false → (v w : Values)
      → bit_of (w n) k ≡ bit_of (v n) k
      → bit_of (stored (flat_scopes ds) s (begun v) w n) k ≡ bit_of (ended (exec (flat_scopes ds) s (begun v)) n) k
  stored_now s is c v w h =
      let t = exec (flat_scopes ds) s (begun v) in
      let r = holds ds is_nonblocking n k (IsNow n k)
      (λ l e u ps m own change own_bits. record {
        bits =
            puts_bit (assigned (flat_scopes ds) l (flat_scopes ds) e u) m u n k (assigned_small ds l e u)
            (λ free. own_bits.bits);
        idle = own_bits.idle;
        small = own_bits.small;
      })
      (λ l e u ps m own change own_bits.
      let ws = assigned (flat_scopes ds) l (flat_scopes ds) e u in
      let free = none l e u own change in record {
        bits = puts_stay ws m n k (assigned_small ds l e u) free ∙ own_bits.bits;
        idle = none_append ps ws n k own_bits.idle free;
        small = small_append ps ws own_bits.small (assigned_small ds l e u);
      })
      s is c (begun v) w (record { bits = h; idle = refl; small = tt }) in
      r.bits ∙ sym (puts_stay t.pending t.now n k r.small r.idle)

  -- only nonblocking assignments
  pub stored_later : (s : Stmt) → IsBlock ds s → changes ds is_blocking s n k ≡ false → (v w : Values)
      → bit_of (w n) k ≡ bit_of (v n) k
      → bit_of (stored (flat_scopes ds) s (begun v) w n) k ≡ bit_of (ended (exec (flat_scopes ds) s (begun v)) n) k
  stored_later s is c v w h =
      let r = holds ds is_blocking n k (IsLater n k)
      (λ l e u ps m own change own_bits.
      let ws = assigned (flat_scopes ds) l (flat_scopes ds) e u in
      let free = none l e u own change in record {
        bits =
            puts_stay ws m n k (assigned_small ds l e u) free ∙ own_bits.bits
            ∙ sym (puts_bit ps (put_all ws u) u n k own_bits.small
            (λ other. puts_stay ws u n k (assigned_small ds l e u) free));
        small = own_bits.small;
      })
      (λ l e u ps m own change own_bits.
      let ws = assigned (flat_scopes ds) l (flat_scopes ds) e u in record {
        bits =
            puts_bit ws m (put_all ps u) n k (assigned_small ds l e u) (λ free. own_bits.bits)
            ∙ ap (λ z. bit_of (z n) k) (sym (puts_append ps ws u));
        small = small_append ps ws own_bits.small (assigned_small ds l e u);
      })
      s is c (begun v) w (record { bits = h; small = tt }) in
      r.bits
