-- From the refusals that aren't there: blocks without latches, targets without doubled bits, and no bit with two
-- drivers.
use Rattle.std.specs.Prelude.{◌≡◌, refl, ℕ, zero, suc, List, [], ◌∷◌, Bool, true, false}
use Rattle.std.specs.Prelude.{◌&&◌, ◌||◌, not, is_none, slice_get, Option, Some, None, All}
use Rattle.std.specs.Prelude.{if◌then◌else◌}
use Rattle.std.proofs.Common.{ap, sym, ◌∙◌, subst, true≢false}
use Rattle.std.proofs.lemmas.Option.{same_Some}
use Rattle.fv_text.specs.declared.pos.Pos.{Pos}
use Rattle.vl_tree.specs.declared.stmt.AssignKind.{AssignKind}
use Rattle.vl_tree.specs.declared.stmt.AssignKind.TheVariants as a
use Rattle.vl_tree.specs.Lval.{Lval, Lvals, named, joined, no_lvals, more_lvals}
use Rattle.vl_tree.specs.Stmt.{
  Stmt,
  Stmts,
  Arms,
  begin,
  if_only,
  if_else,
  case,
  assign,
  assume,
  empty,
  no_stmts,
  more_stmts,
  no_arms,
  labels,
  default,
}
use Rattle.vl_size.specs.declared.decl.Decl.{Decl}
use Rattle.vl_size.specs.Places.{is_earlier, earlier_place}
use Rattle.vl_size.specs.Table.{declared_as}
use Rattle.vl_mean.specs.declared.driver.Driver.{Driver}
use Rattle.vl_mean.specs.declared.driver.DriverKind.{DriverKind}
use Rattle.vl_mean.specs.declared.driver.DriverKind.TheVariants as k
use Rattle.vl_mean.specs.Cells.{contains_name}
use Rattle.vl_mean.specs.Execution.{assigns}
use Rattle.vl_mean.specs.FlatLaw.{flat_scopes, IsBlock, IsDriver}
use Rattle.vl_mean.specs.Targets.{may_change, any_may_change, are_fixed}
use Rattle.vl_flow_spec.specs.Assigned.{assigned_names}
use Rattle.vl_flow_spec.specs.Drivers.{is_clocked}
use Rattle.vl_flow_spec.specs.Paths.{is_blocking, is_nonblocking, any_kind, has_default, sets, any_sets, sure, all_sure}
use Rattle.vl_flow_spec.specs.Paths.{arms_sure, changes, any_changes, arms_change}
use Rattle.vl_flow_spec.specs.Reads.{Covers, selected}
use Rattle.vl_flow_spec.proofs.Bools.{or_left, or_right, or_either, left_none, right_none, and_both, and_left}
use Rattle.vl_flow_spec.proofs.Bools.{and_right, none_of, not_both}
use Rattle.vl_flow_spec.specs.Refusals.{has_bit, named_if, with_name, place_of, latched_by, latched, latch}
use Rattle.vl_flow_spec.specs.Refusals.{assigns_to, is_mixed, mixed, some_assigns, some_waits}
use Rattle.vl_flow_spec.proofs.Elements.{all_at, each_declared_as}
use Rattle.vl_flow_spec.proofs.Found.{has_it, none_of_names}
use Rattle.vl_flow_spec.proofs.AssignKinds.{any_kind_changes, block_named, either_kind}

-- ---- sure by some assignments: by blocking ones, or some other one may change the bit

module _ (ds : List Decl) where
  mutual
    sets_change : (l : Lval) → Covers (may_change (flat_scopes ds) l) (sets ds l)
    sets_change (named p text xs) n i h = and_right (are_fixed (flat_scopes ds) xs) (selected ds text xs n i) h
    sets_change (joined p ls) n i h = all_sets_change ls n i h

    all_sets_change : (ls : Lvals) → Covers (any_may_change (flat_scopes ds) ls) (any_sets ds ls)
    all_sets_change no_lvals n i h = h
    all_sets_change (more_lvals l ls) n i h =
        or_either (sets ds l n i) (any_sets ds ls n i)
        (may_change (flat_scopes ds) l n i || any_may_change (flat_scopes ds) ls n i)
        (λ t. or_left (may_change (flat_scopes ds) l n i) (any_may_change (flat_scopes ds) ls n i) (sets_change l n i t))
        (λ t. or_right (may_change (flat_scopes ds) l n i) (any_may_change (flat_scopes ds) ls n i)
        (all_sets_change ls n i t)) h

  mutual
    -- what isn't changed by nonblocking assignments is surely assigned by blocking ones
    pub sure_blocking : (s : Stmt) (n : List ℕ) (i : ℕ) → changes ds is_nonblocking s n i ≡ false
        → sure ds any_kind s n i ≡ true → sure ds is_blocking s n i ≡ true
    sure_blocking (begin attrs p label xs) n i none h = all_sure_blocking xs n i none h
    sure_blocking (if_only attrs p e x) n i none h = h
    sure_blocking (if_else attrs p e x y) n i none h =
        and_both (sure ds is_blocking x n i) (sure ds is_blocking y n i)
        (sure_blocking x n i (left_none (changes ds is_nonblocking x n i) (changes ds is_nonblocking y n i) none)
        (and_left (sure ds any_kind x n i) (sure ds any_kind y n i) h))
        (sure_blocking y n i (right_none (changes ds is_nonblocking x n i) (changes ds is_nonblocking y n i) none)
        (and_right (sure ds any_kind x n i) (sure ds any_kind y n i) h))
    sure_blocking (case attrs p kind e arms) n i none h =
        and_both (has_default arms) (arms_sure ds is_blocking arms n i)
        (and_left (has_default arms) (arms_sure ds any_kind arms n i) h)
        (arms_sure_blocking arms n i none (and_right (has_default arms) (arms_sure ds any_kind arms n i) h))
    sure_blocking (assign attrs p l a.Blocking e) n i none h = h
    sure_blocking (assign attrs p l a.Nonblocking e) n i none h =
        not_both (may_change (flat_scopes ds) l n i) (sets_change l n i h) none
    sure_blocking (assume attrs p e) n i none h = h
    sure_blocking (empty attrs p) n i none h = h

    all_sure_blocking : (xs : Stmts) (n : List ℕ) (i : ℕ) → any_changes ds is_nonblocking xs n i ≡ false
        → all_sure ds any_kind xs n i ≡ true → all_sure ds is_blocking xs n i ≡ true
    all_sure_blocking no_stmts n i none h = h
    all_sure_blocking (more_stmts x xs) n i none h =
        or_either (sure ds any_kind x n i) (all_sure ds any_kind xs n i)
        (sure ds is_blocking x n i || all_sure ds is_blocking xs n i)
        (λ t. or_left (sure ds is_blocking x n i) (all_sure ds is_blocking xs n i)
        (sure_blocking x n i (left_none (changes ds is_nonblocking x n i) (any_changes ds is_nonblocking xs n i) none) t))
        (λ t. or_right (sure ds is_blocking x n i) (all_sure ds is_blocking xs n i)
        (all_sure_blocking xs n i
        (right_none (changes ds is_nonblocking x n i) (any_changes ds is_nonblocking xs n i) none) t)) h

    arms_sure_blocking : (arms : Arms) (n : List ℕ) (i : ℕ) → arms_change ds is_nonblocking arms n i ≡ false
        → arms_sure ds any_kind arms n i ≡ true → arms_sure ds is_blocking arms n i ≡ true
    arms_sure_blocking no_arms n i none h = h
    arms_sure_blocking (labels p es x arms) n i none h =
        and_both (sure ds is_blocking x n i) (arms_sure ds is_blocking arms n i)
        (sure_blocking x n i (left_none (changes ds is_nonblocking x n i) (arms_change ds is_nonblocking arms n i) none)
        (and_left (sure ds any_kind x n i) (arms_sure ds any_kind arms n i) h))
        (arms_sure_blocking arms n i
        (right_none (changes ds is_nonblocking x n i) (arms_change ds is_nonblocking arms n i) none)
        (and_right (sure ds any_kind x n i) (arms_sure ds any_kind arms n i) h))
    arms_sure_blocking (default p colon x arms) n i none h =
        and_both (sure ds is_blocking x n i) (arms_sure ds is_blocking arms n i)
        (sure_blocking x n i (left_none (changes ds is_nonblocking x n i) (arms_change ds is_nonblocking arms n i) none)
        (and_left (sure ds any_kind x n i) (arms_sure ds any_kind arms n i) h))
        (arms_sure_blocking arms n i
        (right_none (changes ds is_nonblocking x n i) (arms_change ds is_nonblocking arms n i) none)
        (and_right (sure ds any_kind x n i) (arms_sure ds any_kind arms n i) h))

-- ---- a name with its place

some_earlier : (p : Pos) (o : Option Pos) → is_none (earlier_place (Some p) o) ≡ false
some_earlier p None = refl
some_earlier p (Some q) = by (is_earlier q p)
  where
    by : (b : Bool) → is_none (if b then Some q else Some p) ≡ false
    by true = refl
    by false = refl

later : (p q : Option Pos) → is_none q ≡ false → is_none (earlier_place p q) ≡ false
later None q h = h
later (Some p) q h = some_earlier p q

-- a driver that assigns the name has a place
pub place_there : (drivers : List Driver) (d : Decl) (j : ℕ) (x : Driver) → slice_get drivers j ≡ Some x
    → assigns_to any_kind x.what d ≡ true → is_none (place_of drivers d) ≡ false
place_there [] d j x e h = absurd (true≢false (ap is_none e))
place_there (y ∷ ys) d zero x e h =
    subst (λ b. is_none (earlier_place (if b then Some y.pos else None) (place_of ys d)) ≡ false)
    (sym (subst (λ z. assigns_to any_kind z.what d ≡ true) (sym (same_Some y x e)) h))
    (some_earlier y.pos (place_of ys d))
place_there (y ∷ ys) d (suc j) x e h =
    later (if assigns_to any_kind y.what d then Some y.pos else None) (place_of ys d) (place_there ys d j x e h)

-- a test whose name isn't answered fails, where some driver assigns the name
pub unnamed : (drivers : List Driver) (d : Decl) (b : Bool) → named_if drivers d b ≡ None
    → is_none (place_of drivers d) ≡ false → b ≡ false
unnamed drivers d true e h = by (place_of drivers d) e h
  where
    by : (o : Option Pos) → with_name d.name o ≡ None → is_none o ≡ false → true ≡ false
    by None e n = n
    by (Some p) e n = sym (ap is_none e)
unnamed drivers d false e h = refl

waits_of : (drivers : List Driver) (d : Decl) (j : ℕ) (x : Driver) → slice_get drivers j ≡ Some x
    → is_clocked x.what ≡ false → assigns_to is_nonblocking x.what d ≡ true → some_waits drivers d ≡ true
waits_of [] d j x e c h = absurd (true≢false (ap is_none e))
waits_of (y ∷ ys) d zero x e c h =
    or_left (not (is_clocked y.what) && assigns_to is_nonblocking y.what d) (some_waits ys d)
    (subst (λ z. (not (is_clocked z.what) && assigns_to is_nonblocking z.what d) ≡ true) (sym (same_Some y x e))
    (and_both (not (is_clocked x.what)) (assigns_to is_nonblocking x.what d) (ap not c) h))
waits_of (y ∷ ys) d (suc j) x e c h =
    or_right (not (is_clocked y.what) && assigns_to is_nonblocking y.what d) (some_waits ys d)
    (waits_of ys d j x e c h)

-- assignments of each kind count among those of any kind
pub of_any_kind : (x : DriverKind) (d : Decl) → (assigns_to is_blocking x d || assigns_to is_nonblocking x d) ≡ true
    → assigns_to any_kind x d ≡ true
of_any_kind (k.Assign l e) d h = h
of_any_kind (k.Comb s) d h = either_kind s d.name ∙ h
of_any_kind (k.Clocked s) d h = either_kind s d.name ∙ h

module _ (ds : List Decl) where
  -- ---- no latch

  latched_of : (drivers : List Driver) (n : List ℕ) (i j : ℕ) (x : Driver) → slice_get drivers j ≡ Some x
      → latched_by ds x.what n i ≡ true → latched ds drivers n i ≡ true
  latched_of [] n i j x e h = absurd (true≢false (ap is_none e))
  latched_of (y ∷ ys) n i zero x e h =
      or_left (latched_by ds y.what n i) (latched ds ys n i)
      (subst (λ z. latched_by ds z.what n i ≡ true) (sym (same_Some y x e)) h)
  latched_of (y ∷ ys) n i (suc j) x e h =
      or_right (latched_by ds y.what n i) (latched ds ys n i) (latched_of ys n i j x e h)

  no_latch : (drivers : List Driver) → latch ds drivers ≡ None → (d : Decl) → declared_as ds d.name ≡ Some d
      → is_none (place_of drivers d) ≡ false → has_bit (latched ds drivers) d ≡ false
  no_latch drivers none d own =
      unnamed drivers d (has_bit (latched ds drivers) d)
      (each_declared_as (λ d. named_if drivers d (has_bit (latched ds drivers) d) ≡ None) ds d.name d own
      (none_of_names (λ d. named_if drivers d (has_bit (latched ds drivers) d)) ds none))

  -- ---- nothing mixed

  pub unmixed : (drivers : List Driver) → mixed ds drivers ≡ None → (d : Decl) → declared_as ds d.name ≡ Some d
      → is_none (place_of drivers d) ≡ false → is_mixed drivers d ≡ false
  unmixed drivers none d own =
      unnamed drivers d (is_mixed drivers d)
      (each_declared_as (λ d. named_if drivers d (is_mixed drivers d) ≡ None) ds d.name d own
      (none_of_names (λ d. named_if drivers d (is_mixed drivers d)) ds none))

  -- ---- a block without latches

  pub comb_is_whole : (drivers : List Driver) → All (λ x. IsDriver ds x.what) drivers → latch ds drivers ≡ None
      → mixed ds drivers ≡ None → (j : ℕ) (x : Driver) (s : Stmt) → slice_get drivers j ≡ Some x
      → x.what ≡ k.Comb s → Covers (sure ds is_blocking s) (assigns (flat_scopes ds) s)
  comb_is_whole drivers are none pure j x s e what n i h =
      sure_blocking ds s n i
      (none_of (changes ds is_nonblocking s n i) (λ t.
      let waiting = block_named ds is_nonblocking s is n i t in
      let d = waiting.0.decl in
      let to = assigned is_nonblocking d waiting.1 in
      let any = of_any_kind x.what d (or_right (assigns_to is_blocking x.what d) (assigns_to is_nonblocking x.what d) to) in
      sym (right_none (some_assigns is_blocking drivers d && some_assigns is_nonblocking drivers d)
      (some_waits drivers d)
      (unmixed drivers pure d waiting.0.of.declared (place_there drivers d j x e any)))
      ∙ waits_of drivers d j x e (ap is_clocked what) to))
      (of_not (sure ds any_kind s n i) (λ t.
      let changed = block_named ds any_kind s is n i (any_kind_changes ds s n i ∙ h) in
      let d = changed.0.decl in
      sym (no_latch drivers none d changed.0.of.declared
      (place_there drivers d j x e (assigned any_kind d changed.1)))
      ∙ has_it (latched ds drivers) d n i changed.0.of.cell changed.0.below
      (latched_of drivers n i j x e
      (subst (λ y. latched_by ds y n i ≡ true) (sym what)
      (and_both (assigns (flat_scopes ds) s n i) (not (sure ds any_kind s n i)) h (ap not t))))))
    where
      is : IsBlock ds s
      is = subst (IsDriver ds) what (all_at (λ x. IsDriver ds x.what) drivers j x e are)

      assigned : (counts : AssignKind → Bool) (d : Decl) → contains_name (assigned_names counts s) d.name ≡ true
          → assigns_to counts x.what d ≡ true
      assigned counts d h = ap (λ y. assigns_to counts y d) what ∙ h

      of_not : (c : Bool) → (c ≡ false → false ≡ true) → c ≡ true
      of_not true f = refl
      of_not false f = f refl
