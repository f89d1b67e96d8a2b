-- Which bits begin with a value: those that the targets change.
use Rattle.std.specs.Prelude.{◌≡◌, refl, ℕ, ◌==◌, List, [], ◌∷◌, ◌++◌, length, map, max, Bool, true, false}
use Rattle.std.specs.Prelude.{◌&&◌, ◌||◌, nat_lt}
use Rattle.std.specs.Prelude.{Option, Some, None, is_none, is_some, bytes_eq, if◌then◌else◌}
use Rattle.std.proofs.Common.{ap, sym, ◌∙◌}
use Rattle.vl_tree.specs.Expr.{Selects, name, number}
use Rattle.vl_tree.specs.Lval.{Lval, Lvals, named, joined, no_lvals, more_lvals}
use Rattle.vl_size.specs.declared.decl.Decl.{Decl}
use Rattle.vl_mean.specs.Cells.{is_cell}
use Rattle.vl_mean.specs.Constants.{number_of}
use Rattle.vl_mean.specs.Execution.{assigned}
use Rattle.vl_mean.specs.declared.driver.Driver.{Driver}
use Rattle.vl_mean.specs.declared.driver.DriverKind.{DriverKind}
use Rattle.vl_mean.specs.declared.driver.DriverKind.TheVariants as kind
use Rattle.vl_mean.specs.declared.driver.Start.{Start}
use Rattle.vl_mean.specs.FlatLaw.{AreTargets, IsTarget, flat_scopes, is_variable}
use Rattle.vl_mean.specs.FlatParts.{driver_part, parts_of, start_part}
use Rattle.vl_mean.specs.Parts.{Part, clocked, combinational, declares, equation, here, starts}
use Rattle.vl_mean.specs.Runs.{initial_writes, is_spot, last_value, later_or}
use Rattle.vl_mean.specs.Scopes.{declared_in, full, no_values, operand_in}
use Rattle.vl_mean.specs.Targets.{Spot, Write, all_spots, any_may_change, are_fixed, bit_of, has_spot}
use Rattle.vl_mean.specs.Targets.{is_decl, may_change}
use Rattle.vl_mean.specs.Targets.{name_may_change, name_spots, spots, spots_of, vector_spots, word_spots, written}
use Rattle.vl_flow_spec.proofs.Spots.{spot_append}
use Rattle.vl_flow_order.proofs.Tests.{or_assoc, or_none}
use Rattle.vl_flow_cells.specs.Sized.{TargetIsSized, TargetsAreSized}
use Rattle.vl_flow_cells.proofs.Sizing.{sized}
use Rattle.vl_flow_effects.specs.Masks.{begins}

-- ---- what is written

-- a spot among others is written
one_written : (o : Option ℕ) (b : Bool) (x : ℕ)
    → is_some (later_or o (if b then Some x else None)) ≡ (b || is_some o)
one_written None true x = refl
one_written None false x = refl
one_written (Some y) true x = refl
one_written (Some y) false x = refl

spots_written : (spots : List (Option Spot)) (x : ℕ) (n : List ℕ) (k : ℕ)
    → is_some (last_value (written spots x) n k) ≡ has_spot n k spots
spots_written [] x n k = refl
spots_written (None ∷ spots) x n k = spots_written spots x n k
spots_written (Some s ∷ spots) x n k =
    one_written (last_value (written spots x) n k) (bytes_eq n s.name && (k == s.offset))
    (bit_of x (length spots))
    ∙ ap (λ b. (bytes_eq n s.name && (k == s.offset)) || b) (spots_written spots x n k)

later_written : (ws vs : List Write) (n : List ℕ) (k : ℕ)
    → is_some (last_value (ws ++ vs) n k) ≡ (is_some (last_value ws n k) || is_some (last_value vs n k))
later_written [] vs n k = refl
later_written (w ∷ ws) vs n k =
    let last = is_some (last_value vs n k) in
    one_written (last_value (ws ++ vs) n k) (is_spot w n k) w.value
    ∙ ap (λ b. is_spot w n k || b) (later_written ws vs n k)
    ∙ sym (or_assoc (is_spot w n k) (is_some (last_value ws n k)) last)
    ∙ ap (λ b. b || last) (sym (one_written (last_value ws n k) (is_spot w n k) w.value))

-- ---- parts

begins_append : (ps qs : List Part) (n : List ℕ) (k : ℕ)
    → begins (ps ++ qs) n k ≡ (begins ps n k || begins qs n k)
begins_append [] qs n k = refl
begins_append (declares d ∷ ps) qs n k = begins_append ps qs n k
begins_append (equation ts l ss e ∷ ps) qs n k = begins_append ps qs n k
begins_append (combinational ss s ∷ ps) qs n k = begins_append ps qs n k
begins_append (clocked ss s ∷ ps) qs n k = begins_append ps qs n k
begins_append (starts ss l e ∷ ps) qs n k =
    let ws = assigned ss l ss e no_values in
    let some = is_some (last_value ws n k) in
    later_written ws (initial_writes (ps ++ qs)) n k ∙ ap (λ b. some || b) (begins_append ps qs n k)
    ∙ sym (or_assoc some (begins ps n k) (begins qs n k))
    ∙ ap (λ b. b || begins qs n k) (sym (later_written ws (initial_writes ps) n k))

by_decls : (ds : List Decl) (n : List ℕ) (k : ℕ) → begins (map (λ d. declares d) ds) n k ≡ false
by_decls [] n k = refl
by_decls (d ∷ ds) n k = by_decls ds n k

module _ (ds : List Decl) where
  -- the part of a start
  abbrev pub part_of : Start → Part
  part_of = start_part (flat_scopes ds)

  abbrev pub start_parts : List Start → List Part
  start_parts xs = map (start_part (flat_scopes ds)) xs

  by_drivers : (drivers : List Driver) (n : List ℕ) (k : ℕ)
      → begins (map (λ x. driver_part (flat_scopes ds) x.what) drivers) n k ≡ false
  by_drivers [] n k = refl
  by_drivers (x ∷ xs) n k = by x.what (by_drivers xs n k)
    where
      by : (y : DriverKind) → begins (map (λ z. driver_part (flat_scopes ds) z.what) xs) n k ≡ false
          → begins (driver_part (flat_scopes ds) y ∷ map (λ z. driver_part (flat_scopes ds) z.what) xs) n k ≡ false
      by (kind.Assign l e) h = h
      by (kind.Comb s) h = h
      by (kind.Clocked s) h = h

  -- starts alone begin
  pub by_starts : (drivers : List Driver) (xs : List Start) (n : List ℕ) (k : ℕ)
      → begins (parts_of ds drivers xs) n k ≡ begins (start_parts xs) n k
  by_starts drivers xs n k =
      let decls = map (λ d. declares d) ds in
      let blocks = map (λ x. driver_part (flat_scopes ds) x.what) drivers in
      begins_append (decls ++ blocks) (start_parts xs) n k
      ∙ (λ i. begins_append decls blocks n k i || begins (start_parts xs) n k)
      ∙ (λ i. (by_decls ds n k i || by_drivers drivers n k i) || begins (start_parts xs) n k)

  pub one_start_more : (xs : List Start) (x : Start) (n : List ℕ) (k : ℕ)
      → begins (start_parts (xs ++ x ∷ [])) n k
      ≡ (begins (start_parts xs) n k || begins (start_part (flat_scopes ds) x ∷ []) n k)
  one_start_more [] x n k = refl
  one_start_more (y ∷ ys) x n k =
      let first = start_part (flat_scopes ds) y in
      begins_append (first ∷ []) (start_parts (ys ++ x ∷ [])) n k
      ∙ ap (λ b. begins (first ∷ []) n k || b) (one_start_more ys x n k)
      ∙ sym (or_assoc (begins (first ∷ []) n k) (begins (start_parts ys) n k)
      (begins (start_part (flat_scopes ds) x ∷ []) n k))
      ∙ ap (λ b. b || begins (start_part (flat_scopes ds) x ∷ []) n k)
      (sym (begins_append (first ∷ []) (start_parts ys) n k))

  -- ---- targets with constant selects

  mutual
    pub target_sized : (l : Lval) → IsTarget ds is_variable true l → TargetIsSized ds l
    target_sized (named p text xs) h = sized ds (name p text xs) h.0.sized
    target_sized (joined p ls) h = targets_sized ls h

    targets_sized : (ls : Lvals) → AreTargets ds is_variable true ls → TargetsAreSized ds ls
    targets_sized no_lvals h = tt
    targets_sized (more_lvals l ls) h = (target_sized l h.0, targets_sized ls h.1)

  module _ (n : List ℕ) (k : ℕ) where
    -- a name's bits that may change are those of its spots
    name_changes : (text : List ℕ) (xs : Selects) → are_fixed (flat_scopes ds) xs ≡ true
        → name_may_change (flat_scopes ds) text xs n k
        ≡ has_spot n k (name_spots (flat_scopes ds) no_values text xs)
    name_changes text xs f = by (declared_in (flat_scopes ds) text) refl
      where
        by : (o : Option Decl) → declared_in (flat_scopes ds) text ≡ o
            → is_decl o (λ d. if are_fixed (flat_scopes ds) xs
            then has_spot n k (name_spots (flat_scopes ds) no_values text xs)
            else is_cell (full (flat_scopes ds) text) d.words n && nat_lt k d.width)
            ≡ has_spot n k (name_spots (flat_scopes ds) no_values text xs)
        by None e =
            ap (has_spot n k) (ap (λ o. spots_of o (λ d. if is_none d.words
            then vector_spots (flat_scopes ds) no_values d (Some (full (flat_scopes ds) text)) xs
            else word_spots (flat_scopes ds) no_values d xs)) (sym e))
        by (Some d) e =
            ap (λ b. if b then has_spot n k (name_spots (flat_scopes ds) no_values text xs)
            else is_cell (full (flat_scopes ds) text) d.words n && nat_lt k d.width) f

    mutual
      target_changes : (l : Lval) → IsTarget ds is_variable true l
          → may_change (flat_scopes ds) l n k ≡ has_spot n k (spots (flat_scopes ds) no_values l)
      target_changes (named p text xs) h = name_changes text xs h.2
      target_changes (joined p ls) h = targets_change ls h

      targets_change : (ls : Lvals) → AreTargets ds is_variable true ls
          → any_may_change (flat_scopes ds) ls n k ≡ has_spot n k (all_spots (flat_scopes ds) no_values ls)
      targets_change no_lvals h = refl
      targets_change (more_lvals l ls) h =
          (λ i. target_changes l h.0 i || targets_change ls h.1 i)
          ∙ sym (spot_append n k (spots (flat_scopes ds) no_values l) (all_spots (flat_scopes ds) no_values ls))

    -- what a start's target may change begins with a value
    pub start_begins : (x : Start) → IsTarget ds is_variable true x.target
        → may_change (flat_scopes ds) x.target n k ≡ begins (start_part (flat_scopes ds) x ∷ []) n k
    start_begins x h =
        let ss = flat_scopes ds in
        let bits = spots ss no_values x.target in
        let e = operand_in ss no_values (number here (number_of x.value)) in
        let y = e.at (max (length bits) e.size) e.sign in
        target_changes x.target h ∙ sym (spots_written bits y n k)
        ∙ sym (or_none (is_some (last_value (written bits y) n k))) ∙ sym (later_written (written bits y) [] n k)
