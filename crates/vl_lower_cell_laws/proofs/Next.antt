-- What clocked blocks store, one after the other, is a next map on each bit that is kept.
use Rattle.std.specs.Prelude.{◌≡◌, refl, ℕ, zero, suc, ◌<◌, ◌≤◌, List, [], ◌∷◌, Bool, true, false, not, All, Option}
use Rattle.std.specs.Prelude.{Some}
use Rattle.std.specs.Prelude.{None, is_none, slice_get, ◌++◌}
use Rattle.std.proofs.Common.{ap, sym, ◌∙◌, arith, subst, true≢false}
use Rattle.std.proofs.lemmas.List.Elements.{All-head, All-tail}
use Rattle.std.proofs.lemmas.Option.{same_Some}
use Rattle.vl_tree.specs.Stmt.{Stmt}
use Rattle.vl_size.specs.declared.decl.Class.{Class}
use Rattle.vl_size.specs.declared.decl.Class.TheVariants as class
use Rattle.vl_size.specs.declared.decl.Decl.{Decl}
use Rattle.vl_size.specs.Size.{Values}
use Rattle.vl_size.specs.Table.{AreApart, AreDifferent, IsShaped, declared_as}
use Rattle.vl_mean.specs.declared.driver.Driver.{Driver}
use Rattle.vl_mean.specs.declared.driver.DriverKind.{DriverKind}
use Rattle.vl_mean.specs.declared.driver.DriverKind.TheVariants as k
use Rattle.vl_mean.specs.declared.driver.Start.{Start}
use Rattle.vl_mean.specs.Execution.{assigns, begun, ended, exec}
use Rattle.vl_mean.specs.Cells.{cells}
use Rattle.vl_mean.specs.FlatLaw.{IsBlock, IsDriver, IsLawful, flat_scopes, is_net, is_variable}
use Rattle.vl_mean.specs.FlatParts.{driver_part, parts_of}
use Rattle.vl_mean.specs.Parts.{Part}
use Rattle.vl_mean.specs.Runs.{Each, EachBelow, Keeps, Next, OnlyIf, PartSteps, is_assigned, is_assigned_by, is_driven}
use Rattle.vl_mean.specs.Targets.{bit_of}
use Rattle.vl_flow_spec.specs.Drivers.{driven_by}
use Rattle.vl_flow_spec.specs.Paths.{changes, is_blocking}
use Rattle.vl_flow_spec.specs.Reads.{IsCellOf}
use Rattle.vl_flow_spec.proofs.Bools.{none_of, or_case, or_left, or_right}
use Rattle.vl_flow_spec.proofs.Cells.{each_of_contained}
use Rattle.vl_flow_spec.specs.Refusals.{HasNoRefusal, mixed, two_drivers}
use Rattle.vl_flow_spec.specs.Sequence.{IsSequence}
use Rattle.vl_flow_spec.proofs.Changed.{block_changed, driver_changed}
use Rattle.vl_flow_spec.proofs.Elements.{all_at, decl_parts, driver_parts, each_below_of, nothing, start_parts}
use Rattle.vl_flow_spec.proofs.Held as held
use Rattle.vl_flow_spec.proofs.Single.{single}
use Rattle.vl_lower_assign.specs.Stored.{stored}
use Rattle.vl_lower_assign.proofs.Stores.{stored_later, stored_now}
use Rattle.vl_lower_spec.specs.Built.{AreKeptAlike}
use Rattle.vl_lower_spec.proofs.Agreeing as agreeing
use Rattle.vl_lower_spec.proofs.Kept as kept
use Rattle.vl_lower_cell_laws.specs.Ticked.{TickedMapsAreNext, stored_by, ticked}
use Rattle.vl_lower_cell_laws.proofs.Apart.{one_way}
use Rattle.vl_lower_cell_laws.proofs.Stays.{stored_stays}

pub not_net : (d : Decl) (c : Class) → d.class ≡ c → is_net d ≡ true → is_variable d ≡ true → ⊥
not_net d class.Net e n v = true≢false (sym v ∙ ap (λ c. is_variable (record d { class = c })) e)
not_net d class.Variable e n v = true≢false (sym n ∙ ap (λ c. is_net (record d { class = c })) e)
not_net d class.Clock e n v = true≢false (sym n ∙ ap (λ c. is_net (record d { class = c })) e)
not_net d class.Reset e n v = true≢false (sym n ∙ ap (λ c. is_net (record d { class = c })) e)
not_net d class.Input e n v = true≢false (sym n ∙ ap (λ c. is_net (record d { class = c })) e)
not_net d class.EachCycle e n v = true≢false (sym n ∙ ap (λ c. is_net (record d { class = c })) e)
not_net d class.Once e n v = true≢false (sym n ∙ ap (λ c. is_net (record d { class = c })) e)

module _ (ds : List Decl) (wide : (d : Decl) → declared_as ds d.name ≡ Some d → 1 ≤ d.width) (v : Values) (n : List ℕ)
    (i : ℕ) where
  -- what a driver doesn't drive it doesn't store
  by_stays : (x : DriverKind) → IsDriver ds x → driven_by ds x n i ≡ false → (w : Values)
      → bit_of (stored_by ds x v w n) i ≡ bit_of (w n) i
  by_stays (k.Assign l e) is free w = refl
  by_stays (k.Comb z) is free w = refl
  by_stays (k.Clocked z) is free w = stored_stays ds wide z is (begun v) w n i free

  ticked_stays : (xs : List Driver) → All (λ x. IsDriver ds x.what) xs
      → ((m : ℕ) (y : Driver) → slice_get xs m ≡ Some y → driven_by ds y.what n i ≡ false) → (w : Values)
      → bit_of (ticked ds xs v w n) i ≡ bit_of (w n) i
  ticked_stays [] are none w = refl
  ticked_stays (x ∷ xs) are none w =
      ticked_stays xs (All-tail (λ x. IsDriver ds x.what) x xs are) (λ m y e. none (suc m) y e) (stored_by ds x.what v w)
      ∙ by_stays x.what (All-head (λ x. IsDriver ds x.what) x xs are) (none zero x refl) w

  -- a bit that one clocked block alone drives
  module _ (z : Stmt) (is : IsBlock ds z) (stores : (w : Values) → bit_of (w n) i ≡ bit_of (v n) i
      → bit_of (stored (flat_scopes ds) z (begun v) w n) i
      ≡ bit_of (ended (exec (flat_scopes ds) z (begun v)) n) i) where
    ticked_at : (xs : List Driver) → All (λ x. IsDriver ds x.what) xs → (j : ℕ) (x : Driver) → slice_get xs j ≡ Some x
        → x.what ≡ k.Clocked z
        → ((m : ℕ) (y : Driver) → slice_get xs m ≡ Some y → driven_by ds y.what n i ≡ true → m ≡ j) → (w : Values)
        → bit_of (w n) i ≡ bit_of (v n) i
        → bit_of (ticked ds xs v w n) i ≡ bit_of (ended (exec (flat_scopes ds) z (begun v)) n) i
    ticked_at [] are j x e what alone w same = absurd (true≢false (ap none_there e))
      where
        none_there : Option Driver → Bool
        none_there None = true
        none_there (Some y) = false
    ticked_at (y ∷ ys) are zero x e what alone w same =
        ticked_stays ys (All-tail (λ x. IsDriver ds x.what) y ys are)
        (λ m q at. none_of (driven_by ds q.what n i) (λ t.
        let far : suc m ≡ zero = alone (suc m) q at t in absurd (omega (arith, far))))
        (stored_by ds y.what v w)
        ∙ ap (λ o. bit_of (stored_by ds o v w n) i) (ap (λ (q : Driver). q.what) (same_Some y x e) ∙ what)
        ∙ stores w same
    ticked_at (y ∷ ys) are (suc j) x e what alone w same =
        ticked_at ys (All-tail (λ x. IsDriver ds x.what) y ys are) j x e what
        (λ m q at t. let far : suc m ≡ suc j = alone (suc m) q at t in omega (arith, far)) (stored_by ds y.what v w)
        (by_stays y.what (All-head (λ x. IsDriver ds x.what) y ys are)
        (none_of (driven_by ds y.what n i) (λ t.
        let far : zero ≡ suc j = alone zero y refl t in absurd (omega (arith, far)))) w ∙ same)

module _ (ds : List Decl) (drivers : List Driver) (firsts : List Start) (s : List ℕ) (shaped : All IsShaped ds)
    (different : AreDifferent ds) (apart : AreApart ds) (lawful : IsLawful ds drivers firsts)
    (none : HasNoRefusal ds drivers) (order : IsSequence ds drivers s) (v w : Values)
    (alike : AreKeptAlike (parts_of ds drivers firsts) w v) where
  abbrev ps : List Part
  ps = parts_of ds drivers firsts

  wide : (d : Decl) → declared_as ds d.name ≡ Some d → 1 ≤ d.width
  wide = held.wide ds drivers firsts shaped different apart lawful none s order

  abbrev after : Values
  after = ticked ds drivers v w

  kept_at : (d : Decl) (n : List ℕ) (i : ℕ) → IsCellOf ds d n → i < d.width → d.class ≡ class.Variable
      → is_driven ps n i ≡ false → bit_of (w n) i ≡ bit_of (v n) i
  kept_at = kept.kept_at ds drivers firsts shaped different apart lawful none s order v w v alike

  -- ---- what no block assigns

  assigned_among : (xs : List Driver) (n : List ℕ) (i m : ℕ) (y : Driver) → slice_get xs m ≡ Some y
      → is_assigned_by (driver_part (flat_scopes ds) y.what) n i ≡ true
      → is_assigned (driver_parts (flat_scopes ds) xs) n i ≡ true
  assigned_among [] n i m y e h = absurd (true≢false (ap is_none e))
  assigned_among (x ∷ xs) n i zero y e h =
      or_left (is_assigned_by (driver_part (flat_scopes ds) x.what) n i)
      (is_assigned (driver_parts (flat_scopes ds) xs) n i)
      (subst (λ q. is_assigned_by (driver_part (flat_scopes ds) q.what) n i ≡ true) (sym (same_Some x y e)) h)
  assigned_among (x ∷ xs) n i (suc m) y e h =
      or_right (is_assigned_by (driver_part (flat_scopes ds) x.what) n i)
      (is_assigned (driver_parts (flat_scopes ds) xs) n i) (assigned_among xs n i m y e h)

  assigned_front : (qs rs : List Part) (n : List ℕ) (i : ℕ) → is_assigned qs n i ≡ true
      → is_assigned (qs ++ rs) n i ≡ true
  assigned_front [] rs n i h = absurd (true≢false (sym h))
  assigned_front (q ∷ qs) rs n i h =
      or_case (is_assigned_by q n i) (is_assigned qs n i) (or_left (is_assigned_by q n i) (is_assigned (qs ++ rs) n i))
      (λ t. or_right (is_assigned_by q n i) (is_assigned (qs ++ rs) n i) (assigned_front qs rs n i t)) h

  assigned_back : (es : List Decl) (rs : List Part) (n : List ℕ) (i : ℕ) → is_assigned rs n i ≡ true
      → is_assigned (decl_parts es ++ rs) n i ≡ true
  assigned_back [] rs n i h = h
  assigned_back (e ∷ es) rs n i h = assigned_back es rs n i h

  assigned_by : (n : List ℕ) (i m : ℕ) (y : Driver) → slice_get drivers m ≡ Some y
      → is_assigned_by (driver_part (flat_scopes ds) y.what) n i ≡ true → is_assigned ps n i ≡ true
  assigned_by n i m y e h =
      assigned_front (decl_parts ds ++ driver_parts (flat_scopes ds) drivers) (start_parts (flat_scopes ds) firsts) n i
      (assigned_back ds (driver_parts (flat_scopes ds) drivers) n i (assigned_among drivers n i m y e h))

  -- a bit of a variable that no block assigns has no driver
  undriven : (n : List ℕ) (i : ℕ) (d : Decl) → IsCellOf ds d n → is_variable d ≡ true → is_assigned ps n i ≡ false
      → (m : ℕ) (y : Driver) → slice_get drivers m ≡ Some y → driven_by ds y.what n i ≡ false
  undriven n i d of var free m y at =
      none_of (driven_by ds y.what n i) (λ t. by y.what refl
      (all_at (λ x. IsDriver ds x.what) drivers m y at lawful.driven) t)
    where
      by : (o : DriverKind) → y.what ≡ o → IsDriver ds y.what → driven_by ds y.what n i ≡ true → false ≡ true
      by (k.Assign l e) what is t =
          let c = driver_changed ds (k.Assign l e) (subst (IsDriver ds) what is) n i
          (sym (ap (λ o. driven_by ds o n i) what) ∙ t) in
          let same : c.decl ≡ d =
          held.cells ds drivers firsts shaped different apart lawful none s order c.decl d n c.of of in
          absurd (not_net d d.class refl (subst (λ q. is_net q ≡ true) same c.may_be) var)
      by (k.Comb z) what is t =
          sym free ∙ assigned_by n i m y at
          (ap (λ o. is_assigned_by (driver_part (flat_scopes ds) o) n i) what
          ∙ sym (ap (λ o. driven_by ds o n i) what) ∙ t)
      by (k.Clocked z) what is t =
          sym free ∙ assigned_by n i m y at
          (ap (λ o. is_assigned_by (driver_part (flat_scopes ds) o) n i) what
          ∙ sym (ap (λ o. driven_by ds o n i) what) ∙ t)

  where_free : (b : Bool) (P : Type 0) → (b ≡ false → P) → OnlyIf (not b) P
  where_free true P f = tt
  where_free false P f = f refl

  keeps : (d : Decl) → declared_as ds d.name ≡ Some d → (c : Class) → d.class ≡ c → Keeps ps v after d c
  keeps d own class.Variable e =
      each_of_contained (λ n. EachBelow (λ i. Q n i) d.width) (cells d) (λ n c.
      each_below_of (λ i. Q n i) d.width (λ i less.
      let of : IsCellOf ds d n = record { declared = own; cell = c } in
      where_free (is_assigned ps n i) (bit_of (after n) i ≡ bit_of (v n) i)
      (λ free. ticked_stays ds wide v n i drivers lawful.driven
      (undriven n i d of (ap (λ c. is_variable (record d { class = c })) e) free) w
      ∙ kept_at d n i of less e
      (none_of (is_driven ps n i) (λ yes. sym free ∙ kept.driven_less ps n i yes)))))
    where
      Q : List ℕ → ℕ → Type 0
      Q n i = OnlyIf (not (is_assigned ps n i)) (bit_of (after n) i ≡ bit_of (v n) i)
  keeps d own class.Clock e = tt
  keeps d own class.Input e = tt
  keeps d own class.Reset e = tt
  keeps d own class.EachCycle e = tt
  keeps d own class.Once e = tt
  keeps d own class.Net e = tt

  -- ---- what a clocked block assigns

  stores : (j : ℕ) (x : Driver) (z : Stmt) → slice_get drivers j ≡ Some x → x.what ≡ k.Clocked z → IsBlock ds z
      → (d : Decl) (n : List ℕ) (i : ℕ) → IsCellOf ds d n → i < d.width → assigns (flat_scopes ds) z n i ≡ true
      → (m : Values) → bit_of (m n) i ≡ bit_of (v n) i
      → bit_of (stored (flat_scopes ds) z (begun v) m n) i
      ≡ bit_of (ended (exec (flat_scopes ds) z (begun v)) n) i
  stores j x z e what is d n i of below t m h = by (changes ds is_blocking z n i) refl
    where
      by : (b : Bool) → changes ds is_blocking z n i ≡ b
          → bit_of (stored (flat_scopes ds) z (begun v) m n) i
          ≡ bit_of (ended (exec (flat_scopes ds) z (begun v)) n) i
      by true now =
          stored_now ds wide n i z is
          (one_way ds (held.cells ds drivers firsts shaped different apart lawful none s order) drivers
          (nothing (mixed ds drivers) none.pure) j x z e what is n i now) v m h
      by false later = stored_later ds wide n i z is later v m h

  ticks : (j : ℕ) (x : Driver) → slice_get drivers j ≡ Some x → IsDriver ds x.what → (y : DriverKind) → x.what ≡ y
      → PartSteps ps v after (driver_part (flat_scopes ds) y)
  ticks j x e is (k.Assign l f) what = tt
  ticks j x e is (k.Comb z) what = tt
  ticks j x e is (k.Clocked z) what =
      let block : IsBlock ds z = subst (IsDriver ds) what is in
      agreeing.bits_all ds drivers firsts shaped different apart lawful none s order
      (λ n i. bit_of (after n) i ≡ bit_of (ended (exec (flat_scopes ds) z (begun v)) n) i)
      (λ d n i. assigns (flat_scopes ds) z n i)
      (λ d n i of below t.
      let c = block_changed ds z block n i t in
      ticked_at ds wide v n i z block (stores j x z e what block d n i of below t) drivers lawful.driven j x e what
      (λ m y at drives.
      single ds wide (held.cells ds drivers firsts shaped different apart lawful none s order) lawful.kept drivers
      lawful.driven (nothing (two_drivers ds drivers) none.single) m j y x at e n i drives
      (ap (λ o. driven_by ds o n i) what ∙ t))
      w
      (kept_at c.decl n i c.of c.below (kept.variable_is c.decl c.decl.class refl c.may_be)
      (kept.clocked_alone ds drivers firsts shaped different apart lawful none s order j x e z what n i t)))

  -- ---- all parts

  trivial : (qs : List Part) → Each (λ p. Unit {0}) qs
  trivial [] = tt
  trivial (q ∷ qs) = (tt, trivial qs)

  next : Next ps v after
  next =
      agreeing.parts_map ds drivers firsts shaped different apart lawful none s order (λ p. Unit {0})
      (PartSteps ps v after) (λ d own h. keeps d own d.class refl) (λ j x e is h. ticks j x e is x.what refl) (λ x. tt)
      (trivial ps)

pub may_come : TickedMapsAreNext
may_come ds drivers firsts s shaped different apart lawful none order v w alike =
    next ds drivers firsts s shaped different apart lawful none order v w alike
