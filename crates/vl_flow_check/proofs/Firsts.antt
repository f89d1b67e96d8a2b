-- The first name that is marked, with the earliest place of its drivers.
use Rattle.std.specs.Prelude.{◌≡◌, refl, ℕ, zero, suc, ◌+◌, ◌<◌, ◌≤◌, List, [], ◌∷◌, length, drop, Bool, true, false}
use Rattle.std.specs.Prelude.{◌||◌, IfSome, Option, Some, None, is_none, is_some, slice_get, if◌then◌else◌}
use Rattle.std.proofs.Common.{ap, sym, ◌∙◌, arith, subst, true≢false, get_or, ◌⊎◌, inl, inr}
use Rattle.std.proofs.lemmas.Bool.{cases_order}
use Rattle.std.proofs.lemmas.Option.{same_Some, slice_get-get_or}
use Rattle.std.proofs.Math.Seq.{drop-cons}
use Rattle.fv_text.specs.declared.pos.Pos.{Pos}
use Rattle.vl_size.specs.declared.decl.Decl.{Decl}
use Rattle.vl_size.specs.Places.{earlier_place}
use Rattle.vl_mean.specs.declared.driver.Driver.{Driver}
use Rattle.vl_mean.specs.declared.driver.DriverKind.{DriverKind}
use Rattle.vl_mean.specs.declared.driver.DriverKind.TheVariants as k
use Rattle.fv_bit_sets.specs.declared.step.Step.{Step}
use Rattle.fv_bit_sets.specs.Cells.{has, IsBare, IsBefore}
use Rattle.vl_flow_spec.specs.Paths.{any_kind, is_blocking, is_nonblocking}
use Rattle.vl_flow_spec.specs.Refusals.{assigns_to, first_of_names, named_if, place_of, with_name}
use Rattle.vl_flow_spec.proofs.AssignKinds.{either_kind}
use Rattle.vl_flow_effects.specs.declared.assigned.Assigned.{Assigned}
use Rattle.vl_flow_effects.specs.Assigning.{AreAssignedBy}
use Rattle.vl_flow_cells.proofs.Lists.{get_less}
use Rattle.vl_flow_check.specs.Layouts.{Marks}

-- ---- whether a driver assigns the name

module _ (ds : List Decl) (x : Driver) (a : Assigned) (place : ℕ) (d : Decl) (is : AreAssignedBy ds a x.what)
    (at : slice_get ds place ≡ Some d) where
  -- a block assigns by assignments of one kind or of the other
  kinds : (y : DriverKind) → assigns_to any_kind y d ≡ (assigns_to is_blocking y d || assigns_to is_nonblocking y d)
  kinds (k.Assign l e) = refl
  kinds (k.Comb s) = either_kind s d.name
  kinds (k.Clocked s) = either_kind s d.name

  pub whether : (has a.blocking place 0 || has a.nonblocking place 0) ≡ assigns_to any_kind x.what d
  whether = (λ i. is.blocking.is place d at i || is.nonblocking.is place d at i) ∙ sym (kinds x.what)

pub some_if : (b : Bool) (p : Pos) → b ≡ true → Some p ≡ (if b then Some p else None)
some_if b p e = ap (λ t. if t then Some p else None) (sym e)

pub none_if : (b : Bool) (p : Pos) → b ≡ false → None ≡ (if b then Some p else None)
none_if b p e = ap (λ t. if t then Some p else None) (sym e)

-- ---- from the last driver on

module _ (drivers : List Driver) (d : Decl) where
  pub none_behind : (rest : ℕ) → length drivers ≤ rest → None ≡ place_of (drop rest drivers) d
  none_behind rest le = ap (λ xs. place_of xs d) (sym (behind drivers rest le))
    where
      behind : (xs : List Driver) (k : ℕ) → length xs ≤ k → drop k xs ≡ []
      behind [] zero h = refl
      behind [] (suc k) h = refl
      behind (x ∷ xs) zero h = absurd (omega (arith, h))
      behind (x ∷ xs) (suc k) h = behind xs k (omega (arith, h))

  pub one_before : (rest : ℕ) (x : Driver) (one found made : Option Pos) → slice_get drivers rest ≡ Some x
      → one ≡ (if assigns_to any_kind x.what d then Some x.pos else None)
      → found ≡ place_of (drop (rest + 1) drivers) d → made ≡ earlier_place one found
      → made ≡ place_of (drop rest drivers) d
  one_before rest x one found made e is were is_made =
      let less = get_less drivers rest x e in
      let same : get_or drivers rest x ≡ x =
      same_Some (get_or drivers rest x) x (sym (slice_get-get_or drivers rest x less) ∙ e) in
      let next : rest + 1 ≡ suc rest = omega arith in
      let parts : drop rest drivers ≡ x ∷ drop (rest + 1) drivers =
      drop-cons drivers rest x less ∙ ap (λ y. y ∷ drop (suc rest) drivers) same
      ∙ ap (λ k. x ∷ drop k drivers) (sym next) in
      is_made ∙ (λ j. earlier_place (is j) (were j)) ∙ ap (λ xs. place_of xs d) (sym parts)

-- ---- the first name

module _ {A : Type 0} (f : Decl → Option A) where
  pub first_at : (ds : List Decl) (p : ℕ) (d : Decl) (v : A) → slice_get ds p ≡ Some d → f d ≡ Some v
      → ((k : ℕ) (e : Decl) → k < p → slice_get ds k ≡ Some e → f e ≡ None) → first_of_names f ds ≡ Some v
  first_at [] p d v at is before = absurd (true≢false (ap is_none at))
  first_at (x ∷ ds) zero d v at is before =
      let here : f x ≡ Some v = ap f (same_Some x d at) ∙ is in
      ap (λ o. if is_none o then first_of_names f ds else o) here
  first_at (x ∷ ds) (suc p) d v at is before =
      ap (λ o. if is_none o then first_of_names f ds else o) (before 0 x (omega arith) refl)
      ∙ first_at ds p d v at is (λ k e less h. before (suc k) e (omega (arith, less)) h)

  pub none_at : (ds : List Decl) → ((k : ℕ) (e : Decl) → slice_get ds k ≡ Some e → f e ≡ None)
      → first_of_names f ds ≡ None
  none_at [] h = refl
  none_at (x ∷ ds) h =
      ap (λ o. if is_none o then first_of_names f ds else o) (h 0 x refl)
      ∙ none_at ds (λ k e at. h (suc k) e at)

-- ---- a walk over the marked names

module _ (ds : List Decl) (drivers : List Driver) (marked : List Step) where
  -- the marked names before this place have no driver
  abbrev pub ArePassed : Option ℕ → Type 0
  ArePassed next =
      (k : ℕ) (d : Decl) → IsBefore k next → slice_get ds k ≡ Some d → has marked k 0 ≡ true
      → place_of drivers d ≡ None

  abbrev pub IsMarked : Option ℕ → Type 0
  IsMarked next = (place : ℕ) → next ≡ Some place → has marked place 0 ≡ true

  pub next_marked : (from : ℕ) (next : Option ℕ) → ((place bit : ℕ) → 0 < bit → has marked place bit ≡ false)
      → IfSome next (λ cell. (from ≤ cell) × ((bit : ℕ) × (has marked cell bit ≡ true))) → IsMarked next
  next_marked from None alone h place e = absurd (true≢false (ap is_none e))
  next_marked from (Some p) alone h place e =
      subst (λ q. has marked q 0 ≡ true) (same_Some p place e) (lowest h.1.0 h.1.1)
    where
      lowest : (bit : ℕ) → has marked p bit ≡ true → has marked p 0 ≡ true
      lowest zero h = h
      lowest (suc bit) h = absurd (true≢false (sym h ∙ alone p (suc bit) (omega arith)))

  bare_passed : (d : Decl) (k : ℕ) → IsBare marked k → has marked k 0 ≡ true → place_of drivers d ≡ None
  bare_passed d k bare h = absurd (true≢false (sym h ∙ bare 0))

  pub first_passed : (next : Option ℕ) → ((cell : ℕ) → 0 ≤ cell → IsBefore cell next → IsBare marked cell)
      → ArePassed next
  first_passed next bare k d before at h = bare_passed d k (bare k (omega arith) before) h

  pub more_passed : (place : ℕ) (next : Option ℕ) → ArePassed (Some place)
      → ((d : Decl) → slice_get ds place ≡ Some d → place_of drivers d ≡ None)
      → ((cell : ℕ) → place + 1 ≤ cell → IsBefore cell next → IsBare marked cell) → ArePassed next
  more_passed place next were here bare k d before at h = by (cases_order k place)
    where
      by : (k ≡ place) ⊎ ((k < place) ⊎ (place < k)) → place_of drivers d ≡ None
      by (inl same) = here d (ap (slice_get ds) (sym same) ∙ at)
      by (inr (inl less)) = were k d less at h
      by (inr (inr more)) = bare_passed d k (bare k (omega (arith, more)) before) h

  module _ (test : Decl → Bool) (marks : Marks ds marked test) where
    passed_none : (k : ℕ) (d : Decl) → slice_get ds k ≡ Some d
        → (has marked k 0 ≡ true → place_of drivers d ≡ None) → named_if drivers d (test d) ≡ None
    passed_none k d at f = by (test d) (λ h. f (marks.is k d at ∙ h))
      where
        by : (b : Bool) → (b ≡ true → place_of drivers d ≡ None) → named_if drivers d b ≡ None
        by false g = refl
        by true g = ap (with_name d.name) (g refl)

    pub none_found : ArePassed None → None ≡ first_of_names (λ d. named_if drivers d (test d)) ds
    none_found w =
        sym (none_at (λ d. named_if drivers d (test d)) ds
        (λ k d at. passed_none k d at (w k d tt at)))

    pub name_found : (place : ℕ) (d : Decl) (found : Option (List ℕ × Pos)) → slice_get ds place ≡ Some d
        → has marked place 0 ≡ true → ArePassed (Some place) → found ≡ with_name d.name (place_of drivers d)
        → is_none found ≡ false → found ≡ first_of_names (λ e. named_if drivers e (test e)) ds
    name_found place d found at h w is some = by found refl some
      where
        here : named_if drivers d (test d) ≡ found
        here = ap (named_if drivers d) (sym (marks.is place d at) ∙ h) ∙ sym is

        by : (o : Option (List ℕ × Pos)) → found ≡ o → is_none o ≡ false
            → found ≡ first_of_names (λ e. named_if drivers e (test e)) ds
        by None e f = absurd (true≢false f)
        by (Some v) e f =
            e ∙ sym (first_at (λ z. named_if drivers z (test z)) ds place d v at (here ∙ e)
            (λ k z less g. passed_none k z g (w k z less g)))

pub no_name : (text : List ℕ) (o : Option Pos) (found : Option (List ℕ × Pos)) → found ≡ with_name text o
    → is_some found ≡ false → o ≡ None
no_name text None found e h = refl
no_name text (Some p) found e h = absurd (true≢false (sym (ap is_some e) ∙ h))

pub some_not_none : {A : Type 0} (o : Option A) → is_some o ≡ true → is_none o ≡ false
some_not_none None h = absurd (true≢false (sym h))
some_not_none (Some x) h = refl
