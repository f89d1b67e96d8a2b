-- Drivers in order: what comes out of settling is left by each of them, and no other map with the same choice is.
use Rattle.std.specs.Prelude.{◌≡◌, refl, ℕ, ◌≤◌, List, [], ◌∷◌, Bool, true, false, ◌||◌, not, All, Some}
use Rattle.std.proofs.Common.{ap, sym, ◌∙◌, subst, true≢false}
use Rattle.vl_size.specs.declared.decl.Decl.{Decl}
use Rattle.vl_size.specs.Size.{Values}
use Rattle.vl_size.specs.Table.{declared_as, IsShaped, AreApart}
use Rattle.vl_mean.specs.declared.driver.DriverKind.{DriverKind}
use Rattle.vl_mean.specs.declared.driver.DriverKind.TheVariants as k
use Rattle.vl_mean.specs.FlatLaw.{IsDriver}
use Rattle.vl_mean.specs.Targets.{bit_of}
use Rattle.vl_flow_spec.specs.Drivers.{is_clocked, needed_by, driven_by, driven_by_any, AreInOrder, IsWhole}
use Rattle.vl_flow_spec.specs.Reads.{Bits, AreInRange}
use Rattle.vl_flow_spec.specs.Settle.{IsBitOf, driven, settle, AreMet, AreAccepted}
use Rattle.vl_flow_spec.proofs.Cells.{HaveOwnCells, declared_all, own_cells}
use Rattle.vl_flow_spec.proofs.OneMap as stages
use Rattle.vl_flow_spec.proofs.OneMap.{Stage, IsPart, AreParts}
use Rattle.vl_flow_spec.proofs.Stages.{comb_is, assign_is}

module _ (ds : List Decl) where
  abbrev stage : DriverKind → Stage
  stage x = record { needs = needed_by ds x; drives = driven_by ds x; step = driven ds x }

  abbrev all_stages : List DriverKind → List Stage
  all_stages [] = []
  all_stages (x ∷ xs) = stage x ∷ all_stages xs

  driven_stages : (xs : List DriverKind) (n : List ℕ) (i : ℕ)
      → stages.driven (all_stages xs) n i ≡ driven_by_any ds xs n i
  driven_stages [] n i = refl
  driven_stages (x ∷ xs) n i = ap (λ b. driven_by ds x n i || b) (driven_stages xs n i)

  ordered_stages : (xs : List DriverKind) → AreInOrder ds xs → stages.IsOrdered (all_stages xs)
  ordered_stages [] o = tt
  ordered_stages (x ∷ xs) o = (
    λ n i h. ap (λ b. driven_by ds x n i || b) (driven_stages xs n i) ∙ o.0 n i h,
    λ n i h. driven_stages xs n i ∙ o.1 n i h,
    ordered_stages xs o.2,
  )

  settle_stages : (xs : List DriverKind) (v : Values) → stages.settle (all_stages xs) v ≡ settle ds xs v
  settle_stages [] v = refl
  settle_stages (x ∷ xs) v = settle_stages xs (driven ds x v)

  to_met : (v : Values) (xs : List DriverKind) → stages.Meets (AreInRange ds) (IsBitOf ds) v (all_stages xs)
      → AreMet ds v xs
  to_met v [] m = tt
  to_met v (x ∷ xs) m = (m.0, to_met v xs m.1)

  of_met : (v : Values) (xs : List DriverKind) → AreMet ds v xs
      → stages.Meets (AreInRange ds) (IsBitOf ds) v (all_stages xs)
  of_met v [] m = tt
  of_met v (x ∷ xs) m = (m.0, of_met v xs m.1)

  module _ (wide : (d : Decl) → declared_as ds d.name ≡ Some d → 1 ≤ d.width) (cells : HaveOwnCells ds) where
    is_stage : (x : DriverKind) → IsDriver ds x → IsWhole ds x → is_clocked x ≡ false
        → IsPart (AreInRange ds) (IsBitOf ds) (stage x)
    is_stage (k.Assign l e) is all c = assign_is ds wide cells l e is.0 is.1
    is_stage (k.Comb s) is all c = comb_is ds wide cells s is all
    is_stage (k.Clocked s) is all c = absurd (true≢false c)

    are_stages : (xs : List DriverKind) → AreAccepted ds xs → AreParts (AreInRange ds) (IsBitOf ds) (all_stages xs)
    are_stages [] a = tt
    are_stages (x ∷ xs) a = (is_stage x a.0 a.1 a.2, are_stages xs a.3)

wide_of : (ds : List Decl) → All IsShaped ds → (d : Decl) → declared_as ds d.name ≡ Some d → 1 ≤ d.width
wide_of ds shaped d own = (declared_all IsShaped ds d.name d own shaped).some_bits

pub settled_is_met : (ds : List Decl) → All IsShaped ds → AreApart ds → (xs : List DriverKind) → AreAccepted ds xs
    → AreInOrder ds xs → (v : Values) → AreInRange ds v → AreMet ds (settle ds xs v) xs
settled_is_met ds shaped apart xs a o v ok =
    let parts = are_stages ds (wide_of ds shaped) (own_cells ds apart) xs a in
    ap-met (settle_stages ds xs v)
    (to_met ds (stages.settle (all_stages ds xs) v) xs
    (stages.settled (AreInRange ds) (IsBitOf ds) (all_stages ds xs) v parts (ordered_stages ds xs o) ok))
  where
    ap-met : {u w : Values} → u ≡ w → AreMet ds u xs → AreMet ds w xs
    ap-met e m = subst (λ z. AreMet ds z xs) e m

pub settled_keeps : (ds : List Decl) → All IsShaped ds → AreApart ds → (xs : List DriverKind) → AreAccepted ds xs
    → (v : Values) → AreInRange ds v → (n : List ℕ) (i : ℕ) → IsBitOf ds n i → driven_by_any ds xs n i ≡ false
    → bit_of (settle ds xs v n) i ≡ bit_of (v n) i
settled_keeps ds shaped apart xs a v ok n i here none =
    sym (ap (λ z. bit_of (z n) i) (settle_stages ds xs v))
    ∙ stages.settle_stays (AreInRange ds) (IsBitOf ds) (all_stages ds xs) v n i
    (are_stages ds (wide_of ds shaped) (own_cells ds apart) xs a) ok here (driven_stages ds xs n i ∙ none)

pub settled_in_range : (ds : List Decl) → All IsShaped ds → AreApart ds → (xs : List DriverKind) → AreAccepted ds xs
    → (v : Values) → AreInRange ds v → AreInRange ds (settle ds xs v)
settled_in_range ds shaped apart xs a v ok =
    subst (AreInRange ds) (settle_stages ds xs v)
    (stages.settle_ok (AreInRange ds) (IsBitOf ds) (all_stages ds xs) v
    (are_stages ds (wide_of ds shaped) (own_cells ds apart) xs a) ok)

pub ruleset settling = (settled_in_range, settled_keeps, settled_is_met)

pub one_map : (ds : List Decl) → All IsShaped ds → AreApart ds → (xs : List DriverKind) → AreAccepted ds xs
    → AreInOrder ds xs → (u v : Values) → AreInRange ds u → AreInRange ds v → AreMet ds u xs → AreMet ds v xs
    → ((n : List ℕ) (i : ℕ) → IsBitOf ds n i → driven_by_any ds xs n i ≡ false → bit_of (u n) i ≡ bit_of (v n) i)
    → (n : List ℕ) (i : ℕ) → IsBitOf ds n i → bit_of (u n) i ≡ bit_of (v n) i
one_map ds shaped apart xs a o u v ok_u ok_v m l free =
    stages.one_map (AreInRange ds) (IsBitOf ds) (all_stages ds xs) (λ n i. not_driven n i) u v
    (are_stages ds (wide_of ds shaped) (own_cells ds apart) xs a) (ordered_stages ds xs o) ok_u ok_v (of_met ds u xs m)
    (of_met ds v xs l)
    (λ n i none. ap not (sym (driven_stages ds xs n i) ∙ none))
    (λ n i here e. free n i here (of_not (driven_by_any ds xs n i) e))
  where
    not_driven : Bits
    not_driven n i = not (driven_by_any ds xs n i)

    of_not : (b : Bool) → not b ≡ true → b ≡ false
    of_not true e = sym e
    of_not false e = refl
