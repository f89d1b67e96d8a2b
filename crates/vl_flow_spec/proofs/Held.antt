-- One map holds for each choice.
use Rattle.std.specs.Prelude.{◌≡◌, refl, ℕ, ◌≤◌, List, [], ◌∷◌, ◌++◌, true, false, slice_get, Some, All}
use Rattle.std.proofs.Common.{ap, sym, subst}
use Rattle.vl_size.specs.declared.decl.Class.{Class}
use Rattle.vl_size.specs.declared.decl.Class.TheVariants as class
use Rattle.vl_size.specs.declared.decl.Decl.{Decl}
use Rattle.vl_size.specs.Size.{Values}
use Rattle.vl_size.specs.Table.{declared_as, IsShaped, AreApart, AreDifferent}
use Rattle.vl_mean.specs.declared.driver.Driver.{Driver}
use Rattle.vl_mean.specs.declared.driver.DriverKind.{DriverKind}
use Rattle.vl_mean.specs.declared.driver.DriverKind.TheVariants as k
use Rattle.vl_mean.specs.declared.driver.Start.{Start}
use Rattle.vl_mean.specs.Execution.{begun, exec}
use Rattle.vl_mean.specs.FlatLaw.{flat_scopes, IsDriver, IsLawful}
use Rattle.vl_mean.specs.FlatParts.{driver_part, parts_of}
use Rattle.vl_mean.specs.Parts.{Part, declares}
use Rattle.vl_mean.specs.Runs.{Each, InRange, Agrees, PartHolds, Holds, ChoosesAlike}
use Rattle.vl_mean.specs.Runs.{is_chosen}
use Rattle.vl_mean.specs.Scopes.{Scope, is_clock_class}
use Rattle.vl_flow_spec.specs.Drivers.{is_clocked, AreInOrder}
use Rattle.vl_flow_spec.specs.Reads.{AreInRange}
use Rattle.vl_flow_spec.specs.Settle.{settle, AreMet, AreAccepted}
use Rattle.vl_flow_spec.proofs.Cells.{HaveOwnCells, declared_all, own_cells}
use Rattle.vl_flow_spec.proofs.Settling.{settled_in_range, settled_keeps, settled_is_met, one_map}
use Rattle.vl_mean_flat.proofs.EachOf.{both, front, back}
use Rattle.vl_flow_spec.specs.Refusals.{undriven, HasNoRefusal}
use Rattle.vl_flow_spec.specs.Sequence.{IsSequence}
use Rattle.vl_flow_spec.proofs.Chain.{kinds, Leaves, met_of, leaves_of, accepted, in_order_of, settled_there}
use Rattle.vl_flow_spec.proofs.Chain.{whole_as}
use Rattle.vl_flow_spec.proofs.Choices.{agree_at, agrees_all, in_range_of, in_range_all, chosen_at, chooses_alike}
use Rattle.vl_flow_spec.proofs.Choices.{chosen_is_free, free_is_chosen}
use Rattle.vl_flow_spec.proofs.Elements.{nothing, all_at, each_at, each_of_places, all_declared, driver_parts}
use Rattle.vl_flow_spec.proofs.Elements.{start_parts, decl_parts}
use Rattle.vl_flow_spec.proofs.Elements.{each_mapped, each_map_of}
use Rattle.vl_flow_spec.proofs.Leaving.{leaves_assigned, assigned_meets, leaves_run, run_same, same_numbers}

wide_of : (ds : List Decl) → All IsShaped ds → (d : Decl) → declared_as ds d.name ≡ Some d → 1 ≤ d.width
wide_of ds shaped d own = (declared_all IsShaped ds d.name d own shaped).some_bits

module _ (ds : List Decl) (drivers : List Driver) (starts : List Start) where
  abbrev pub ss : List Scope
  ss = flat_scopes ds

  abbrev pub ps : List Part
  ps = parts_of ds drivers starts

  -- ---- the parts that hold

  holding_drivers : (v : Values) → Holds ps v → Each (λ x. PartHolds ps v (driver_part ss x.what)) drivers
  holding_drivers v h =
      each_mapped (PartHolds ps v) (λ x. driver_part ss x.what) drivers
      (back (PartHolds ps v) (decl_parts ds) (driver_parts ss drivers)
      (front (PartHolds ps v) (decl_parts ds ++ driver_parts ss drivers) (start_parts ss starts) h))

  holding_range : (v : Values) → Holds ps v → Each (λ d. InRange v d d.class) ds
  holding_range v h =
      each_mapped (PartHolds ps v) (λ d. declares d) ds
      (front (PartHolds ps v) (decl_parts ds) (driver_parts ss drivers)
      (front (PartHolds ps v) (decl_parts ds ++ driver_parts ss drivers) (start_parts ss starts) h))

  holding_starts : (v : Values) (xs : List Start) → Each (PartHolds ps v) (start_parts ss xs)
  holding_starts v [] = tt
  holding_starts v (x ∷ xs) = (tt, holding_starts v xs)

  holds_of : (v : Values) → Each (λ d. InRange v d d.class) ds
      → Each (λ x. PartHolds ps v (driver_part ss x.what)) drivers → Holds ps v
  holds_of v range held =
      both (PartHolds ps v) (decl_parts ds ++ driver_parts ss drivers) (start_parts ss starts)
      (both (PartHolds ps v) (decl_parts ds) (driver_parts ss drivers)
      (each_map_of (PartHolds ps v) (λ d. declares d) ds range)
      (each_map_of (PartHolds ps v) (λ x. driver_part ss x.what) drivers held)) (holding_starts v starts)

  module _ (shaped : All IsShaped ds) (different : AreDifferent ds) (apart : AreApart ds)
      (lawful : IsLawful ds drivers starts) (none : HasNoRefusal ds drivers) (s : List ℕ)
      (order : IsSequence ds drivers s) where
    pub wide : (d : Decl) → declared_as ds d.name ≡ Some d → 1 ≤ d.width
    wide = wide_of ds shaped

    pub cells : HaveOwnCells ds
    cells = own_cells ds apart

    pub declared : Each (λ d. declared_as ds d.name ≡ Some d) ds
    declared = all_declared ds different

    abbrev pub xs : List DriverKind
    xs = kinds drivers s

    pub ok : AreAccepted ds xs
    ok = accepted drivers ds wide cells lawful.kept lawful.driven none s order.only

    pub in_order : AreInOrder ds xs
    in_order = in_order_of drivers ds wide cells lawful.kept lawful.driven none s order.only order.once order.behind

    pub of_driver : (i : ℕ) (x : Driver) → slice_get drivers i ≡ Some x → IsDriver ds x.what
    of_driver i x e = all_at (λ x. IsDriver ds x.what) drivers i x e lawful.driven

    -- ---- a map that holds is left by all drivers

    left_as : (v : Values) (y : DriverKind) → PartHolds ps v (driver_part ss y) → Leaves drivers ds v y
    left_as v (k.Assign l e) h = leaves_assigned ds wide cells l e v h
    left_as v (k.Comb z) h = leaves_run ds wide cells z v (agree_at ds drivers starts declared (exec ss z (begun v)).now v h)
    left_as v (k.Clocked z) h = λ n i here t. refl

    pub met : (v : Values) → Holds ps v → AreMet ds v xs
    met v h =
        met_of drivers ds v (λ x i e. left_as v x.what
        (each_at (λ x. PartHolds ps v (driver_part ss x.what)) drivers i x e (holding_drivers v h))) s

    pub range : (v : Values) → Holds ps v → AreInRange ds v
    range v h = in_range_of ds drivers starts declared v (holding_range v h)

    -- ---- and the other way round

    held_as : (v : Values) → AreInRange ds v → AreMet ds v xs → (i : ℕ) (x : Driver) → slice_get drivers i ≡ Some x
        → (y : DriverKind) → x.what ≡ y → PartHolds ps v (driver_part ss y)
    held_as v in_range m i x e (k.Assign l f) what =
        assigned_meets ds wide cells l f v (subst (IsDriver ds) what (of_driver i x e)).0
        (whole_as drivers ds wide cells lawful.kept lawful.driven none i x e (k.Assign l f) what)
        (subst (Leaves drivers ds v) what (leaves_of drivers ds v s m i x
        (order.all i (settled_there drivers i x e (ap is_clocked what))) e))
    held_as v in_range m i x e (k.Comb z) what =
        agrees_all ds drivers starts declared (exec ss z (begun v)).now v
        (run_same ds wide cells z (subst (IsDriver ds) what (of_driver i x e))
        (whole_as drivers ds wide cells lawful.kept lawful.driven none i x e (k.Comb z) what) v in_range
        (subst (Leaves drivers ds v) what (leaves_of drivers ds v s m i x
        (order.all i (settled_there drivers i x e (ap is_clocked what))) e)))
    held_as v in_range m i x e (k.Clocked z) what = tt

    pub met_holds : (v : Values) → AreInRange ds v → AreMet ds v xs → Holds ps v
    met_holds v in_range m =
        holds_of v (in_range_all ds drivers starts declared v in_range)
        (each_of_places (λ x. PartHolds ps v (driver_part ss x.what)) drivers
        (λ i x e. held_as v in_range m i x e x.what refl))

    -- ---- the laws

    -- settled in the order, the drivers leave a map that holds, with the choice of the map before
    pub settled_holds : (v : Values) → Each (λ d. InRange v d d.class) ds
        → Holds ps (settle ds xs v) × ChoosesAlike ps (settle ds xs v) v
    settled_holds v given =
        let in_range = in_range_of ds drivers starts declared v given in
        let u = settle ds xs v in
        let ok_u = settled_in_range ds shaped apart xs ok v in_range in (
          met_holds u ok_u (settled_is_met ds shaped apart xs ok in_order v in_range),
          chooses_alike ds drivers starts declared u v (λ d n i of below c.
              settled_keeps ds shaped apart xs ok v in_range n i
              (record { decl = d; of = of; below = below; counted = chosen_counted d n i c })
              (chosen_is_free ds drivers starts declared wide cells lawful.kept lawful.driven (nothing (undriven ds drivers) none.driven) s order.only
              order.all d n i of c)),
        )
      where
        chosen_class : (c : Class) (n : List ℕ) (i : ℕ) → is_chosen ps c n i ≡ true → is_clock_class c ≡ false
        chosen_class class.Clock n i h = sym h
        chosen_class class.Reset n i h = refl
        chosen_class class.Input n i h = refl
        chosen_class class.Net n i h = refl
        chosen_class class.Variable n i h = refl
        chosen_class class.EachCycle n i h = refl
        chosen_class class.Once n i h = refl

        chosen_counted : (d : Decl) (n : List ℕ) (i : ℕ) → is_chosen ps d.class n i ≡ true
            → is_clock_class d.class ≡ false
        chosen_counted d n i h = chosen_class d.class n i h

    pub has_map : (v : Values) → Each (λ d. InRange v d d.class) ds
        → (u : Values) × Holds ps u × ChoosesAlike ps u v
    has_map v given =
        let own = settled_holds v given in (settle ds xs v, own.0, own.1)

    pub has_one_map : (u v : Values) → Holds ps u → Holds ps v → ChoosesAlike ps u v → Agrees ps u v
    has_one_map u v held_u held_v alike =
        let ok_u = range u held_u in
        let ok_v = range v held_v in
        agrees_all ds drivers starts declared u v
        (same_numbers ds wide cells u v ok_u ok_v
        (one_map ds shaped apart xs ok in_order u v ok_u ok_v (met u held_u) (met v held_v) (λ n i here free.
        chosen_at ds drivers starts declared u v alike here.decl n i here.of here.below
        (free_is_chosen ds drivers starts declared wide cells lawful.kept lawful.driven (nothing (undriven ds drivers) none.driven) s order.only order.all
        n i here free))))
