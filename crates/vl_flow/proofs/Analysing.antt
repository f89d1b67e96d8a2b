-- What is known of a design's drivers, from what each does.
use Rattle.std.specs.Prelude.{◌≡◌, ◌≤◌, List, [], ◌∷◌, ◌++◌, length, All}
use Rattle.std.proofs.Common.{sym, arith, subst}
use Rattle.vl_tree.specs.Lval.{Lval, joined, named}
use Rattle.vl_tree.specs.Stmt.{Stmt, assign, assume, begin, case, empty, if_else, if_only}
use Rattle.vl_size.specs.declared.decl.Decl.{Decl}
use Rattle.vl_mean.specs.declared.driver.Driver.{Driver}
use Rattle.vl_mean.specs.declared.driver.DriverKind.{DriverKind}
use Rattle.vl_mean.specs.declared.driver.DriverKind.TheVariants as k
use Rattle.vl_mean.specs.declared.driver.Start.{Start}
use Rattle.vl_mean.specs.FlatLaw.{IsDriver, driver_nodes, node_count, stmt_nodes, target_nodes}
use Rattle.vl_flow_spec.specs.Refusals.{latched_by}
use Rattle.vl_flow_spec.proofs.Changed.{driver_changed}
use Rattle.vl_flow_cells.proofs.Lists.{all_at}
use Rattle.vl_flow_effects.specs.declared.assigned.Assigned.{Assigned}
use Rattle.vl_flow_effects.specs.declared.uses.Uses.{Uses}
use Rattle.vl_flow_effects.specs.Assigning.{AreAssignedBy}
use Rattle.vl_flow_effects.specs.Effects.{AreEach}
use Rattle.vl_flow_effects.specs.Uses.{AreUsesOf}
use Rattle.vl_flow_effects.proofs.Halves.{each_push}
use Rattle.vl_flow_order.specs.declared.footprint.Footprint.{Footprint}
use Rattle.vl_flow_order.specs.declared.reads_groups.Groups.{Groups}
use Rattle.vl_flow_order.specs.CellGroups.{AreGroupsOf}
use Rattle.vl_flow_order.specs.Footprints.{AreFootprintsOf, IsFootprintOf}
use Rattle.vl_flow_order.specs.Found.{Tells}
use Rattle.vl_flow_order.specs.declared.found.Found.{Found}
use Rattle.vl_flow_order.proofs.Cells.{number_of}
use Rattle.vl_flow_check.specs.Layouts.{AreTheirs}
use Rattle.vl_flow_check.specs.Rows.{AreSets}
use Rattle.vl_flow.specs.declared.drivers.DriverSets.{DriverSets}
use Rattle.vl_flow.specs.Analyses.{AddsUses, AreSetsOf}
use Rattle.vl_flow.proofs.Each.{each_at, each_size, set_behind}

module _ (ds : List Decl) where
  -- ---- one driver after the other

  pub no_uses : (sets : DriverSets) → sets.footprints ≡ [] → sets.latched ≡ [] → sets.assigned ≡ []
      → AreSetsOf ds [] sets
  no_uses sets a b c = record {
    footprints_are = subst (λ xs. AreEach (λ (f : Footprint) (x : Driver). IsFootprintOf ds f x.what) xs []) (sym a) tt;
    latched_are = subst (λ xs. AreSets ds (latched_by ds) xs []) (sym b) tt;
    assigned_are = subst (λ xs. AreEach (λ (a : Assigned) (x : Driver). AreAssignedBy ds a x.what) xs []) (sym c) tt;
  }

  footprint_of : (u : Uses) (x : DriverKind) → AreUsesOf ds u x → IsFootprintOf ds u.footprint x
  footprint_of u x h = record {
    clocked = h.clocked;
    needs = h.needs;
    drives = h.drives;
  }

  pub uses_behind : (xs more : List Driver) (x : Driver) (sets after : DriverSets) (u : Uses) → more ≡ xs ++ x ∷ []
      → AddsUses sets u after → AreUsesOf ds u x.what → AreSetsOf ds xs sets → AreSetsOf ds more after
  uses_behind xs more x sets after u e adds h are =
      subst (λ ys. AreSetsOf ds ys after) (sym e) (record {
        footprints_are = subst (λ fs. AreEach R fs (xs ++ x ∷ [])) (sym adds.footprints_are)
            (each_push R sets.footprints xs u.footprint x are.footprints_are (footprint_of u x.what h));
        latched_are = subst (λ ss. AreSets ds (latched_by ds) ss (xs ++ x ∷ [])) (sym adds.latched_are)
            (set_behind ds (latched_by ds) sets.latched xs u.latched x are.latched_are h.latched);
        assigned_are = subst (λ all. AreEach S all (xs ++ x ∷ [])) (sym adds.assigned_are)
            (each_push S sets.assigned xs u.assigned x are.assigned_are h.assigned);
      })
    where
      R : Footprint → Driver → Type 0
      R f y = IsFootprintOf ds f y.what

      S : Assigned → Driver → Type 0
      S a y = AreAssignedBy ds a y.what

  -- ---- all of them

  pub theirs : (all : List Assigned) (drivers : List Driver)
      → AreEach (λ (a : Assigned) (x : Driver). AreAssignedBy ds a x.what) all drivers → AreTheirs ds all drivers
  theirs all drivers each = record {
    size = each_size (λ (a : Assigned) (x : Driver). AreAssignedBy ds a x.what) all drivers each;
    each = each_at (λ (a : Assigned) (x : Driver). AreAssignedBy ds a x.what) all drivers each;
  }

  pub footprints_of : (groups : Groups) (fs : List Footprint) (drivers : List Driver)
      → All (λ x. IsDriver ds x.what) drivers → AreGroupsOf ds groups
      → AreEach (λ (f : Footprint) (x : Driver). IsFootprintOf ds f x.what) fs drivers → AreFootprintsOf ds groups fs drivers
  footprints_of groups fs drivers driven are each = record {
    size = each_size (λ (f : Footprint) (x : Driver). IsFootprintOf ds f x.what) fs drivers each;
    each = each_at (λ (f : Footprint) (x : Driver). IsFootprintOf ds f x.what) fs drivers each;
    groups_are = are;
    declared = λ i x n b at h.
        let is : IsDriver ds x.what = all_at (λ y. IsDriver ds y.what) drivers i x at driven in
        let changed = driver_changed ds x.what is n b h in number_of ds changed.decl n changed.of;
  }

-- what is told of them, however they are listed
pub told_of : (ds : List Decl) (groups : Groups) (fs xs : List Footprint) (drivers ys : List Driver) (found : Found)
    → xs ≡ fs → ys ≡ drivers → AreFootprintsOf ds groups fs drivers
    → (AreFootprintsOf ds groups xs ys → Tells ds ys found) → Tells ds drivers found
told_of ds groups fs xs drivers ys found e g are tells =
    subst (λ zs. Tells ds zs found) g
    (tells (subst (λ zs. AreFootprintsOf ds groups xs zs) (sym g)
    (subst (λ zs. AreFootprintsOf ds groups zs drivers) (sym e) are)))

-- ---- how many drivers there are

some_target : (l : Lval) → 1 ≤ target_nodes l
some_target (named p text ss) = omega arith
some_target (joined p ls) = omega arith

some_stmt : (s : Stmt) → 1 ≤ stmt_nodes s
some_stmt (begin attrs p label xs) = omega arith
some_stmt (if_only attrs p e x) = omega arith
some_stmt (if_else attrs p e x y) = omega arith
some_stmt (case attrs p kind e arms) = omega arith
some_stmt (assign attrs p l kind e) = omega arith
some_stmt (assume attrs p e) = omega arith
some_stmt (empty attrs p) = omega arith

some_driver : (x : DriverKind) → 1 ≤ driver_nodes x
some_driver (k.Assign l e) = let one = some_target l in omega (arith, one)
some_driver (k.Comb s) = some_stmt s
some_driver (k.Clocked s) = some_stmt s

pub few_drivers : (drivers : List Driver) (starts : List Start) → length drivers ≤ node_count drivers starts
few_drivers [] starts = omega arith
few_drivers (x ∷ xs) starts =
    let one = some_driver x.what in
    let rest = few_drivers xs starts in
    omega (arith, one, rest)
