-- Between functions: Sets of bits, one for each driver. Rule of this project.
use Rattle.std.specs.Prelude.{List, [], ◌∷◌, Bool, true, false, ◌&&◌, ◌||◌, not}
use Rattle.vl_tree.specs.declared.stmt.AssignKind.{AssignKind}
use Rattle.vl_size.specs.declared.decl.Decl.{Decl}
use Rattle.vl_mean.specs.declared.driver.Driver.{Driver}
use Rattle.vl_mean.specs.declared.driver.DriverKind.{DriverKind}
use Rattle.fv_bit_sets.specs.declared.step.Step.{Step}
use Rattle.fv_bit_sets.specs.Cells.{has}
use Rattle.vl_flow_spec.specs.Drivers.{is_clocked}
use Rattle.vl_flow_spec.specs.Reads.{Bits}
use Rattle.vl_flow_spec.specs.Refusals.{assigns_to}
use Rattle.vl_flow_cells.specs.Numbered.{Shows}
use Rattle.vl_flow_check.specs.declared.which.Which.{Which}
use Rattle.vl_flow_check.specs.declared.which.Which.TheVariants as w
use Rattle.vl_flow_effects.specs.Assigning.{is_kind}
use Rattle.vl_flow_check.specs.Layouts.{Marks}

abbrev pub picks : Which → Bool → Bool
picks w.All clocked = true
picks w.Clocked clocked = clocked
picks w.Settled clocked = not clocked

-- the drivers' sets, in their order
abbrev pub AreSets : List Decl → (DriverKind → Bits) → List (List Step) → List Driver → Type 0
AreSets ds K [] [] = Unit {0}
AreSets ds K (s ∷ sets) (x ∷ drivers) = Shows ds (has s) (K x.what) × AreSets ds K sets drivers
AreSets ds K sets drivers = ⊥

-- the drivers' names of which some test holds
abbrev pub AreNameRows : List Decl → (Driver → Decl → Bool) → List (List Step) → List Driver → Type 0
AreNameRows ds test [] [] = Unit {0}
AreNameRows ds test (r ∷ rows) (x ∷ drivers) = Marks ds r (test x) × AreNameRows ds test rows drivers
AreNameRows ds test rows drivers = ⊥

-- the names that a driver that counts assigns by assignments of the kind
abbrev pub picked : Which → AssignKind → Driver → Decl → Bool
picked which kind x d = picks which (is_clocked x.what) && assigns_to (is_kind kind) x.what d

-- of which one of the drivers' tests holds
abbrev pub some_test : (Driver → Decl → Bool) → List Driver → Decl → Bool
some_test test [] d = false
some_test test (x ∷ drivers) d = test x d || some_test test drivers d
