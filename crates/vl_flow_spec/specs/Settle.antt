-- Between functions: Settling the drivers of a design one after the other: what comes out is left by each of them.
-- Rule of this project.
use Rattle.std.specs.Prelude.{◌≡◌, ℕ, ◌<◌, List, [], ◌∷◌, true, false}
use Rattle.vl_size.specs.declared.decl.Decl.{Decl}
use Rattle.vl_size.specs.Size.{Values}
use Rattle.vl_mean.specs.declared.driver.DriverKind.{DriverKind}
use Rattle.vl_mean.specs.declared.driver.DriverKind.TheVariants as k
use Rattle.vl_mean.specs.Execution.{assigned}
use Rattle.vl_mean.specs.FlatLaw.{flat_scopes, IsDriver}
use Rattle.vl_mean.specs.Scopes.{is_clock_class}
use Rattle.vl_mean.specs.Targets.{bit_of, put_all}
use Rattle.vl_flow_spec.specs.Depends.{done}
use Rattle.vl_flow_spec.specs.Drivers.{is_clocked, driven_by, IsWhole}
use Rattle.vl_flow_spec.specs.Reads.{Bits, IsCellOf}

-- a bit of a declared name that isn't the clock
pub record IsBitOf (ds : List Decl) (n : List ℕ) (k : ℕ) : Type 0 where
  pub decl : Decl
  pub of : IsCellOf ds decl n
  pub below : k < decl.width
  pub counted : is_clock_class decl.class ≡ false

module _ (ds : List Decl) where
  -- what a driver makes of a map; a clocked block leaves it
  abbrev pub driven : DriverKind → Values → Values
  driven (k.Assign l e) v = put_all (assigned (flat_scopes ds) l (flat_scopes ds) e v) v
  driven (k.Comb s) v = (done ds s v).now
  driven (k.Clocked s) v = v

  abbrev pub settle : List DriverKind → Values → Values
  settle [] v = v
  settle (x ∷ xs) v = settle xs (driven x v)

  -- the maps are one on these bits
  abbrev pub AreOneOn : Bits → Values → Values → Type 0
  AreOneOn K u v = (n : List ℕ) (i : ℕ) → IsBitOf ds n i → K n i ≡ true → bit_of (u n) i ≡ bit_of (v n) i

  -- each driver leaves what it drives as it is
  abbrev pub AreMet : Values → List DriverKind → Type 0
  AreMet v [] = Unit {0}
  AreMet v (x ∷ xs) = AreOneOn (driven_by ds x) (driven x v) v × AreMet v xs

  -- accepted drivers without clocks and latches
  abbrev pub AreAccepted : List DriverKind → Type 0
  AreAccepted [] = Unit {0}
  AreAccepted (x ∷ xs) = IsDriver ds x × IsWhole ds x × (is_clocked x ≡ false) × AreAccepted xs
