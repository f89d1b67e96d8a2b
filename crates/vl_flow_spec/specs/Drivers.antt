-- Meaning: What the drivers of a design without hierarchy read and drive, and when they stand in an order in which
-- each one can be settled behind those that it reads. A driver is a continuous assignment, a port connection or a
-- block. IEEE 1364-2005, sections 6.1, 9.2 and 12.3; the order is a rule of this project.
use Rattle.std.specs.Prelude.{◌≡◌, ℕ, List, [], ◌∷◌, Bool, true, false, ◌||◌, Option, Some, None}
use Rattle.vl_size.specs.declared.decl.Decl.{Decl}
use Rattle.vl_mean.specs.declared.driver.DriverKind.{DriverKind}
use Rattle.vl_mean.specs.declared.driver.DriverKind.TheVariants as k
use Rattle.vl_mean.specs.Execution.{assigns}
use Rattle.vl_mean.specs.FlatLaw.{flat_scopes}
use Rattle.vl_mean.specs.Scopes.{no_values}
use Rattle.vl_mean.specs.Targets.{Spot, may_change, has_spot, spots}
use Rattle.vl_flow_spec.specs.Reads.{Bits, Covers, reads}
use Rattle.vl_flow_spec.specs.Paths.{is_blocking, target_reads, sure, needs}

abbrev pub is_clocked : DriverKind → Bool
is_clocked (k.Clocked s) = true
is_clocked x = false

-- no bit is in both
abbrev pub Apart : Bits → Bits → Type 0
Apart J K = (n : List ℕ) (k : ℕ) → J n k ≡ true → K n k ≡ false

module _ (ds : List Decl) where
  -- what it reads before it has surely assigned it
  abbrev pub needed_by : DriverKind → Bits
  needed_by (k.Assign l e) n i = target_reads ds l n i || reads ds e n i
  needed_by (k.Comb s) n i = needs ds s n i
  needed_by (k.Clocked s) n i = needs ds s n i

  -- what some assignment in it may change
  abbrev pub driven_by : DriverKind → Bits
  driven_by (k.Assign l e) n i = may_change (flat_scopes ds) l n i
  driven_by (k.Comb s) n i = assigns (flat_scopes ds) s n i
  driven_by (k.Clocked s) n i = assigns (flat_scopes ds) s n i

  abbrev pub driven_by_any : List DriverKind → Bits
  driven_by_any [] n i = false
  driven_by_any (x ∷ xs) n i = driven_by x n i || driven_by_any xs n i

  -- each stands behind all that drive what it reads, and no two drive one bit
  abbrev pub AreInOrder : List DriverKind → Type 0
  AreInOrder [] = Unit {0}
  AreInOrder (x ∷ xs) =
      Apart (needed_by x) (driven_by_any (x ∷ xs)) × Apart (driven_by x) (driven_by_any xs) × AreInOrder xs

  -- no bit is there twice
  abbrev pub AreOnce : List (Option Spot) → Type 0
  AreOnce [] = Unit {0}
  AreOnce (None ∷ spots) = AreOnce spots
  AreOnce (Some s ∷ spots) = (has_spot s.name s.offset spots ≡ false) × AreOnce spots

  -- a target has no bit twice, and each path of a block assigns what some path does
  abbrev pub IsWhole : DriverKind → Type 0
  IsWhole (k.Assign l e) = AreOnce (spots (flat_scopes ds) no_values l)
  IsWhole (k.Comb s) = Covers (sure ds is_blocking s) (assigns (flat_scopes ds) s)
  IsWhole (k.Clocked s) = Unit {0}
