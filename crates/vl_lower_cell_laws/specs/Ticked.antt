-- Between functions: What the clocked blocks of a design store for the next cycle, one after the other. Rule of this
-- project; IEEE 1364-2005, section 9.2, for what each of them assigns.
use Rattle.std.specs.Prelude.{ℕ, List, [], ◌∷◌, All}
use Rattle.vl_size.specs.declared.decl.Decl.{Decl}
use Rattle.vl_size.specs.Size.{Values}
use Rattle.vl_size.specs.Table.{AreApart, AreDifferent, IsShaped}
use Rattle.vl_mean.specs.declared.driver.Driver.{Driver}
use Rattle.vl_mean.specs.declared.driver.DriverKind.{DriverKind}
use Rattle.vl_mean.specs.declared.driver.DriverKind.TheVariants as k
use Rattle.vl_mean.specs.declared.driver.Start.{Start}
use Rattle.vl_mean.specs.Execution.{begun}
use Rattle.vl_mean.specs.FlatLaw.{IsLawful, flat_scopes}
use Rattle.vl_mean.specs.FlatParts.{parts_of}
use Rattle.vl_mean.specs.Runs.{Next}
use Rattle.vl_flow_spec.specs.Refusals.{HasNoRefusal}
use Rattle.vl_flow_spec.specs.Sequence.{IsSequence}
use Rattle.vl_lower_assign.specs.Stored.{stored}
use Rattle.vl_lower_spec.specs.Built.{AreKeptAlike}

-- over the values v of a cycle, into a map
abbrev pub stored_by : List Decl → DriverKind → Values → Values → Values
stored_by ds (k.Clocked s) v w = stored (flat_scopes ds) s (begun v) w
stored_by ds x v w = w

abbrev pub ticked : List Decl → List Driver → Values → Values → Values
ticked ds [] v w = w
ticked ds (x ∷ xs) v w = ticked ds xs v (stored_by ds x.what v w)

-- ---- the law: into a map with the kept bits of the cycle, what is stored makes a map that may come next

abbrev pub TickedMapsAreNext : Type 0
TickedMapsAreNext =
    (ds : List Decl) (drivers : List Driver) (starts : List Start) (sequence : List ℕ) → All IsShaped ds
    → AreDifferent ds → AreApart ds → IsLawful ds drivers starts → HasNoRefusal ds drivers
    → IsSequence ds drivers sequence → (v w : Values) → AreKeptAlike (parts_of ds drivers starts) w v
    → Next (parts_of ds drivers starts) v (ticked ds drivers v w)
