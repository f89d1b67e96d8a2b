-- Between functions: What the drivers of a design that aren't clocked leave for the next cycle and assume, one after
-- the other in their order. Rule of this project; IEEE 1364-2005, sections 6.1 and 9.2, for what each of them assigns.
use Rattle.std.specs.Prelude.{ℕ, ◌<◌, ◌↔◌, List, [], ◌∷◌, ◌++◌, All, Option, Some, None, slice_get}
use Rattle.vl_size.specs.declared.decl.Decl.{Decl}
use Rattle.vl_size.specs.Size.{Values}
use Rattle.vl_size.specs.Table.{AreApart, AreDifferent, IsShaped}
use Rattle.vl_mean.specs.declared.driver.Driver.{Driver}
use Rattle.vl_mean.specs.declared.driver.DriverKind.{DriverKind}
use Rattle.vl_mean.specs.declared.driver.DriverKind.TheVariants as k
use Rattle.vl_mean.specs.declared.driver.Start.{Start}
use Rattle.vl_mean.specs.Execution.{assigned, begun, exec}
use Rattle.vl_mean.specs.FlatLaw.{IsLawful, flat_scopes}
use Rattle.vl_mean.specs.FlatParts.{parts_of}
use Rattle.vl_mean.specs.Runs.{Each, PartAssumes}
use Rattle.vl_mean.specs.Targets.{put_all}
use Rattle.vl_flow_spec.specs.Refusals.{HasNoRefusal}
use Rattle.vl_flow_spec.specs.Sequence.{IsSequence}
use Rattle.vl_lower_assign.specs.Stored.{stored}
use Rattle.vl_lower_spec.specs.Built.{AreKeptAlike, AreRanged}
use Rattle.vl_lower_spec.specs.Settled.{driven_by_this, settled}

-- what a driver leaves of its bits in a map for the next cycle, over the values v
abbrev pub left_by : List Decl → DriverKind → Values → Values → Values
left_by ds (k.Assign l e) v w = put_all (assigned (flat_scopes ds) l (flat_scopes ds) e v) w
left_by ds (k.Comb s) v w = stored (flat_scopes ds) s (begun v) w
left_by ds (k.Clocked s) v w = w

abbrev pub left_by_this : List Decl → Option Driver → Values → Values → Values
left_by_this ds None v w = w
left_by_this ds (Some x) v w = left_by ds x.what v w

-- by numbers of drivers
abbrev pub left : List Decl → List Driver → List ℕ → Values → Values → Values
left ds drivers [] v w = w
left ds drivers (i ∷ is) v w =
    left ds drivers is (driven_by_this ds (slice_get drivers i) v) (left_by_this ds (slice_get drivers i) v w)

-- ---- assumptions

-- the numbers that a driver assumes over the values v
abbrev pub seen_by : List Decl → DriverKind → Values → List ℕ
seen_by ds (k.Assign l e) v = []
seen_by ds (k.Comb s) v = (exec (flat_scopes ds) s (begun v)).seen
seen_by ds (k.Clocked s) v = (exec (flat_scopes ds) s (begun v)).seen

abbrev pub seen_by_this : List Decl → Option Driver → Values → List ℕ
seen_by_this ds None v = []
seen_by_this ds (Some x) v = seen_by ds x.what v

-- of drivers by their numbers, each over what those before it leave
abbrev pub seen_in : List Decl → List Driver → List ℕ → Values → List ℕ
seen_in ds drivers [] v = []
seen_in ds drivers (i ∷ is) v =
    seen_by_this ds (slice_get drivers i) v ++ seen_in ds drivers is (driven_by_this ds (slice_get drivers i) v)

-- of clocked blocks, all over the same values
abbrev pub seen_at_edge : List Decl → DriverKind → Values → List ℕ
seen_at_edge ds (k.Clocked s) v = (exec (flat_scopes ds) s (begun v)).seen
seen_at_edge ds x v = []

abbrev pub seen_at_edges : List Decl → List Driver → Values → List ℕ
seen_at_edges ds [] v = []
seen_at_edges ds (x ∷ xs) v = seen_at_edge ds x.what v ++ seen_at_edges ds xs v

-- ---- the laws

-- what is left has the kept bits of the settled map
abbrev pub LeftBitsAreKept : Type 0
LeftBitsAreKept =
    (ds : List Decl) (drivers : List Driver) (starts : List Start) (sequence : List ℕ) → All IsShaped ds
    → AreDifferent ds → AreApart ds → IsLawful ds drivers starts → HasNoRefusal ds drivers
    → IsSequence ds drivers sequence → (v : Values) → AreRanged ds v
    → AreKeptAlike (parts_of ds drivers starts) (left ds drivers sequence v v) (settled ds drivers sequence v)

-- the numbers that are assumed on the way, and then at the clock's edge, are those that the parts of the design assume
-- over the settled map
abbrev pub SeenIsAssumed : Type 0
SeenIsAssumed =
    (ds : List Decl) (drivers : List Driver) (starts : List Start) (sequence : List ℕ) → All IsShaped ds
    → AreDifferent ds → AreApart ds → IsLawful ds drivers starts → HasNoRefusal ds drivers
    → IsSequence ds drivers sequence → (v : Values) → AreRanged ds v
    → (Each (λ x. 0 < x) (seen_in ds drivers sequence v)
    × Each (λ x. 0 < x) (seen_at_edges ds drivers (settled ds drivers sequence v)))
    ↔ Each (PartAssumes (settled ds drivers sequence v)) (parts_of ds drivers starts)
