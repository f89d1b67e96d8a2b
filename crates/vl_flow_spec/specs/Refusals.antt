-- Meaning: Why the drivers of a design without hierarchy have no order: six refusals, in the order in which they are
-- judged, each over the whole design. Within one the first declared name counts, and of it the lowest bit. All are
-- rules of this project.
use Rattle.std.specs.Prelude.{
  ◌≡◌,
  ℕ,
  zero,
  suc,
  ◌+◌,
  ◌==◌,
  List,
  [],
  ◌∷◌,
  ◌++◌,
  Bool,
  true,
  false,
  ◌&&◌,
  ◌||◌,
  not,
}
use Rattle.std.specs.Prelude.{is_none, Option, Some, None, if◌then◌else◌, All, replicate, bytes_eq, slice_get}
use Rattle.fv_text.specs.declared.pos.Pos.{Pos}
use Rattle.vl_tree.specs.declared.stmt.AssignKind.{AssignKind}
use Rattle.vl_size.specs.declared.decl.Decl.{Decl}
use Rattle.vl_size.specs.Places.{is_earlier, earlier_place}
use Rattle.vl_mean.specs.declared.driver.Driver.{Driver}
use Rattle.vl_mean.specs.declared.driver.DriverKind.{DriverKind}
use Rattle.vl_mean.specs.declared.driver.DriverKind.TheVariants as k
use Rattle.vl_mean.specs.Cells.{cells, contains_name}
use Rattle.vl_mean.specs.Execution.{assigns}
use Rattle.vl_mean.specs.FlatLaw.{flat_scopes, is_net}
use Rattle.vl_mean.specs.Runs.{FollowedBy}
use Rattle.vl_mean.specs.Scopes.{no_values}
use Rattle.vl_mean.specs.Targets.{Spot, spots}
use Rattle.vl_flow_spec.specs.Reads.{Bits}
use Rattle.vl_flow_spec.specs.Assigned.{assigned_names}
use Rattle.vl_flow_spec.specs.Paths.{is_blocking, is_nonblocking, any_kind, sure}
use Rattle.vl_flow_spec.specs.Drivers.{is_clocked, needed_by, driven_by}

-- ---- bits of a name

-- the lowest below n
abbrev pub first_below : (ℕ → Bool) → ℕ → Option ℕ
first_below p zero = None
first_below p (suc n) = if is_none (first_below p n) && p n then Some n else first_below p n

abbrev pub some_below : (ℕ → Bool) → ℕ → Bool
some_below p zero = false
some_below p (suc n) = p n || some_below p n

abbrev pub some_cell : Bits → ℕ → List (List ℕ) → Bool
some_cell K w [] = false
some_cell K w (n ∷ ns) = some_below (λ i. K n i) w || some_cell K w ns

-- some bit of a cell of the name is there
abbrev pub has_bit : Bits → Decl → Bool
has_bit K d = some_cell K d.width (cells d)

-- of the first name that has one
abbrev pub first_of_names : {A : Type 0} → (Decl → Option A) → List Decl → Option A
first_of_names f [] = None
first_of_names f (d ∷ ds) = if is_none (f d) then first_of_names f ds else f d

-- the bit of the spot
abbrev pub count_spot : List ℕ → ℕ → List (Option Spot) → ℕ
count_spot n i [] = 0
count_spot n i (None ∷ spots) = count_spot n i spots
count_spot n i (Some s ∷ spots) =
    (if bytes_eq n s.name && (i == s.offset) then 1 else 0) + count_spot n i spots

-- places in order
abbrev pub with_place : Pos → List Pos → List Pos
with_place p [] = p ∷ []
with_place p (q ∷ qs) = if is_earlier q p then q ∷ with_place p qs else p ∷ q ∷ qs

abbrev pub in_order : List Pos → List Pos
in_order [] = []
in_order (p ∷ ps) = with_place p (in_order ps)

abbrev pub with_bit_of : List ℕ → Option ℕ → Option (List ℕ × ℕ)
with_bit_of text None = None
with_bit_of text (Some i) = Some (text, i)

-- at least two
abbrev pub are_two : List Pos → Bool
are_two [] = false
are_two (p ∷ []) = false
are_two (p ∷ q ∷ ps) = true

-- of a memory one bit counts
abbrev pub bits_counted : Decl → ℕ
bits_counted d = if is_none d.words then d.width else 1

abbrev pub with_two : List ℕ → ℕ → List Pos → Option (List ℕ × ℕ × Pos × Pos)
with_two text i (p ∷ q ∷ ps) = Some (text, i, p, q)
with_two text i ps = None

abbrev pub with_name : List ℕ → Option Pos → Option (List ℕ × Pos)
with_name text None = None
with_name text (Some p) = Some (text, p)

-- ---- drivers by their numbers, counted from 0

abbrev pub StandAt : List Driver → List ℕ → List Driver → Type 0
StandAt drivers [] [] = Unit {0}
StandAt drivers (i ∷ numbers) (x ∷ xs) = (slice_get drivers i ≡ Some x) × StandAt drivers numbers xs
StandAt drivers numbers xs = ⊥

-- no number stands twice
abbrev pub AreDistinct : List ℕ → Type 0
AreDistinct numbers = (a b i : ℕ) → slice_get numbers a ≡ Some i → slice_get numbers b ≡ Some i → a ≡ b

-- ---- which driver assigns a name

-- The names that assignments of some kinds in a block have as targets. What is assigned outside of blocks is a net, and
-- no net is named by the refusals 2, 5 and 6.
abbrev pub names_in : (AssignKind → Bool) → DriverKind → List (List ℕ)
names_in counts (k.Assign l e) = []
names_in counts (k.Comb s) = assigned_names counts s
names_in counts (k.Clocked s) = assigned_names counts s

abbrev pub assigns_to : (AssignKind → Bool) → DriverKind → Decl → Bool
assigns_to counts x d = contains_name (names_in counts x) d.name

-- the earliest place of a driver that assigns the name
abbrev pub place_of : List Driver → Decl → Option Pos
place_of [] d = None
place_of (x ∷ xs) d = earlier_place (if assigns_to any_kind x.what d then Some x.pos else None) (place_of xs d)

-- some driver does so
abbrev pub some_assigns : (AssignKind → Bool) → List Driver → Decl → Bool
some_assigns counts [] d = false
some_assigns counts (x ∷ xs) d = assigns_to counts x.what d || some_assigns counts xs d

-- some driver that isn't clocked, by a nonblocking assignment
abbrev pub some_waits : List Driver → Decl → Bool
some_waits [] d = false
some_waits (x ∷ xs) d = (not (is_clocked x.what) && assigns_to is_nonblocking x.what d) || some_waits xs d

abbrev pub is_mixed : List Driver → Decl → Bool
is_mixed drivers d =
    (some_assigns is_blocking drivers d && some_assigns is_nonblocking drivers d) || some_waits drivers d

-- the name, with the place of its driver, where the test holds
abbrev pub named_if : List Driver → Decl → Bool → Option (List ℕ × Pos)
named_if drivers d false = None
named_if drivers d true = with_name d.name (place_of drivers d)

module _ (ds : List Decl) where
  -- ---- 1: a loop of drivers

  -- the first reads a bit that the second one drives
  pub record ReadsFrom (x y : Driver) : Type 0 where
    pub cell : List ℕ
    pub offset : ℕ
    pub read : needed_by ds x.what cell offset ≡ true
    pub driven : driven_by ds y.what cell offset ≡ true

  abbrev pub last_of : Driver → List Driver → Driver
  last_of x [] = x
  last_of x (y ∷ ys) = last_of y ys

  -- Drivers that aren't clocked, none of them twice, each of which reads from the next one, and the last one from the
  -- first; this has the earliest place.
  pub record IsLoop (drivers : List Driver) (first : Driver) (others : List Driver) : Type 0 where
    pub numbers : List ℕ
    pub among : StandAt drivers numbers (first ∷ others)
    pub once : AreDistinct numbers
    pub settled : All (λ x. is_clocked x.what ≡ false) (first ∷ others)
    pub reads : FollowedBy ReadsFrom first others
    pub closed : ReadsFrom (last_of first others) first
    pub earliest : All (λ x. is_earlier x.pos first.pos ≡ false) others

  -- ---- 2: a latch

  -- some path of a combinational block may change the bit, and some path doesn't surely assign it
  abbrev pub latched_by : DriverKind → Bits
  latched_by (k.Comb s) n i = assigns (flat_scopes ds) s n i && not (sure ds any_kind s n i)
  latched_by x n i = false

  abbrev pub latched : List Driver → Bits
  latched [] n i = false
  latched (x ∷ xs) n i = latched_by x.what n i || latched xs n i

  abbrev pub latch : List Driver → Option (List ℕ × Pos)
  latch drivers = first_of_names (λ d. named_if drivers d (has_bit (latched drivers) d)) ds

  -- ---- 3: two drivers

  -- how often a driver has the bit: a target may have it twice
  abbrev pub times_driven : DriverKind → List ℕ → ℕ → ℕ
  times_driven (k.Assign l e) n i = count_spot n i (spots (flat_scopes ds) no_values l)
  times_driven x n i = if driven_by ds x n i then 1 else 0

  -- a memory counts as its bit 0
  abbrev pub times_of : DriverKind → Decl → ℕ → ℕ
  times_of x d i = if is_none d.words then times_driven x d.name i else if has_bit (driven_by ds x) d then 1 else 0

  abbrev pub places_of : List Driver → Decl → ℕ → List Pos
  places_of [] d i = []
  places_of (x ∷ xs) d i = replicate (times_of x.what d i) x.pos ++ places_of xs d i

  abbrev pub twice_driven : List Driver → Decl → Option ℕ → Option (List ℕ × ℕ × Pos × Pos)
  twice_driven drivers d None = None
  twice_driven drivers d (Some i) = with_two d.name i (in_order (places_of drivers d i))

  -- the bit and the places of its first two drivers
  abbrev pub two_drivers : List Driver → Option (List ℕ × ℕ × Pos × Pos)
  two_drivers drivers =
      first_of_names (λ d. twice_driven drivers d
      (first_below (λ i. are_two (places_of drivers d i)) (bits_counted d))) ds

  -- ---- 4: a net without a driver

  abbrev pub driven_in : List Driver → Bits
  driven_in [] n i = false
  driven_in (x ∷ xs) n i = driven_by ds x.what n i || driven_in xs n i

  abbrev pub undriven : List Driver → Option (List ℕ × ℕ)
  undriven drivers =
      first_of_names (λ d. if is_net d
      then with_bit_of d.name (first_below (λ i. not (driven_in drivers d.name i)) d.width) else None) ds

  -- ---- 5: a blocking assignment of a clocked block to a name that is read outside of it

  -- some bit of the name
  abbrev pub some_reads : List Driver → Decl → Bool
  some_reads [] d = false
  some_reads (x ∷ xs) d = has_bit (needed_by ds x.what) d || some_reads xs d

  -- by a driver between those before it and those behind it
  abbrev pub is_shared : List Driver → List Driver → Decl → Bool
  is_shared before [] d = false
  is_shared before (x ∷ after) d =
      ((is_clocked x.what && assigns_to is_blocking x.what d) && (some_reads before d || some_reads after d))
      || is_shared (x ∷ before) after d

  abbrev pub blocking_shared : List Driver → Option (List ℕ × Pos)
  blocking_shared drivers = first_of_names (λ d. named_if drivers d (is_shared [] drivers d)) ds

  -- ---- 6: blocking and nonblocking assignments of a name, or a nonblocking one in a combinational block

  abbrev pub mixed : List Driver → Option (List ℕ × Pos)
  mixed drivers = first_of_names (λ d. named_if drivers d (is_mixed drivers d)) ds

  -- ---- none of them

  pub record HasNoRefusal (drivers : List Driver) : Type 0 where
    pub loopless : (first : Driver) (others : List Driver) → IsLoop drivers first others → ⊥
    pub latchless : is_none (latch drivers) ≡ true
    pub single : is_none (two_drivers drivers) ≡ true
    pub driven : is_none (undriven drivers) ≡ true
    pub apart : is_none (blocking_shared drivers) ≡ true
    pub pure : is_none (mixed drivers) ≡ true
