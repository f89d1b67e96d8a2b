-- What is free in a map of an ordered design: the bits that no driver of the sequence drives.
use Rattle.std.specs.Prelude.{◌≡◌, refl, ℕ, zero, suc, ◌<◌, ◌≤◌, ◌^◌, List, [], ◌∷◌, ◌++◌, Bool, true, false, ◌||◌, not}
use Rattle.std.specs.Prelude.{is_none, slice_get, Option, Some, None, All, if◌then◌else◌}
use Rattle.std.proofs.Common.{ap, sym, ◌∙◌, subst, true≢false}
use Rattle.std.proofs.lemmas.Option.{same_Some}
use Rattle.vl_size.specs.declared.decl.Class.{Class}
use Rattle.vl_size.specs.declared.decl.Class.TheVariants as class
use Rattle.vl_size.specs.declared.decl.Decl.{Decl}
use Rattle.vl_size.specs.Size.{Values}
use Rattle.vl_size.specs.Table.{declared_as}
use Rattle.vl_mean.specs.declared.driver.Driver.{Driver}
use Rattle.vl_mean.specs.declared.driver.DriverKind.{DriverKind}
use Rattle.vl_mean.specs.declared.driver.DriverKind.TheVariants as k
use Rattle.vl_mean.specs.declared.driver.Start.{Start}
use Rattle.vl_mean.specs.Cells.{cells, contains_name}
use Rattle.vl_mean.specs.FlatLaw.{flat_scopes, is_net, is_variable, IsDriver, IsKept}
use Rattle.vl_mean.specs.FlatParts.{driver_part, parts_of}
use Rattle.vl_mean.specs.Parts.{Part, declares, equation, combinational, clocked, starts}
use Rattle.vl_mean.specs.Runs.{Each, EachBelow, EachBit, EachDeclared, OnlyIf, AgreesAt, Agrees, InRange, is_driven_by}
use Rattle.vl_mean.specs.Runs.{is_driven, is_chosen, ChoosesAlike}
use Rattle.vl_mean.specs.Scopes.{Scope, is_clock_class}
use Rattle.vl_mean.specs.Targets.{bit_of}
use Rattle.vl_flow_spec.specs.Drivers.{is_clocked, driven_by, driven_by_any}
use Rattle.vl_flow_spec.specs.Reads.{IsCellOf, AreInRange}
use Rattle.vl_flow_spec.specs.Settle.{IsBitOf}
use Rattle.vl_mean_flat.proofs.EachOf.{each_map}
use Rattle.vl_flow_spec.proofs.Bools.{or_left, or_right, or_case, none_of}
use Rattle.vl_flow_spec.proofs.Cells.{HaveOwnCells, each_contained, each_of_contained}
use Rattle.vl_flow_spec.specs.Refusals.{undriven, driven_in, with_bit_of, first_below}
use Rattle.vl_flow_spec.specs.Sequence.{is_settled, has_number}
use Rattle.vl_flow_spec.proofs.Chain.{AreSettled, kinds, driver_of, driven_of, settled_there}
use Rattle.vl_flow_spec.proofs.Changed.{driver_changed, may_drive}
use Rattle.vl_flow_spec.proofs.Elements.{all_at, each_declared_as, each_below_at, each_below_of, driver_parts}
use Rattle.vl_flow_spec.proofs.Elements.{start_parts}
use Rattle.vl_flow_spec.proofs.Elements.{decl_parts}
use Rattle.vl_flow_spec.proofs.Found.{none_below, none_of_names}
use Rattle.vl_flow_spec.proofs.Single.{net_is_vector, vector_cell, not_both_kinds}

-- ---- declared names among the parts

module _ (P : Decl → Type 0) where
  declared_both : (rs qs : List Part) → EachDeclared P rs → EachDeclared P qs → EachDeclared P (rs ++ qs)
  declared_both [] qs h g = g
  declared_both (declares d ∷ rs) qs h g = (h.0, declared_both rs qs h.1 g)
  declared_both (equation ts l us e ∷ rs) qs h g = declared_both rs qs h g
  declared_both (combinational us x ∷ rs) qs h g = declared_both rs qs h g
  declared_both (clocked us x ∷ rs) qs h g = declared_both rs qs h g
  declared_both (starts us l e ∷ rs) qs h g = declared_both rs qs h g

  declared_front : (rs qs : List Part) → EachDeclared P (rs ++ qs) → EachDeclared P rs
  declared_front [] qs h = tt
  declared_front (declares d ∷ rs) qs h = (h.0, declared_front rs qs h.1)
  declared_front (equation ts l us e ∷ rs) qs h = declared_front rs qs h
  declared_front (combinational us x ∷ rs) qs h = declared_front rs qs h
  declared_front (clocked us x ∷ rs) qs h = declared_front rs qs h
  declared_front (starts us l e ∷ rs) qs h = declared_front rs qs h

  driver_declares : (us : List Scope) (y : DriverKind) (qs : List Part) → EachDeclared P qs
      → EachDeclared P (driver_part us y ∷ qs)
  driver_declares us (k.Assign l e) qs h = h
  driver_declares us (k.Comb x) qs h = h
  driver_declares us (k.Clocked x) qs h = h

  drivers_declare : (us : List Scope) (xs : List Driver) → EachDeclared P (driver_parts us xs)
  drivers_declare us [] = tt
  drivers_declare us (x ∷ xs) = driver_declares us x.what (driver_parts us xs) (drivers_declare us xs)

  starts_declare : (us : List Scope) (xs : List Start) → EachDeclared P (start_parts us xs)
  starts_declare us [] = tt
  starts_declare us (x ∷ xs) = starts_declare us xs

  decls_declare : (ds : List Decl) → Each P ds → EachDeclared P (decl_parts ds)
  decls_declare [] h = tt
  decls_declare (d ∷ ds) h = (h.0, decls_declare ds h.1)

  each_declares : (ds : List Decl) → EachDeclared P (decl_parts ds) → Each P ds
  each_declares [] h = tt
  each_declares (d ∷ ds) h = (h.0, each_declares ds h.1)

  pub declared_of : (ds : List Decl) (drivers : List Driver) (firsts : List Start) → Each P ds
      → EachDeclared P (parts_of ds drivers firsts)
  declared_of ds drivers firsts h =
      declared_both (decl_parts ds ++ driver_parts (flat_scopes ds) drivers) (start_parts (flat_scopes ds) firsts)
      (declared_both (decl_parts ds) (driver_parts (flat_scopes ds) drivers) (decls_declare ds h)
      (drivers_declare (flat_scopes ds) drivers)) (starts_declare (flat_scopes ds) firsts)

  pub of_declared : (ds : List Decl) (drivers : List Driver) (firsts : List Start)
      → EachDeclared P (parts_of ds drivers firsts) → Each P ds
  of_declared ds drivers firsts h =
      each_declares ds (declared_front (decl_parts ds) (driver_parts (flat_scopes ds) drivers)
      (declared_front (decl_parts ds ++ driver_parts (flat_scopes ds) drivers) (start_parts (flat_scopes ds) firsts) h))

-- ---- the clock has no number

agrees_cells : (u v : Values) (d : Decl) (c : Class) → is_clock_class c ≡ false → AgreesAt u v d c
    → Each (λ text. u text ≡ v text) (cells d)
agrees_cells u v d class.Clock e h = absurd (true≢false e)
agrees_cells u v d class.Reset e h = h
agrees_cells u v d class.Input e h = h
agrees_cells u v d class.Net e h = h
agrees_cells u v d class.Variable e h = h
agrees_cells u v d class.EachCycle e h = h
agrees_cells u v d class.Once e h = h

agrees_of_cells : (u v : Values) (d : Decl) (c : Class)
    → (is_clock_class c ≡ false → Each (λ text. u text ≡ v text) (cells d)) → AgreesAt u v d c
agrees_of_cells u v d class.Clock h = tt
agrees_of_cells u v d class.Reset h = h refl
agrees_of_cells u v d class.Input h = h refl
agrees_of_cells u v d class.Net h = h refl
agrees_of_cells u v d class.Variable h = h refl
agrees_of_cells u v d class.EachCycle h = h refl
agrees_of_cells u v d class.Once h = h refl

range_cells : (v : Values) (d : Decl) (c : Class) → is_clock_class c ≡ false → InRange v d c
    → Each (λ text. v text < 2 ^ d.width) (cells d)
range_cells v d class.Clock e h = absurd (true≢false e)
range_cells v d class.Reset e h = h
range_cells v d class.Input e h = h
range_cells v d class.Net e h = h
range_cells v d class.Variable e h = h
range_cells v d class.EachCycle e h = h
range_cells v d class.Once e h = h

range_of_cells : (v : Values) (d : Decl) (c : Class)
    → (is_clock_class c ≡ false → Each (λ text. v text < 2 ^ d.width) (cells d)) → InRange v d c
range_of_cells v d class.Clock h = tt
range_of_cells v d class.Reset h = h refl
range_of_cells v d class.Input h = h refl
range_of_cells v d class.Net h = h refl
range_of_cells v d class.Variable h = h refl
range_of_cells v d class.EachCycle h = h refl
range_of_cells v d class.Once h = h refl

-- ---- what is driven

driven_append : (rs qs : List Part) (n : List ℕ) (i : ℕ)
    → is_driven (rs ++ qs) n i ≡ (is_driven rs n i || is_driven qs n i)
driven_append [] qs n i = refl
driven_append (p ∷ rs) qs n i =
    ap (λ b. is_driven_by p n i || b) (driven_append rs qs n i)
    ∙ assoc (is_driven_by p n i) (is_driven rs n i) (is_driven qs n i)
  where
    assoc : (a b c : Bool) → (a || (b || c)) ≡ ((a || b) || c)
    assoc true b c = refl
    assoc false b c = refl

pub driven_among : (us : List Scope) (xs : List Driver) (n : List ℕ) (i j : ℕ) (x : Driver) → slice_get xs j ≡ Some x
    → is_driven_by (driver_part us x.what) n i ≡ true → is_driven (driver_parts us xs) n i ≡ true
driven_among us [] n i j x e h = absurd (true≢false (ap is_none e))
driven_among us (y ∷ ys) n i zero x e h =
    or_left (is_driven_by (driver_part us y.what) n i) (is_driven (driver_parts us ys) n i)
    (subst (λ z. is_driven_by (driver_part us z.what) n i ≡ true) (sym (same_Some y x e)) h)
driven_among us (y ∷ ys) n i (suc j) x e h =
    or_right (is_driven_by (driver_part us y.what) n i) (is_driven (driver_parts us ys) n i)
    (driven_among us ys n i j x e h)

-- a driver whose part drives the bit
pub record Found (us : List Scope) (xs : List Driver) (n : List ℕ) (i : ℕ) : Type 0 where
  pub place : ℕ
  pub driver : Driver
  pub stands : slice_get xs place ≡ Some driver
  pub drives : is_driven_by (driver_part us driver.what) n i ≡ true

pub found_among : (us : List Scope) (xs : List Driver) (n : List ℕ) (i : ℕ) → is_driven (driver_parts us xs) n i ≡ true
    → Found us xs n i
found_among us [] n i h = absurd (true≢false (sym h))
found_among us (x ∷ xs) n i h =
    or_case (is_driven_by (driver_part us x.what) n i) (is_driven (driver_parts us xs) n i)
    (λ t. record { place = zero; driver = x; stands = refl; drives = t })
    (λ t. let r = found_among us xs n i t in
    record { place = suc r.place; driver = r.driver; stands = r.stands; drives = r.drives }) h

decls_drive : (ds : List Decl) (n : List ℕ) (i : ℕ) → is_driven (decl_parts ds) n i ≡ false
decls_drive [] n i = refl
decls_drive (d ∷ ds) n i = decls_drive ds n i

starts_drive : (us : List Scope) (xs : List Start) (n : List ℕ) (i : ℕ) → is_driven (start_parts us xs) n i ≡ false
starts_drive us [] n i = refl
starts_drive us (x ∷ xs) n i = starts_drive us xs n i

-- the drivers alone drive
pub driven_parts : (ds : List Decl) (drivers : List Driver) (firsts : List Start) (n : List ℕ) (i : ℕ)
    → is_driven (parts_of ds drivers firsts) n i ≡ is_driven (driver_parts (flat_scopes ds) drivers) n i
driven_parts ds drivers firsts n i =
    driven_append (decl_parts ds ++ driver_parts (flat_scopes ds) drivers) (start_parts (flat_scopes ds) firsts) n i
    ∙ ap (λ b. is_driven (decl_parts ds ++ driver_parts (flat_scopes ds) drivers) n i || b)
    (starts_drive (flat_scopes ds) firsts n i)
    ∙ or_false (is_driven (decl_parts ds ++ driver_parts (flat_scopes ds) drivers) n i)
    ∙ driven_append (decl_parts ds) (driver_parts (flat_scopes ds) drivers) n i
    ∙ ap (λ b. b || is_driven (driver_parts (flat_scopes ds) drivers) n i) (decls_drive ds n i)
  where
    or_false : (b : Bool) → (b || false) ≡ b
    or_false true = refl
    or_false false = refl

-- ---- what is chosen

net_unchosen : (ps : List Part) (d : Decl) (c : Class) → d.class ≡ c → is_net d ≡ true → (n : List ℕ) (i : ℕ)
    → is_chosen ps c n i ≡ false
net_unchosen ps d class.Net e net n i = refl
net_unchosen ps d class.Clock e net n i = refl
net_unchosen ps d class.Reset e net n i =
    absurd (true≢false (sym net ∙ ap (λ c. is_net (record d { class = c })) e))
net_unchosen ps d class.Input e net n i =
    absurd (true≢false (sym net ∙ ap (λ c. is_net (record d { class = c })) e))
net_unchosen ps d class.Variable e net n i =
    absurd (true≢false (sym net ∙ ap (λ c. is_net (record d { class = c })) e))
net_unchosen ps d class.EachCycle e net n i =
    absurd (true≢false (sym net ∙ ap (λ c. is_net (record d { class = c })) e))
net_unchosen ps d class.Once e net n i =
    absurd (true≢false (sym net ∙ ap (λ c. is_net (record d { class = c })) e))

variable_chosen : (ps : List Part) (d : Decl) (c : Class) → d.class ≡ c → is_variable d ≡ true → (n : List ℕ) (i : ℕ)
    → is_driven ps n i ≡ true → is_chosen ps c n i ≡ false
variable_chosen ps d class.Variable e var n i h = ap not h
variable_chosen ps d class.Net e var n i h = refl
variable_chosen ps d class.Clock e var n i h = refl
variable_chosen ps d class.Reset e var n i h =
    absurd (true≢false (sym var ∙ ap (λ c. is_variable (record d { class = c })) e))
variable_chosen ps d class.Input e var n i h =
    absurd (true≢false (sym var ∙ ap (λ c. is_variable (record d { class = c })) e))
variable_chosen ps d class.EachCycle e var n i h =
    absurd (true≢false (sym var ∙ ap (λ c. is_variable (record d { class = c })) e))
variable_chosen ps d class.Once e var n i h =
    absurd (true≢false (sym var ∙ ap (λ c. is_variable (record d { class = c })) e))

chosen_if : (ps : List Part) (d : Decl) (c : Class) → d.class ≡ c → is_clock_class c ≡ false → (n : List ℕ) (i : ℕ)
    → (is_net d ≡ true → ⊥) → is_driven ps n i ≡ false → is_chosen ps c n i ≡ true
chosen_if ps d class.Clock e counted n i net h = absurd (true≢false counted)
chosen_if ps d class.Net e counted n i net h = absurd (net (ap (λ c. is_net (record d { class = c })) e))
chosen_if ps d class.Variable e counted n i net h = ap not h
chosen_if ps d class.Reset e counted n i net h = refl
chosen_if ps d class.Input e counted n i net h = refl
chosen_if ps d class.EachCycle e counted n i net h = refl
chosen_if ps d class.Once e counted n i net h = refl

only_if : (b : Bool) (P : Type 0) → (b ≡ true → P) → OnlyIf b P
only_if true P f = f refl
only_if false P f = tt

of_only_if : (b : Bool) (P : Type 0) → b ≡ true → OnlyIf b P → P
of_only_if true P e h = h
of_only_if false P e h = absurd (true≢false (sym e))

module _ (ds : List Decl) (drivers : List Driver) (firsts : List Start)
    (declared : Each (λ d. declared_as ds d.name ≡ Some d) ds) where
  abbrev pub ps : List Part
  ps = parts_of ds drivers firsts

  cell_of : (d : Decl) (n : List ℕ) → declared_as ds d.name ≡ Some d → contains_name (cells d) n ≡ true → IsCellOf ds d n
  cell_of d n own cell = record { declared = own; cell = cell }

  -- ---- agreement and range

  pub agree_at : (u v : Values) → Agrees ps u v → (d : Decl) (n : List ℕ) → IsCellOf ds d n
      → is_clock_class d.class ≡ false → u n ≡ v n
  agree_at u v h d n of counted =
      each_contained (λ text. u text ≡ v text) (cells d) n
      (agrees_cells u v d d.class counted
      (each_declared_as (λ d. AgreesAt u v d d.class) ds d.name d of.declared
      (of_declared (λ d. AgreesAt u v d d.class) ds drivers firsts h))) of.cell

  pub agrees_all : (u v : Values)
      → ((d : Decl) (n : List ℕ) → IsCellOf ds d n → is_clock_class d.class ≡ false → u n ≡ v n) → Agrees ps u v
  agrees_all u v f =
      declared_of (λ d. AgreesAt u v d d.class) ds drivers firsts
      (each_map (λ d own. agrees_of_cells u v d d.class (λ counted.
      each_of_contained (λ text. u text ≡ v text) (cells d) (λ n c. f d n (cell_of d n own c) counted))) ds declared)

  pub in_range_of : (v : Values) → Each (λ d. InRange v d d.class) ds → AreInRange ds v
  in_range_of v h d n of counted =
      each_contained (λ text. v text < 2 ^ d.width) (cells d) n
      (range_cells v d d.class counted (each_declared_as (λ d. InRange v d d.class) ds d.name d of.declared h)) of.cell

  pub in_range_all : (v : Values) → AreInRange ds v → Each (λ d. InRange v d d.class) ds
  in_range_all v f =
      each_map (λ d own. range_of_cells v d d.class (λ counted.
      each_of_contained (λ text. v text < 2 ^ d.width) (cells d) (λ n c. f d n (cell_of d n own c) counted)))
      ds declared

  -- ---- choices

  pub chosen_at : (u v : Values) → ChoosesAlike ps u v → (d : Decl) (n : List ℕ) (i : ℕ) → IsCellOf ds d n
      → i < d.width → is_chosen ps d.class n i ≡ true → bit_of (u n) i ≡ bit_of (v n) i
  chosen_at u v h d n i of below c =
      of_only_if (is_chosen ps d.class n i) (bit_of (u n) i ≡ bit_of (v n) i) c
      (each_below_at (λ i. OnlyIf (is_chosen ps d.class n i) (bit_of (u n) i ≡ bit_of (v n) i)) d.width i below
      (each_contained (λ text. EachBelow (λ i. OnlyIf (is_chosen ps d.class text i)
      (bit_of (u text) i ≡ bit_of (v text) i)) d.width) (cells d) n
      (each_declared_as alike ds d.name d of.declared (of_declared alike ds drivers firsts h)) of.cell))
    where
      alike : Decl → Type 0
      alike d =
          EachBit (λ text i. OnlyIf (is_chosen ps d.class text i) (bit_of (u text) i ≡ bit_of (v text) i)) d

  pub chooses_alike : (u v : Values)
      → ((d : Decl) (n : List ℕ) (i : ℕ) → IsCellOf ds d n → i < d.width → is_chosen ps d.class n i ≡ true
      → bit_of (u n) i ≡ bit_of (v n) i)
      → ChoosesAlike ps u v
  chooses_alike u v f =
      declared_of (λ d. EachBit (λ text i. OnlyIf (is_chosen ps d.class text i)
      (bit_of (u text) i ≡ bit_of (v text) i)) d) ds drivers firsts
      (each_map (λ d own.
      each_of_contained (λ text. EachBelow (λ i. OnlyIf (is_chosen ps d.class text i)
      (bit_of (u text) i ≡ bit_of (v text) i)) d.width) (cells d) (λ n c.
      each_below_of (λ i. OnlyIf (is_chosen ps d.class n i) (bit_of (u n) i ≡ bit_of (v n) i)) d.width (λ i below.
      only_if (is_chosen ps d.class n i) (bit_of (u n) i ≡ bit_of (v n) i) (f d n i (cell_of d n own c) below))))
      ds declared)

  -- ---- what is chosen isn't driven, and the other way round

  module _ (wide : (d : Decl) → declared_as ds d.name ≡ Some d → 1 ≤ d.width) (own : HaveOwnCells ds)
      (kept : All IsKept ds) (are : All (λ x. IsDriver ds x.what) drivers) (none : undriven ds drivers ≡ None)
      (s : List ℕ) (settled : AreSettled drivers s)
      (all : (i : ℕ) → is_settled (slice_get drivers i) ≡ true → has_number s i ≡ true) where
    of_driver : (q : ℕ) (z : Driver) → slice_get drivers q ≡ Some z → IsDriver ds z.what
    of_driver q z e = all_at (λ z. IsDriver ds z.what) drivers q z e are

    pub chosen_is_free : (d : Decl) (n : List ℕ) (i : ℕ) → IsCellOf ds d n → is_chosen ps d.class n i ≡ true
        → driven_by_any ds (kinds drivers s) n i ≡ false
    chosen_is_free d n i of c =
        none_of (driven_by_any ds (kinds drivers s) n i) (λ t.
        let r = driver_of drivers ds s settled n i t in
        let b = driver_changed ds r.driver.what (of_driver r.number r.driver r.is) n i r.drives in
        let may = subst (λ e. may_drive ds r.driver.what e ≡ true) (own b.decl d n b.of of) b.may_be in
        sym (by r.number r.driver r.is r.driver.what refl may r.drives r.unclocked) ∙ c)
      where
        by : (j : ℕ) (x : Driver) → slice_get drivers j ≡ Some x → (y : DriverKind) → x.what ≡ y
            → may_drive ds y d ≡ true → driven_by ds y n i ≡ true → is_clocked y ≡ false
            → is_chosen ps d.class n i ≡ false
        by j x e (k.Assign l f) what may t u = net_unchosen ps d d.class refl may n i
        by j x e (k.Comb z) what may t u =
            variable_chosen ps d d.class refl may n i
            (driven_parts ds drivers firsts n i
            ∙ driven_among (flat_scopes ds) drivers n i j x e
            (subst (λ y. is_driven_by (driver_part (flat_scopes ds) y) n i ≡ true) (sym what) t))
        by j x e (k.Clocked z) what may t u = absurd (true≢false u)

    -- a bit of a net has a driver that isn't clocked
    driven_at : (xs : List Driver) (n : List ℕ) (i : ℕ) → driven_in ds xs n i ≡ true
        → (j : ℕ) × (x : Driver) × (slice_get xs j ≡ Some x) × (driven_by ds x.what n i ≡ true)
    driven_at [] n i h = absurd (true≢false (sym h))
    driven_at (x ∷ xs) n i h =
        or_case (driven_by ds x.what n i) (driven_in ds xs n i) (λ t. (zero, x, refl, t))
        (λ t. let r = driven_at xs n i t in (suc r.0, r.1, r.2, r.3)) h

    net_driven : (d : Decl) → declared_as ds d.name ≡ Some d → is_net d ≡ true → (i : ℕ) → i < d.width
        → driven_in ds drivers d.name i ≡ true
    net_driven d is net i below =
        of_not (driven_in ds drivers d.name i)
        (none_below (λ i. not (driven_in ds drivers d.name i)) d.width
        (no_bit (first_below (λ i. not (driven_in ds drivers d.name i)) d.width)
        (subst (λ c. (if c then with_bit_of d.name (first_below (λ i. not (driven_in ds drivers d.name i)) d.width)
        else None) ≡ None) net
        (each_declared_as (λ d. bare d ≡ None) ds d.name d is (none_of_names bare ds none)))) i below)
      where
        bare : Decl → Option (List ℕ × ℕ)
        bare d =
            if is_net d then with_bit_of d.name (first_below (λ i. not (driven_in ds drivers d.name i)) d.width)
            else None

        no_bit : (o : Option ℕ) → with_bit_of d.name o ≡ None → o ≡ None
        no_bit None e = refl
        no_bit (Some j) e = absurd (true≢false (sym (ap is_none e)))

        of_not : (b : Bool) → not b ≡ false → b ≡ true
        of_not true e = refl
        of_not false e = sym e

    net_in_order : (d : Decl) (n : List ℕ) (i : ℕ) → IsCellOf ds d n → i < d.width → is_net d ≡ true
        → driven_by_any ds (kinds drivers s) n i ≡ true
    net_in_order d n i of below net =
        let same = vector_cell ds wide own kept d n (net_is_vector ds wide own kept d of.declared net) of.cell in
        let r = driven_at drivers d.name i (net_driven d of.declared net i below) in
        let at = subst (λ m. driven_by ds r.1.what m i ≡ true) (sym same) r.3 in
        let b = driver_changed ds r.1.what (of_driver r.0 r.1 r.2) n i at in
        let may = subst (λ e. may_drive ds r.1.what e ≡ true) (own b.decl d n b.of of) b.may_be in
        driven_of drivers ds s r.0 r.1 n i
        (all r.0 (settled_there drivers r.0 r.1 r.2 (by r.1.what may))) r.2 at
      where
        by : (y : DriverKind) → may_drive ds y d ≡ true → is_clocked y ≡ false
        by (k.Assign l e) may = refl
        by (k.Comb z) may = refl
        by (k.Clocked z) may = absurd (not_both_kinds ds wide own kept d d.class refl net may)

    pub free_is_chosen : (n : List ℕ) (i : ℕ) → (here : IsBitOf ds n i)
        → driven_by_any ds (kinds drivers s) n i ≡ false → is_chosen ps here.decl.class n i ≡ true
    free_is_chosen n i here free =
        chosen_if ps here.decl here.decl.class refl here.counted n i
        (λ net. true≢false (sym (net_in_order here.decl n i here.of here.below net) ∙ free))
        (none_of (is_driven ps n i) (λ t.
        let r = found_among (flat_scopes ds) drivers n i (sym (driven_parts ds drivers firsts n i) ∙ t) in
        sym free ∙ by r.place r.driver r.stands r.driver.what refl r.drives))
      where
        by : (j : ℕ) (x : Driver) → slice_get drivers j ≡ Some x → (y : DriverKind) → x.what ≡ y
            → is_driven_by (driver_part (flat_scopes ds) y) n i ≡ true
            → driven_by_any ds (kinds drivers s) n i ≡ true
        by j x e (k.Assign l f) what t = absurd (true≢false (sym t))
        by j x e (k.Comb z) what t =
            driven_of drivers ds s j x n i (all j (settled_there drivers j x e (ap is_clocked what))) e
            (subst (λ y. driven_by ds y n i ≡ true) (sym what) t)
        by j x e (k.Clocked z) what t = absurd (true≢false (sym t))
