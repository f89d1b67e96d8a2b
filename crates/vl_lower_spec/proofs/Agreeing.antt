-- Maps that agree on all declared names but the clock: what holds of one holds of the other.
use Rattle.std.specs.Prelude.{◌≡◌, refl, ℕ, ◌<◌, ◌≤◌, ◌^◌, List, [], ◌∷◌, ◌++◌, Bool, true, false, ◌||◌, not, All, Some}
use Rattle.std.specs.Prelude.{bytes_eq, if◌then◌else◌, slice_get}
use Rattle.std.proofs.Common.{ap, sym, ◌∙◌, subst, true≢false}
use Rattle.std.proofs.lemmas.Nat.Bits.{same_from_bits_below}
use Rattle.std.proofs.lemmas.Slice.Eq.{bytes_eq-Decides}
use Rattle.vl_tree.specs.Stmt.{Stmt}
use Rattle.vl_size.specs.declared.decl.Class.{Class}
use Rattle.vl_size.specs.declared.decl.Class.TheVariants as class
use Rattle.vl_size.specs.declared.decl.Decl.{Decl}
use Rattle.vl_size.specs.Size.{Values}
use Rattle.vl_size.specs.Table.{AreApart, AreDifferent, IsShaped, declared_as}
use Rattle.vl_mean.specs.declared.driver.Driver.{Driver}
use Rattle.vl_mean.specs.declared.driver.DriverKind.{DriverKind}
use Rattle.vl_mean.specs.declared.driver.DriverKind.TheVariants as k
use Rattle.vl_mean.specs.declared.driver.Start.{Start}
use Rattle.vl_mean.specs.Cells.{cells}
use Rattle.vl_mean.specs.Execution.{assigns, begun, ended, exec}
use Rattle.vl_mean.specs.FlatLaw.{IsBlock, IsDriver, IsLawful, flat_scopes}
use Rattle.vl_mean.specs.FlatParts.{driver_part, parts_of, start_part}
use Rattle.vl_mean.specs.Parts.{Part, declares}
use Rattle.vl_mean.specs.Runs.{Agrees, ChoosesAlike, Clocks, Each, EachBelow, EachBit, EachDeclared, Holds, Keeps, Next}
use Rattle.vl_mean.specs.Runs.{OnlyIf, PartAssumes, PartSteps, is_assigned, is_chosen}
use Rattle.vl_mean.specs.Scopes.{Scope, is_clock_class}
use Rattle.vl_mean.specs.Targets.{Write, bit_of, put, put_all, with_bit}
use Rattle.vl_flow_spec.specs.Drivers.{IsWhole, is_clocked}
use Rattle.vl_flow_spec.specs.Paths.{is_blocking, needs, sure}
use Rattle.vl_flow_spec.specs.Reads.{AreInRange, Bits, Covers, IsCellOf}
use Rattle.vl_flow_spec.specs.Settle.{AreAccepted, AreMet, IsBitOf, driven}
use Rattle.vl_flow_spec.proofs.Alike.{◌∪◌}
use Rattle.vl_flow_spec.proofs.Bools.{or_case, or_left, or_right}
use Rattle.vl_flow_spec.proofs.Cells.{HaveOwnCells, each_contained, each_of_contained}
use Rattle.vl_flow_spec.proofs.Clockless.{needs_no_clock}
use Rattle.vl_flow_spec.proofs.Execs.{SameState, exec_same, variable_counted}
use Rattle.vl_flow_spec.proofs.Stages.{assign_is, comb_is}
use Rattle.vl_mean_flat.proofs.EachOf.{back, both, each_map, front}
use Rattle.vl_flow_spec.specs.Refusals.{HasNoRefusal}
use Rattle.vl_flow_spec.specs.Sequence.{IsSequence}
use Rattle.vl_flow_spec.proofs.Changed.{block_changed}
use Rattle.vl_flow_spec.proofs.Chain.{kinds}
use Rattle.vl_flow_spec.proofs.Choices.{agree_at, agrees_all, chooses_alike, declared_of, in_range_all, in_range_of}
use Rattle.vl_flow_spec.proofs.Choices.{of_declared}
use Rattle.vl_flow_spec.proofs.Elements.{all_at, decl_parts, driver_parts, each_at, each_below_at, each_below_of}
use Rattle.vl_flow_spec.proofs.Elements.{each_map_of}
use Rattle.vl_flow_spec.proofs.Elements.{each_mapped, each_of_places, start_parts}
use Rattle.vl_flow_spec.proofs.Held as held
use Rattle.vl_lower_spec.specs.Built.{AreRanged}

-- a map after writes depends at each name on its number there alone
pub put_same : (ws : List Write) (u v : Values) (n : List ℕ) → u n ≡ v n → put_all ws u n ≡ put_all ws v n
put_same [] u v n e = e
put_same (w ∷ ws) u v n e =
    put_same ws (put w u) (put w v) n
    (ap (λ x. if bytes_eq n w.spot.name then with_bit x w.spot.offset w.value else x) e)

module _ (ds : List Decl) (drivers : List Driver) (firsts : List Start) (shaped : All IsShaped ds)
    (different : AreDifferent ds) (apart : AreApart ds) (lawful : IsLawful ds drivers firsts)
    (none : HasNoRefusal ds drivers) (s : List ℕ) (order : IsSequence ds drivers s) where
  abbrev pub ps : List Part
  ps = parts_of ds drivers firsts

  pub declared : Each (λ d. declared_as ds d.name ≡ Some d) ds
  declared = held.declared ds drivers firsts shaped different apart lawful none s order

  wide : (d : Decl) → declared_as ds d.name ≡ Some d → 1 ≤ d.width
  wide = held.wide ds drivers firsts shaped different apart lawful none s order

  pub own_cells : HaveOwnCells ds
  own_cells = held.cells ds drivers firsts shaped different apart lawful none s order

  -- ---- numbers

  pub agree_back : (u v : Values) → Agrees ps u v → Agrees ps v u
  agree_back u v h =
      agrees_all ds drivers firsts declared v u (λ d n of counted.
      sym (agree_at ds drivers firsts declared u v h d n of counted))

  pub agree_on : (u v w : Values) → Agrees ps u v → Agrees ps v w → Agrees ps u w
  agree_on u v w h g =
      agrees_all ds drivers firsts declared u w (λ d n of counted.
      agree_at ds drivers firsts declared u v h d n of counted ∙ agree_at ds drivers firsts declared v w g d n of counted)

  pub ranged_as : (u v : Values) → Agrees ps u v → AreRanged ds v → AreRanged ds u
  ranged_as u v h r =
      in_range_all ds drivers firsts declared u (λ d n of counted.
      subst (λ x. x < 2 ^ d.width) (sym (agree_at ds drivers firsts declared u v h d n of counted))
      (in_range_of ds drivers firsts declared v r d n of counted))

  pub chosen_as : (u v : Values) → Agrees ps u v → ChoosesAlike ps u v
  chosen_as u v h =
      chooses_alike ds drivers firsts declared u v (λ d n i of below c.
      ap (λ x. bit_of x i) (agree_at ds drivers firsts declared u v h d n of (counted d d.class refl n i c)))
    where
      counted : (d : Decl) (c : Class) → d.class ≡ c → (n : List ℕ) (i : ℕ) → is_chosen ps d.class n i ≡ true
          → is_clock_class d.class ≡ false
      counted d class.Clock e n i h =
          absurd (true≢false (sym h ∙ ap (λ x. is_chosen ps x n i) e))
      counted d class.Input e n i h = ap is_clock_class e
      counted d class.Reset e n i h = ap is_clock_class e
      counted d class.EachCycle e n i h = ap is_clock_class e
      counted d class.Once e n i h = ap is_clock_class e
      counted d class.Net e n i h = ap is_clock_class e
      counted d class.Variable e n i h = ap is_clock_class e

  -- ---- what a driver makes of maps that agree

  bits_as : (u v : Values) → Agrees ps u v → (n : List ℕ) (i : ℕ) → IsBitOf ds n i → bit_of (u n) i ≡ bit_of (v n) i
  bits_as u v h n i here = ap (λ x. bit_of x i) (agree_at ds drivers firsts declared u v h here.decl n here.of here.counted)

  abbrev all_bits : Bits
  all_bits n i = true

  driven_as : (u v : Values) → Agrees ps u v → AreInRange ds u → AreInRange ds v → (x : DriverKind) → IsDriver ds x
      → IsWhole ds x → is_clocked x ≡ false → (n : List ℕ) (i : ℕ) → IsBitOf ds n i
      → bit_of (driven ds x u n) i ≡ bit_of (driven ds x v n) i
  driven_as u v h ok_u ok_v (k.Assign l e) is whole c n i here =
      (assign_is ds wide own_cells l e is.0 is.1).same all_bits u v ok_u ok_v (λ m j t. refl)
      (λ m j at t. bits_as u v h m j at) n i here refl
  driven_as u v h ok_u ok_v (k.Comb z) is whole c n i here =
      (comb_is ds wide own_cells z is whole).same all_bits u v ok_u ok_v (λ m j t. refl)
      (λ m j at t. bits_as u v h m j at) n i here refl
  driven_as u v h ok_u ok_v (k.Clocked z) is whole c n i here = absurd (true≢false c)

  met_as : (u v : Values) → Agrees ps u v → AreInRange ds u → AreInRange ds v → (xs : List DriverKind)
      → AreAccepted ds xs → AreMet ds v xs → AreMet ds u xs
  met_as u v h ok_u ok_v [] ok m = tt
  met_as u v h ok_u ok_v (x ∷ xs) ok m = (
    λ n i here t. driven_as u v h ok_u ok_v x ok.0 ok.1 ok.2 n i here ∙ m.0 n i here t ∙ sym (bits_as u v h n i here),
    met_as u v h ok_u ok_v xs ok.3 m.1,
  )

  range_of : (v : Values) → AreRanged ds v → AreInRange ds v
  range_of v r = in_range_of ds drivers firsts declared v r

  pub ranged_of : (v : Values) → Holds ps v → AreRanged ds v
  ranged_of v h =
      in_range_all ds drivers firsts declared v
      (held.range ds drivers firsts shaped different apart lawful none s order v h)

  pub holds_as : (u v : Values) → Agrees ps u v → Holds ps v → Holds ps u
  holds_as u v h holds =
      let ranged = ranged_of v holds in
      let ok_u = range_of u (ranged_as u v h ranged) in
      held.met_holds ds drivers firsts shaped different apart lawful none s order u ok_u
      (met_as u v h ok_u (range_of v ranged) (kinds drivers s)
      (held.ok ds drivers firsts shaped different apart lawful none s order)
      (held.met ds drivers firsts shaped different apart lawful none s order v holds))

  -- ---- a block over maps that agree

  module _ (z : Stmt) (is : IsBlock ds z) (u v : Values) (h : Agrees ps u v) (ok_u : AreInRange ds u)
      (ok_v : AreInRange ds v) where
    abbrev ss : List Scope
    ss = flat_scopes ds

    runs_as : (K : Bits) → Covers K (needs ds z)
        → ((d : Decl) (n : List ℕ) (i : ℕ) → IsCellOf ds d n → K n i ≡ true → is_clock_class d.class ≡ false)
        → SameState ds (K ∪ sure ds is_blocking z) (exec ss z (begun u)) (exec ss z (begun v))
    runs_as K c counted =
        exec_same ds wide own_cells z is K (begun u) (begun v) (record {
          now = record {
            bits = λ d n i of below t.
                bits_as u v h n i (record { decl = d; of = of; below = below; counted = counted d n i of t });
            left = ok_u;
            right = ok_v;
            counted = counted;
          };
          pending = refl;
          seen = refl;
        }) c

    pub seen_as : (exec ss z (begun u)).seen ≡ (exec ss z (begun v)).seen
    seen_as = (runs_as (needs ds z) (λ n i t. t) (needs_no_clock ds own_cells z is)).seen

    -- the bits that it needs, and those of a name
    abbrev with_name : List ℕ → Bits
    with_name text n i = needs ds z n i || bytes_eq n text

    now_as : (d : Decl) (n : List ℕ) → IsCellOf ds d n → is_clock_class d.class ≡ false
        → SameState ds (with_name n ∪ sure ds is_blocking z) (exec ss z (begun u)) (exec ss z (begun v))
    now_as d n of counted =
        runs_as (with_name n) (λ m i t. or_left (needs ds z m i) (bytes_eq m n) t)
        (λ e m i at t. or_case (needs ds z m i) (bytes_eq m n) (needs_no_clock ds own_cells z is e m i at)
        (λ same. let is_n : m ≡ n = (bytes_eq-Decides m n).0 same in
        ap (λ (x : Decl). is_clock_class x.class)
        (own_cells e d m at (subst (IsCellOf ds d) (sym is_n) of)) ∙ counted) t)

    pub ended_as : (d : Decl) (n : List ℕ) → IsCellOf ds d n → is_clock_class d.class ≡ false
        → ended (exec ss z (begun u)) n ≡ ended (exec ss z (begun v)) n
    ended_as d n of counted =
        let same = now_as d n of counted in
        let now : (exec ss z (begun u)).now n ≡ (exec ss z (begun v)).now n =
        same_from_bits_below d.width ((exec ss z (begun u)).now n) ((exec ss z (begun v)).now n)
        (same.now.left d n of counted) (same.now.right d n of counted)
        (λ i less. same.now.bits d n i of less
        (or_left (with_name n n i) (sure ds is_blocking z n i)
        (or_right (needs ds z n i) (bytes_eq n n) ((bytes_eq-Decides n n).1 refl)))) in
        ap (λ ws. put_all ws (exec ss z (begun u)).now n) same.pending
        ∙ put_same (exec ss z (begun v)).pending (exec ss z (begun u)).now (exec ss z (begun v)).now n now

  -- ---- each bit of each declared name

  pub bits_map : (P Q : List ℕ → ℕ → Type 0) (d : Decl) → declared_as ds d.name ≡ Some d
      → ((n : List ℕ) (i : ℕ) → IsCellOf ds d n → i < d.width → P n i → Q n i) → EachBit P d → EachBit Q d
  bits_map P Q d own f h =
      each_of_contained (λ n. EachBelow (λ i. Q n i) d.width) (cells d) (λ n c.
      each_below_of (λ i. Q n i) d.width (λ i less.
      f n i (record { declared = own; cell = c }) less
      (each_below_at (λ i. P n i) d.width i less
      (each_contained (λ n. EachBelow (λ i. P n i) d.width) (cells d) n h c))))

  with_own : (P Q : Decl → Type 0) → ((d : Decl) → declared_as ds d.name ≡ Some d → P d → Q d) → (xs : List Decl)
      → Each (λ d. declared_as ds d.name ≡ Some d) xs → Each P xs → Each Q xs
  with_own P Q f [] own h = tt
  with_own P Q f (d ∷ xs) own h = (f d own.0 h.0, with_own P Q f xs own.1 h.1)

  pub declared_map : (P Q : Decl → Type 0) → ((d : Decl) → declared_as ds d.name ≡ Some d → P d → Q d)
      → EachDeclared P ps → EachDeclared Q ps
  declared_map P Q f h =
      declared_of Q ds drivers firsts (with_own P Q f ds declared (of_declared P ds drivers firsts h))

  pub only_map : (b : Bool) (P Q : Type 0) → (b ≡ true → P → Q) → OnlyIf b P → OnlyIf b Q
  only_map true P Q f h = f refl h
  only_map false P Q f h = tt

  pub bits_all : (R : List ℕ → ℕ → Type 0) (b : Decl → List ℕ → ℕ → Bool)
      → ((d : Decl) (n : List ℕ) (i : ℕ) → IsCellOf ds d n → i < d.width → b d n i ≡ true → R n i)
      → EachDeclared (λ d. EachBit (λ n i. OnlyIf (b d n i) (R n i)) d) ps
  bits_all R b f =
      declared_of (λ d. EachBit (λ n i. OnlyIf (b d n i) (R n i)) d) ds drivers firsts
      (each_map (λ d own.
      each_of_contained (λ n. EachBelow (λ i. OnlyIf (b d n i) (R n i)) d.width) (cells d) (λ n c.
      each_below_of (λ i. OnlyIf (b d n i) (R n i)) d.width (λ i below.
      only_where (b d n i) (R n i) (f d n i (record { declared = own; cell = c }) below))))
      ds declared)
    where
      only_where : (b : Bool) (P : Type 0) → (b ≡ true → P) → OnlyIf b P
      only_where true P f = f refl
      only_where false P f = tt

  -- ---- what the parts of drivers and names say

  module _ (P Q : Part → Type 0) (of_name : (d : Decl) → declared_as ds d.name ≡ Some d → P (declares d) → Q (declares d))
      (of_driver : (i : ℕ) (x : Driver) → slice_get drivers i ≡ Some x → IsDriver ds x.what
      → P (driver_part (flat_scopes ds) x.what) → Q (driver_part (flat_scopes ds) x.what))
      (of_start : (x : Start) → Q (start_part (flat_scopes ds) x)) where
    drivers_map : Each (λ x. P (driver_part (flat_scopes ds) x.what)) drivers
        → Each (λ x. Q (driver_part (flat_scopes ds) x.what)) drivers
    drivers_map h =
        each_of_places (λ x. Q (driver_part (flat_scopes ds) x.what)) drivers (λ i x e.
        of_driver i x e (all_at (λ x. IsDriver ds x.what) drivers i x e lawful.driven)
        (each_at (λ x. P (driver_part (flat_scopes ds) x.what)) drivers i x e h))

    starts_map : (xs : List Start) → Each (λ x. Q (start_part (flat_scopes ds) x)) xs
    starts_map [] = tt
    starts_map (x ∷ xs) = (of_start x, starts_map xs)

    pub parts_map : Each P ps → Each Q ps
    parts_map h =
        let named = front P (decl_parts ds ++ driver_parts (flat_scopes ds) drivers) (start_parts (flat_scopes ds) firsts) h in
        both Q (decl_parts ds ++ driver_parts (flat_scopes ds) drivers) (start_parts (flat_scopes ds) firsts)
        (both Q (decl_parts ds) (driver_parts (flat_scopes ds) drivers)
        (each_map_of Q (λ d. declares d) ds
        (with_own (λ d. P (declares d)) (λ d. Q (declares d)) of_name ds declared
        (each_mapped P (λ d. declares d) ds (front P (decl_parts ds) (driver_parts (flat_scopes ds) drivers) named))))
        (each_map_of Q (λ x. driver_part (flat_scopes ds) x.what) drivers
        (drivers_map (each_mapped P (λ x. driver_part (flat_scopes ds) x.what) drivers
        (back P (decl_parts ds) (driver_parts (flat_scopes ds) drivers) named)))))
        (each_map_of Q (start_part (flat_scopes ds)) firsts (starts_map firsts))

  -- ---- next values and assumptions

  keeps_as : (u v w : Values) → Agrees ps u v → (d : Decl) → declared_as ds d.name ≡ Some d → (c : Class)
      → d.class ≡ c → Keeps ps v w d c → Keeps ps u w d c
  keeps_as u v w h d own class.Variable e held_bits =
      bits_map (λ n i. OnlyIf (not (is_assigned ps n i)) (bit_of (w n) i ≡ bit_of (v n) i))
      (λ n i. OnlyIf (not (is_assigned ps n i)) (bit_of (w n) i ≡ bit_of (u n) i)) d own
      (λ n i of less. only_map (not (is_assigned ps n i)) (bit_of (w n) i ≡ bit_of (v n) i)
      (bit_of (w n) i ≡ bit_of (u n) i)
      (λ t same. same ∙ sym (bits_as u v h n i
      (record { decl = d; of = of; below = less; counted = ap is_clock_class e })))) held_bits
  keeps_as u v w h d own class.Clock e held_bits = tt
  keeps_as u v w h d own class.Reset e held_bits = tt
  keeps_as u v w h d own class.Input e held_bits = tt
  keeps_as u v w h d own class.Net e held_bits = tt
  keeps_as u v w h d own class.EachCycle e held_bits = tt
  keeps_as u v w h d own class.Once e held_bits = tt

  clocks_as : (u v w : Values) → Agrees ps u v → AreInRange ds u → AreInRange ds v → (z : Stmt) → IsBlock ds z
      → Clocks ps v w (flat_scopes ds) z → Clocks ps u w (flat_scopes ds) z
  clocks_as u v w h ok_u ok_v z is c =
      declared_map (λ d. EachBit (λ n i. OnlyIf (assigns (flat_scopes ds) z n i)
      (bit_of (w n) i ≡ bit_of (ended (exec (flat_scopes ds) z (begun v)) n) i)) d)
      (λ d. EachBit (λ n i. OnlyIf (assigns (flat_scopes ds) z n i)
      (bit_of (w n) i ≡ bit_of (ended (exec (flat_scopes ds) z (begun u)) n) i)) d)
      (λ d own. bits_map (λ n i. OnlyIf (assigns (flat_scopes ds) z n i)
      (bit_of (w n) i ≡ bit_of (ended (exec (flat_scopes ds) z (begun v)) n) i))
      (λ n i. OnlyIf (assigns (flat_scopes ds) z n i)
      (bit_of (w n) i ≡ bit_of (ended (exec (flat_scopes ds) z (begun u)) n) i)) d own
      (λ n i of less. only_map (assigns (flat_scopes ds) z n i)
      (bit_of (w n) i ≡ bit_of (ended (exec (flat_scopes ds) z (begun v)) n) i)
      (bit_of (w n) i ≡ bit_of (ended (exec (flat_scopes ds) z (begun u)) n) i)
      (λ t same. let changed = block_changed ds z is n i t in
      same ∙ ap (λ x. bit_of x i) (sym (ended_as z is u v h ok_u ok_v changed.decl n changed.of
      (variable_counted changed.decl changed.may_be)))))) c

  drives_as : (u v w : Values) → Agrees ps u v → AreInRange ds u → AreInRange ds v → (x : DriverKind) → IsDriver ds x
      → PartSteps ps v w (driver_part (flat_scopes ds) x) → PartSteps ps u w (driver_part (flat_scopes ds) x)
  drives_as u v w h ok_u ok_v (k.Assign l e) is c = tt
  drives_as u v w h ok_u ok_v (k.Comb z) is c = tt
  drives_as u v w h ok_u ok_v (k.Clocked z) is c = clocks_as u v w h ok_u ok_v z is c

  pub next_as : (u v w : Values) → Agrees ps u v → AreRanged ds v → Next ps v w → Next ps u w
  next_as u v w h ranged =
      let ok_u = range_of u (ranged_as u v h ranged) in
      let ok_v = range_of v ranged in
      parts_map (PartSteps ps v w) (PartSteps ps u w) (λ d own. keeps_as u v w h d own d.class refl)
      (λ i x e is. drives_as u v w h ok_u ok_v x.what is) (λ x. tt)

  block_assumes : (u v : Values) → Agrees ps u v → AreInRange ds u → AreInRange ds v → (z : Stmt) → IsBlock ds z
      → Each (λ x. 0 < x) (exec (flat_scopes ds) z (begun v)).seen
      → Each (λ x. 0 < x) (exec (flat_scopes ds) z (begun u)).seen
  block_assumes u v h ok_u ok_v z is = subst (Each (λ x. 0 < x)) (sym (seen_as z is u v h ok_u ok_v))

  driver_assumes : (u v : Values) → Agrees ps u v → AreInRange ds u → AreInRange ds v → (x : DriverKind) → IsDriver ds x
      → PartAssumes v (driver_part (flat_scopes ds) x) → PartAssumes u (driver_part (flat_scopes ds) x)
  driver_assumes u v h ok_u ok_v (k.Assign l e) is c = tt
  driver_assumes u v h ok_u ok_v (k.Comb z) is c = block_assumes u v h ok_u ok_v z is c
  driver_assumes u v h ok_u ok_v (k.Clocked z) is c = block_assumes u v h ok_u ok_v z is c

  pub assumes_as : (u v : Values) → Agrees ps u v → AreRanged ds v → Each (PartAssumes v) ps → Each (PartAssumes u) ps
  assumes_as u v h ranged =
      let ok_u = range_of u (ranged_as u v h ranged) in
      let ok_v = range_of v ranged in
      parts_map (PartAssumes v) (PartAssumes u) (λ d own m. tt)
      (λ i x e is. driver_assumes u v h ok_u ok_v x.what is) (λ x. tt)
