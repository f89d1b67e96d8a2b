-- Runs of a lowered design that make the same choices agree in each cycle.
use Rattle.std.specs.Prelude.{◌≡◌, refl, ℕ, zero, suc, ◌<◌, ◌≤◌, ◌^◌, ◌==◌, Bool, true, false, not, ◌&&◌, List, []}
use Rattle.std.specs.Prelude.{◌∷◌, length, map, Option, Some, None, is_none, slice_get}
use Rattle.std.proofs.Common.{ap, sym, ◌∙◌, arith, subst, true≢false}
use Rattle.std.proofs.lemmas.Nat.Bits.{same_from_bits_below}
use Rattle.vl_size.specs.declared.decl.Class.{Class}
use Rattle.vl_size.specs.declared.decl.Class.TheVariants as class
use Rattle.vl_size.specs.declared.decl.Decl.{Decl}
use Rattle.vl_size.specs.Size.{Values}
use Rattle.vl_size.specs.Table.{declared_as}
use Rattle.vl_mean.specs.Cells.{cells}
use Rattle.vl_mean.specs.Parts.{Part, clocked, combinational, declares, equation, starts}
use Rattle.vl_mean.specs.Runs.{Agrees, AgreesAt, Begins, Each, EachBit, First, FollowedBy, HasReset, Holds, InRange, Init}
use Rattle.vl_mean.specs.Runs.{IsRun, KeepsOnce, Neighbours, Next, OnceIs, OnlyIf, ResetIs, Rest, initial_writes}
use Rattle.vl_mean.specs.Runs.{is_driven, last_value}
use Rattle.vl_mean.specs.Targets.{bit_of}
use Rattle.vl_mean_flat.specs.Flattened.{decls_of}
use Rattle.vl_flow_spec.specs.Reads.{IsCellOf}
use Rattle.vl_flow_spec.proofs.Cells.{each_contained, each_of_contained}
use Rattle.wn_net.specs.declared.names.Names.{Names}
use Rattle.wn_net.specs.declared.names.Spot.{Spot}
use Rattle.wn_net.specs.declared.parts.Input.{Input}
use Rattle.wn_net.specs.declared.parts.InputKind.{InputKind}
use Rattle.wn_net.specs.declared.parts.InputKind.TheVariants as kind
use Rattle.wn_net.specs.declared.parts.Mem.{Mem}
use Rattle.wn_net.specs.declared.parts.Reg.{Reg}
use Rattle.wn_net.specs.Given.{given}
use Rattle.wn_net.specs.Net.{Netlist}
use Rattle.wn_net.specs.Next.{next_state}
use Rattle.wn_net.specs.Value.{Given}
use Rattle.wn_run.specs.Runs.{reset_at}
use Rattle.vl_lower_spec.specs.Evaluations.{IsLowered}
use Rattle.vl_lower_spec.specs.Maps.{cells_named, gathered, given_of, inputs_of, map_of, spot_number, state_of, text_of}
use Rattle.vl_lower_spec.specs.Spots.{IsInputOf, IsMemOf, IsRegOf, below, kind_of}
use Rattle.vl_lower_spec.proofs.Bits.{below_at, gathered_same}
use Rattle.vl_lower_spec.proofs.Free.{vector_cell}
use Rattle.vl_lower_spec.proofs.Inputs.{reset_later}
use Rattle.vl_lower_spec.proofs.Pairs.{same_map}
use Rattle.ck_design.specs.Choosing.{ChooseAlike, is_free}
use Rattle.ck_design.specs.Retirements.{values_at}
use Rattle.ck_design.proofs.Declares.{at_declared, begins_at, bit_at_cell, range_at}

-- ---- lists of maps, cycle by cycle

pub each_cycle : (P : Values → Type 0) (run : List Values) (k : ℕ) → k < length run → Each P run → P (values_at run k)
each_cycle P [] k less h = absurd (omega (arith, less))
each_cycle P (v ∷ vs) zero less h = h.0
each_cycle P (v ∷ vs) (suc k) less h = each_cycle P vs k (omega (arith, less)) h.1

first_cycle : (P : Values → Type 0) (run : List Values) → 0 < length run → First P run → P (values_at run 0)
first_cycle P [] less h = absurd (omega (arith, less))
first_cycle P (v ∷ vs) less h = h

later_cycle : (P : Values → Type 0) (run : List Values) (k : ℕ) → suc k < length run → Rest P run
    → P (values_at run (suc k))
later_cycle P [] k less h = absurd (omega (arith, less))
later_cycle P (v ∷ vs) k less h = each_cycle P vs k (omega (arith, less)) h

followed_cycle : (R : Values → Values → Type 0) (v : Values) (vs : List Values) (k : ℕ) → k < length vs
    → FollowedBy R v vs → R (values_at (v ∷ vs) k) (values_at vs k)
followed_cycle R v [] k less h = absurd (omega (arith, less))
followed_cycle R v (w ∷ ws) zero less h = h.0
followed_cycle R v (w ∷ ws) (suc k) less h = followed_cycle R w ws k (omega (arith, less)) h.1

next_cycle : (R : Values → Values → Type 0) (run : List Values) (k : ℕ) → suc k < length run → Neighbours R run
    → R (values_at run k) (values_at run (suc k))
next_cycle R [] k less h = absurd (omega (arith, less))
next_cycle R (v ∷ vs) k less h = followed_cycle R v vs k (omega (arith, less)) h

-- what holds of the maps of a run
pub record AreRun (ps : List Part) (d : ℕ) (u : ℕ → Values) : Type 0 where
  pub holds : (k : ℕ) → k ≤ d → Holds ps (u k)
  pub begins : Init ps (u 0)
  pub resets : (k : ℕ) → k ≤ d → HasReset ps (reset_at k) (u k)
  pub steps : (k : ℕ) → suc k ≤ d → Next ps (u k) (u (suc k))
  pub once : (k : ℕ) → suc k ≤ d → KeepsOnce ps (u k) (u (suc k))

pub run_maps : (ps : List Part) (d : ℕ) (run : List Values) → IsRun ps d run → AreRun ps d (values_at run)
run_maps ps d run r = record {
  holds = λ k le. each_cycle (Holds ps) run k (omega (arith, r.cycles, le)) r.holds;
  begins = first_cycle (Init ps) run (omega (arith, r.cycles)) r.begins;
  resets = reset;
  steps = λ k le. next_cycle (Next ps) run k (omega (arith, r.cycles, le)) r.steps;
  once = λ k le. next_cycle (KeepsOnce ps) run k (omega (arith, r.cycles, le)) r.once;
}
  where
    reset : (k : ℕ) → k ≤ d → HasReset ps (reset_at k) (values_at run k)
    reset zero le = first_cycle (HasReset ps 1) run (omega (arith, r.cycles)) r.reset
    reset (suc k) le =
        let P : ℕ → Type 0 = λ y. HasReset ps y (values_at run (suc k)) in
        subst P (sym (reset_later k)) (later_cycle (HasReset ps 0) run k (omega (arith, r.cycles, le)) r.no_reset)

-- ---- classes

abbrev is_way : InputKind → Option InputKind → Bool
is_way kind.EachCycle (Some kind.EachCycle) = true
is_way kind.Reset (Some kind.Reset) = true
is_way kind.Once (Some kind.Once) = true
is_way way other = false

free_each : (ps : List Part) (c : Class) (text : List ℕ) (i k : ℕ) → kind_of c ≡ Some kind.EachCycle
    → is_free ps c text i k ≡ true
free_each ps class.Input text i k e = refl
free_each ps class.EachCycle text i k e = refl
free_each ps class.Reset text i k e = absurd (true≢false (sym (ap (is_way kind.EachCycle) e)))
free_each ps class.Once text i k e = absurd (true≢false (sym (ap (is_way kind.EachCycle) e)))
free_each ps class.Clock text i k e = absurd (true≢false (sym (ap (is_way kind.EachCycle) e)))
free_each ps class.Net text i k e = absurd (true≢false (sym (ap (is_way kind.EachCycle) e)))
free_each ps class.Variable text i k e = absurd (true≢false (sym (ap (is_way kind.EachCycle) e)))

is_reset : (c : Class) → kind_of c ≡ Some kind.Reset → c ≡ class.Reset
is_reset class.Reset e = refl
is_reset class.Input e = absurd (true≢false (sym (ap (is_way kind.Reset) e)))
is_reset class.EachCycle e = absurd (true≢false (sym (ap (is_way kind.Reset) e)))
is_reset class.Once e = absurd (true≢false (sym (ap (is_way kind.Reset) e)))
is_reset class.Clock e = absurd (true≢false (sym (ap (is_way kind.Reset) e)))
is_reset class.Net e = absurd (true≢false (sym (ap (is_way kind.Reset) e)))
is_reset class.Variable e = absurd (true≢false (sym (ap (is_way kind.Reset) e)))

pub is_once : (c : Class) → kind_of c ≡ Some kind.Once → c ≡ class.Once
is_once class.Once e = refl
is_once class.Input e = absurd (true≢false (sym (ap (is_way kind.Once) e)))
is_once class.EachCycle e = absurd (true≢false (sym (ap (is_way kind.Once) e)))
is_once class.Reset e = absurd (true≢false (sym (ap (is_way kind.Once) e)))
is_once class.Clock e = absurd (true≢false (sym (ap (is_way kind.Once) e)))
is_once class.Net e = absurd (true≢false (sym (ap (is_way kind.Once) e)))
is_once class.Variable e = absurd (true≢false (sym (ap (is_way kind.Once) e)))

-- ---- maps that agree with one map agree

cells_join : (m u w : Values) (ts : List (List ℕ)) → Each (λ t. m t ≡ u t) ts → Each (λ t. m t ≡ w t) ts
    → Each (λ t. u t ≡ w t) ts
cells_join m u w [] h k = tt
cells_join m u w (t ∷ ts) h k = (sym h.0 ∙ k.0, cells_join m u w ts h.1 k.1)

join_at : (m u w : Values) (d : Decl) (c : Class) → AgreesAt m u d c → AgreesAt m w d c → AgreesAt u w d c
join_at m u w d class.Clock h k = tt
join_at m u w d class.Input h k = cells_join m u w (cells d) h k
join_at m u w d class.Reset h k = cells_join m u w (cells d) h k
join_at m u w d class.EachCycle h k = cells_join m u w (cells d) h k
join_at m u w d class.Once h k = cells_join m u w (cells d) h k
join_at m u w d class.Net h k = cells_join m u w (cells d) h k
join_at m u w d class.Variable h k = cells_join m u w (cells d) h k

agrees_join : (m u w : Values) (ps : List Part) → Agrees ps m u → Agrees ps m w → Agrees ps u w
agrees_join m u w [] h k = tt
agrees_join m u w (declares d ∷ ps) h k = (join_at m u w d d.class h.0 k.0, agrees_join m u w ps h.1 k.1)
agrees_join m u w (equation ts l ss e ∷ ps) h k = agrees_join m u w ps h k
agrees_join m u w (combinational ss b ∷ ps) h k = agrees_join m u w ps h k
agrees_join m u w (clocked ss b ∷ ps) h k = agrees_join m u w ps h k
agrees_join m u w (starts ss l e ∷ ps) h k = agrees_join m u w ps h k

each_same : (f g : Values) (ts : List (List ℕ)) → Each (λ t. f t ≡ g t) ts → map f ts ≡ map g ts
each_same f g [] h = refl
each_same f g (t ∷ ts) h = λ i. h.0 i ∷ each_same f g ts h.1 i

-- ---- two runs with the same choices

-- bits that are chosen in a cycle are the same
abbrev pub AreAlike : List Part → ℕ → Values → Values → Type 0
AreAlike ps k u w =
    (e : Decl) (text : List ℕ) (i : ℕ) → IsCellOf (decls_of ps) e text → i < e.width
    → is_free ps e.class text i k ≡ true → bit_of (u text) i ≡ bit_of (w text) i

pub alike_from : (ps : List Part) (k : ℕ) (u w : Values) → ChooseAlike ps k u w → AreAlike ps k u w
alike_from ps k u w h e text i of less free =
    let P : List ℕ → ℕ → Type 0 = λ t j. OnlyIf (is_free ps e.class t j k) (bit_of (u t) j ≡ bit_of (w t) j) in
    let own : EachBit P e = at_declared
    (λ d. EachBit (λ t j. OnlyIf (is_free ps d.class t j k) (bit_of (u t) j ≡ bit_of (w t) j)) d) ps e.name e h
    of.declared in
    subst (λ b. OnlyIf b (bit_of (u text) i ≡ bit_of (w text) i)) free (bit_at_cell P e text i of.cell less own)

module _ (ps : List Part) (net : Netlist) (names : Names) (h : IsLowered ps net names) (d : ℕ) (u w : ℕ → Values)
    (of_u : AreRun ps d u) (of_w : AreRun ps d w) (alike : (k : ℕ) → k ≤ d → AreAlike ps k (u k) (w k)) where
  abbrev ds : List Decl
  ds = decls_of ps

  -- names that are free once have the same bits
  abbrev SameOnce : ℕ → Type 0
  SameOnce k =
      (e : Decl) → declared_as ds e.name ≡ Some e → e.words ≡ None → e.class ≡ class.Once → (bs : List ℕ)
      → bs ≡ below e.width → gathered (u k e.name) bs ≡ gathered (w k e.name) bs

  once_first : SameOnce 0
  once_first e own vector is bs are =
      gathered_same (u 0 e.name) (w 0 e.name) bs (λ j b f.
      let at = below_at e.width j b (sym (ap (λ xs. slice_get xs j) are) ∙ f) in
      alike 0 (omega arith) e e.name b (vector_cell ds e own vector) at.1
      (subst (λ c. is_free ps c e.name b 0 ≡ true) (sym is) refl))

  once_kept : (v : ℕ → Values) (k : ℕ) → KeepsOnce ps (v k) (v (suc k)) → (e : Decl)
      → declared_as ds e.name ≡ Some e → e.class ≡ class.Once → v (suc k) e.name ≡ v k e.name
  once_kept v k kept e own is =
      subst (λ c. OnceIs c (v (suc k) e.name) (v k e.name)) is
      (at_declared (λ x. OnceIs x.class (v (suc k) x.name) (v k x.name)) ps e.name e kept own)

  once_next : (k : ℕ) → suc k ≤ d → SameOnce k → SameOnce (suc k)
  once_next k le same e own vector is bs are =
      (λ i. gathered (once_kept u k (of_u.once k le) e own is i) bs)
      ∙ same e own vector is bs are
      ∙ sym (λ i. gathered (once_kept w k (of_w.once k le) e own is i) bs)

  -- ---- inputs

  reset_of : (v : ℕ → Values) (k : ℕ) → HasReset ps (reset_at k) (v k) → (e : Decl)
      → declared_as ds e.name ≡ Some e → e.class ≡ class.Reset → v k e.name ≡ reset_at k
  reset_of v k has e own is =
      subst (λ c. ResetIs c (v k e.name) (reset_at k)) is
      (at_declared (λ x. ResetIs x.class (v k x.name) (reset_at k)) ps e.name e has own)

  of_input : (k : ℕ) → k ≤ d → SameOnce k → (x : Input) (s : Spot) → IsInputOf ds names x s
      → spot_number names (u k) s ≡ spot_number names (w k) s
  of_input k le same x s is = by x.kind refl
    where
      named : List ℕ
      named = text_of (slice_get names.list s.name)

      by : (way : InputKind) → x.kind ≡ way → gathered (u k named) s.bits ≡ gathered (w k named) s.bits
      by kind.EachCycle e =
          gathered_same (u k named) (w k named) s.bits (λ j b f.
          let at = below_at is.decl.width j b (sym (ap (λ xs. slice_get xs j) is.bits) ∙ f) in
          ap (λ n. bit_of (u k n) b) is.named
          ∙ alike k le is.decl is.decl.name b (vector_cell ds is.decl is.declared is.vector) at.1
          (free_each ps is.decl.class is.decl.name b k (is.kind ∙ ap Some e))
          ∙ sym (ap (λ n. bit_of (w k n) b) is.named))
      by kind.Reset e =
          let c = is_reset is.decl.class (is.kind ∙ ap Some e) in
          let number : u k named ≡ w k named =
          ap (u k) is.named ∙ reset_of u k (of_u.resets k le) is.decl is.declared c
          ∙ sym (reset_of w k (of_w.resets k le) is.decl is.declared c) ∙ sym (ap (w k) is.named) in
          ap (λ n. gathered n s.bits) number
      by kind.Once e =
          (λ i. gathered (u k (is.named i)) s.bits)
          ∙ same is.decl is.declared is.vector (is_once is.decl.class (is.kind ∙ ap Some e)) s.bits is.bits
          ∙ sym (λ i. gathered (w k (is.named i)) s.bits)

  inputs_same : (k : ℕ) → k ≤ d → SameOnce k → inputs_of names (u k) ≡ inputs_of names (w k)
  inputs_same k le same =
      same_map (IsInputOf ds names) (spot_number names (u k)) (spot_number names (w k)) (of_input k le same) net.inputs
      names.inputs h.sources.inputs

  -- ---- the first state

  begun_bit : (v : ℕ → Values) → Init ps (v 0) → (e : Decl) (text : List ℕ) (i y : ℕ) → IsCellOf ds e text
      → i < e.width → is_driven ps text i ≡ false → last_value (initial_writes ps) text i ≡ Some y
      → bit_of (v 0 text) i ≡ y
  begun_bit v begins e text i y of less undriven last =
      let own = begins_at ps (v 0) e text i begins of.declared of.cell less in
      let free : not (is_driven ps text i) ≡ true = ap not undriven in
      let P : Bool → Type 0 = λ b. OnlyIf b (Begins (last_value (initial_writes ps) text i) (bit_of (v 0 text) i)) in
      subst (λ o. Begins o (bit_of (v 0 text) i)) last (subst P free own)

  started_bit : (e : Decl) (text : List ℕ) (i : ℕ) → IsCellOf ds e text → i < e.width → e.class ≡ class.Variable
      → is_driven ps text i ≡ false → (o : Option ℕ) → last_value (initial_writes ps) text i ≡ o
      → bit_of (u 0 text) i ≡ bit_of (w 0 text) i
  started_bit e text i of less variable undriven (Some y) last =
      begun_bit u of_u.begins e text i y of less undriven last
      ∙ sym (begun_bit w of_w.begins e text i y of less undriven last)
  started_bit e text i of less variable undriven None last =
      let free : is_free ps class.Variable text i 0 ≡ true =
      λ j. (0 == 0 && not (undriven j)) && is_none (last j) in
      alike 0 (omega arith) e text i of less (subst (λ c. is_free ps c text i 0 ≡ true) (sym variable) free)

  of_reg : (r : Reg) (s : Spot) → IsRegOf ds ps names r s → spot_number names (u 0) s ≡ spot_number names (w 0) s
  of_reg r s is =
      let named = text_of (slice_get names.list s.name) in
      gathered_same (u 0 named) (w 0 named) s.bits (λ j b f.
      ap (λ n. bit_of (u 0 n) b) is.named
      ∙ started_bit is.decl is.text b is.of (is.within j b f) is.variable (is.kept j b f)
      (last_value (initial_writes ps) is.text b) refl
      ∙ sym (ap (λ n. bit_of (w 0 n) b) is.named))

  small_at : (v : ℕ → Values) → Holds ps (v 0) → (e : Decl) (text : List ℕ) → IsCellOf ds e text
      → e.class ≡ class.Variable → v 0 text < 2 ^ e.width
  small_at v holds e text of variable =
      each_contained (λ t. v 0 t < 2 ^ e.width) (cells e) text
      (subst (λ c. InRange (v 0) e c) variable (range_at ps (v 0) e holds of.declared)) of.cell

  of_mem : (m : Mem) (at : ℕ) → IsMemOf ds ps names m at
      → map (u 0) (cells_named (slice_get names.list at)) ≡ map (w 0) (cells_named (slice_get names.list at))
  of_mem m at is =
      ap (map (u 0)) is.named
      ∙ each_same (u 0) (w 0) (cells is.decl)
      (each_of_contained (λ n. u 0 n ≡ w 0 n) (cells is.decl) (λ n c.
      let of : IsCellOf ds is.decl n = record { declared = is.declared; cell = c } in
      same_from_bits_below is.decl.width (u 0 n) (w 0 n) (small_at u (of_u.holds 0 (omega arith)) is.decl n of is.variable)
      (small_at w (of_w.holds 0 (omega arith)) is.decl n of is.variable) (λ i less.
      started_bit is.decl n i of less is.variable (is.kept n i of less) (last_value (initial_writes ps) n i) refl)))
      ∙ sym (ap (map (w 0)) is.named)

  first_state : state_of names (u 0) ≡ state_of names (w 0)
  first_state = λ i. record {
    regs = same_map (IsRegOf ds ps names) (spot_number names (u 0)) (spot_number names (w 0)) of_reg net.regs names.regs
        h.sources.regs i;
    mems = same_map (IsMemOf ds ps names) (λ m. map (u 0) (cells_named (slice_get names.list m)))
        (λ m. map (w 0) (cells_named (slice_get names.list m))) of_mem net.mems names.mems h.sources.mems i;
  }

  -- ---- each cycle

  record Same (k : ℕ) : Type 0 where
    numbers : given_of names (u k) ≡ given_of names (w k)
    once : SameOnce k

  next_of : (v : ℕ → Values) → AreRun ps d v → (k : ℕ) → suc k ≤ d
      → state_of names (v (suc k)) ≡ next_state net (given_of names (v k))
  next_of v r k le =
      (h.steps (v k) (v (suc k)) (r.holds k (omega (arith, le))) (r.holds (suc k) le)).0 (r.steps k le)

  same : (k : ℕ) → k ≤ d → Same k
  same zero le = record {
    numbers = λ i. given (inputs_same 0 le once_first i) (first_state i);
    once = once_first;
  }
  same (suc k) le =
      let before = same k (omega (arith, le)) in
      let own = once_next k le before.once in
      let state : state_of names (u (suc k)) ≡ state_of names (w (suc k)) =
      next_of u of_u k le ∙ ap (next_state net) before.numbers ∙ sym (next_of w of_w k le) in
      record { numbers = λ i. given (inputs_same (suc k) le own i) (state i); once = own }

  pub agree_in_cycle : (k : ℕ) → k ≤ d → Agrees ps (u k) (w k)
  agree_in_cycle k le =
      let numbers = (same k le).numbers in
      let m : Values = map_of net names (given_of names (u k)) in
      agrees_join m (u k) (w k) ps (h.whole (u k) (of_u.holds k le))
      (subst (λ (g : Given). Agrees ps (map_of net names g) (w k)) (sym numbers) (h.whole (w k) (of_w.holds k le)))
