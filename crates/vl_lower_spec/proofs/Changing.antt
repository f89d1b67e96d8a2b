-- Inputs change as the names that they are of.
use Rattle.std.specs.Prelude.{◌≡◌, refl, ℕ, ◌<◌, ◌≤◌, List, true, false, All, Bool, Option, Some}
use Rattle.std.specs.Prelude.{None, is_none, slice_get, slice_index, ℤ}
use Rattle.std.proofs.Common.{ap, sym, ◌∙◌, arith, subst, true≢false}
use Rattle.std.proofs.lemmas.Option.{same_Some}
use Rattle.vl_size.specs.declared.decl.Class.{Class}
use Rattle.vl_size.specs.declared.decl.Class.TheVariants as class
use Rattle.vl_size.specs.declared.decl.Decl.{Decl}
use Rattle.vl_size.specs.Size.{Values}
use Rattle.vl_size.specs.Table.{AreApart, AreDifferent, IsShaped, declared_as}
use Rattle.vl_mean.specs.declared.driver.Driver.{Driver}
use Rattle.vl_mean.specs.declared.driver.Start.{Start}
use Rattle.vl_mean.specs.FlatLaw.{IsKept, IsLawful, IsMemory, is_variable}
use Rattle.vl_mean.specs.FlatParts.{parts_of}
use Rattle.vl_mean.specs.Parts.{Part}
use Rattle.vl_mean.specs.Runs.{EachDeclared, HasReset, KeepsOnce, OnceIs, ResetIs, is_chosen}
use Rattle.vl_mean.specs.Scopes.{is_clock_class}
use Rattle.vl_flow_spec.specs.Reads.{AreInRange}
use Rattle.vl_flow_spec.proofs.Cells.{declared_all}
use Rattle.vl_flow_spec.specs.Refusals.{HasNoRefusal}
use Rattle.vl_flow_spec.specs.Sequence.{IsSequence}
use Rattle.vl_mean_flat.proofs.EachOf.{each_map}
use Rattle.vl_flow_spec.proofs.Choices.{declared_of, of_declared}
use Rattle.vl_flow_spec.proofs.Elements.{each_declared_as}
use Rattle.vl_flow_spec.proofs.Held as held
use Rattle.vl_lower_spec.specs.Evaluations as net_kinds
use Rattle.vl_lower_spec.specs.Evaluations.{HaveReset, KeepOnce}
use Rattle.vl_lower_spec.specs.Maps.{gathered, given_of, spot_number}
use Rattle.wn_net.specs.declared.names.Names.{Names}
use Rattle.wn_net.specs.declared.names.Spot.{Spot}
use Rattle.wn_net.specs.declared.parts.Input.{Input}
use Rattle.wn_net.specs.declared.parts.InputKind.{InputKind}
use Rattle.wn_net.specs.declared.parts.InputKind.TheVariants as kind
use Rattle.wn_net.specs.Net.{Netlist}
use Rattle.vl_lower_spec.proofs.Agreeing as agreeing
use Rattle.vl_lower_spec.specs.Sources.{AreSources, IsAtSpot, IsInputOf, IsSource, kind_of}
use Rattle.vl_lower_spec.proofs.Bits.{gathered_whole}
use Rattle.vl_lower_spec.proofs.Free.{vector_cell}
use Rattle.vl_lower_spec.proofs.Pairs.{first_of, index_map, second_of}

abbrev is_reset : Option InputKind → Bool
is_reset (Some kind.Reset) = true
is_reset (Some kind.EachCycle) = false
is_reset (Some kind.Once) = false
is_reset None = false

abbrev is_once : Option InputKind → Bool
is_once (Some kind.Once) = true
is_once (Some kind.EachCycle) = false
is_once (Some kind.Reset) = false
is_once None = false

reset_class : (c : Class) → kind_of c ≡ Some kind.Reset → c ≡ class.Reset
reset_class class.Reset e = refl
reset_class class.Input e = absurd (true≢false (sym (ap is_reset e)))
reset_class class.EachCycle e = absurd (true≢false (sym (ap is_reset e)))
reset_class class.Once e = absurd (true≢false (sym (ap is_reset e)))
reset_class class.Clock e = absurd (true≢false (sym (ap is_reset e)))
reset_class class.Net e = absurd (true≢false (sym (ap is_reset e)))
reset_class class.Variable e = absurd (true≢false (sym (ap is_reset e)))

once_class : (c : Class) → kind_of c ≡ Some kind.Once → c ≡ class.Once
once_class class.Once e = refl
once_class class.Input e = absurd (true≢false (sym (ap is_once e)))
once_class class.EachCycle e = absurd (true≢false (sym (ap is_once e)))
once_class class.Reset e = absurd (true≢false (sym (ap is_once e)))
once_class class.Clock e = absurd (true≢false (sym (ap is_once e)))
once_class class.Net e = absurd (true≢false (sym (ap is_once e)))
once_class class.Variable e = absurd (true≢false (sym (ap is_once e)))

module _ (ds : List Decl) (drivers : List Driver) (firsts : List Start) (shaped : All IsShaped ds)
    (different : AreDifferent ds) (apart : AreApart ds) (lawful : IsLawful ds drivers firsts)
    (none : HasNoRefusal ds drivers) (s : List ℕ) (order : IsSequence ds drivers s) (net : Netlist) (names : Names)
    (own : AreSources ds (parts_of ds drivers firsts) net names) where
  abbrev ps : List Part
  ps = parts_of ds drivers firsts

  abbrev numbers : Values → List ℕ
  numbers v = (given_of names v).inputs

  -- ---- the name of an input

  record HasName (i : ℕ) (x : Input) : Type 0 where
    decl : Decl
    declared : declared_as ds decl.name ≡ Some decl
    kind : kind_of decl.class ≡ Some x.kind
    number : (v : Values) → AreInRange ds v → slice_index (numbers v) i ≡ v decl.name

  number_is : (i : ℕ) (x : Input) (p : Spot) → slice_get names.inputs i ≡ Some p → (is : IsInputOf ds names x p)
      → is_clock_class is.decl.class ≡ false → (v : Values) → AreInRange ds v
      → slice_index (numbers v) i ≡ v is.decl.name
  number_is i x p e is counted v ok =
      index_map (spot_number names v) names.inputs i p e
      ∙ (λ j. spot_of v (is.named j) (is.bits j))
      ∙ gathered_whole (v is.decl.name) is.decl.width
      (ok is.decl is.decl.name (vector_cell ds is.decl is.declared is.vector) counted)
    where
      spot_of : Values → List ℕ → List ℕ → ℕ
      spot_of v text bs = gathered (v text) bs

  kind_counted : (c : Class) (k : InputKind) → kind_of c ≡ Some k → is_clock_class c ≡ false
  kind_counted class.Clock k e = absurd (true≢false (ap is_none e))
  kind_counted class.Reset k e = refl
  kind_counted class.Input k e = refl
  kind_counted class.EachCycle k e = refl
  kind_counted class.Once k e = refl
  kind_counted class.Net k e = refl
  kind_counted class.Variable k e = refl

  name_of : (i : ℕ) (x : Input) → slice_get net.inputs i ≡ Some x → HasName i x
  name_of i x e =
      let r = second_of (IsInputOf ds names) net.inputs names.inputs own.inputs i x e in record {
        decl = r.2.decl;
        declared = r.2.declared;
        kind = r.2.kind;
        number = number_is i x r.0 r.1 r.2 (kind_counted r.2.decl.class x.kind r.2.kind);
      }

  -- ---- the input of a name

  record HasInput (d : Decl) (k : InputKind) : Type 0 where
    place : ℕ
    input : Input
    there : slice_get net.inputs place ≡ Some input
    kind : input.kind ≡ k
    number : (v : Values) → AreInRange ds v → slice_index (numbers v) place ≡ v d.name

  no_memory : (d : Decl) → declared_as ds d.name ≡ Some d → is_variable d ≡ false → d.words ≡ None
  no_memory d e other = by d.words refl (declared_all IsKept ds d.name d e lawful.kept).memory
    where
      by : (o : Option (ℤ × ℤ)) → d.words ≡ o → IsMemory o d → o ≡ None
      by None e h = refl
      by (Some b) e h = absurd (true≢false (sym h.2 ∙ other))

  input_at : (d : Decl) → declared_as ds d.name ≡ Some d → (c : Class) → d.class ≡ c → (k : InputKind)
      → kind_of c ≡ Some k → is_variable d ≡ false → IsAtSpot names names.inputs d.name 0 → HasInput d k
  input_at d e c is k kind_is other at =
      let r = first_of (IsInputOf ds names) net.inputs names.inputs own.inputs at.place at.spot at.there in
      let same : r.2.decl ≡ d =
      same_Some r.2.decl d (sym r.2.declared ∙ ap (declared_as ds) (sym r.2.named ∙ at.named) ∙ e) in record {
        place = at.place;
        input = r.0;
        there = r.1;
        kind = same_Some r.0.kind k (sym r.2.kind ∙ ap (λ (x : Decl). kind_of x.class) same ∙ ap kind_of is ∙ kind_is);
        number = λ v ok.
            number_is at.place r.0 at.spot at.there r.2 (kind_counted r.2.decl.class r.0.kind r.2.kind) v ok
            ∙ ap (λ (x : Decl). v x.name) same;
      }

  some_bits : (d : Decl) → declared_as ds d.name ≡ Some d → 0 < d.width
  some_bits d e =
      let w : 1 ≤ d.width = held.wide ds drivers firsts shaped different apart lawful none s order d e in
      omega (arith, w)

  reset_of : (d : Decl) → declared_as ds d.name ≡ Some d → d.class ≡ class.Reset → HasInput d kind.Reset
  reset_of d e is =
      let other : is_variable d ≡ false = ap (λ c. is_variable (record d { class = c })) is in
      input_at d e class.Reset is kind.Reset refl other
      (subst (λ c. IsSource names c d.name 0) is
      (own.each d d.name 0 (vector_cell ds d e (no_memory d e other)) (some_bits d e)
      (ap (λ c. is_chosen ps c d.name 0) is)))

  once_of : (d : Decl) → declared_as ds d.name ≡ Some d → d.class ≡ class.Once → HasInput d kind.Once
  once_of d e is =
      let other : is_variable d ≡ false = ap (λ c. is_variable (record d { class = c })) is in
      input_at d e class.Once is kind.Once refl other
      (subst (λ c. IsSource names c d.name 0) is
      (own.each d d.name 0 (vector_cell ds d e (no_memory d e other)) (some_bits d e)
      (ap (λ c. is_chosen ps c d.name 0) is)))

  -- ---- the reset

  declared_at : (P : Decl → Type 0) → EachDeclared P ps → (d : Decl) → declared_as ds d.name ≡ Some d → P d
  declared_at P h d e = each_declared_as P ds d.name d e (of_declared P ds drivers firsts h)

  all_declared : (P : Decl → Type 0) → ((d : Decl) → declared_as ds d.name ≡ Some d → P d) → EachDeclared P ps
  all_declared P f =
      declared_of P ds drivers firsts
      (each_map f ds (agreeing.declared ds drivers firsts shaped different apart lawful none s order))

  module _ (v : Values) (ok : AreInRange ds v) (y : ℕ) where
    pub reset_to : HasReset ps y v → HaveReset net y (numbers v)
    reset_to h i x e = let n = name_of i x e in by x.kind refl n
      where
        by : (k : InputKind) → x.kind ≡ k → HasName i x → net_kinds.ResetIs k (slice_index (numbers v) i) y
        by kind.EachCycle f n = tt
        by kind.Once f n = tt
        by kind.Reset f n =
            n.number v ok
            ∙ subst (λ c. ResetIs c (v n.decl.name) y) (reset_class n.decl.class (n.kind ∙ ap Some f))
            (declared_at (λ d. ResetIs d.class (v d.name) y) h n.decl n.declared)

    pub reset_from : HaveReset net y (numbers v) → HasReset ps y v
    reset_from h = all_declared (λ d. ResetIs d.class (v d.name) y) (λ d e. by d e d.class refl)
      where
        by : (d : Decl) → declared_as ds d.name ≡ Some d → (c : Class) → d.class ≡ c → ResetIs c (v d.name) y
        by d e class.Reset is =
            let r = reset_of d e is in
            sym (r.number v ok)
            ∙ subst (λ k. net_kinds.ResetIs k (slice_index (numbers v) r.place) y) r.kind (h r.place r.input r.there)
        by d e class.Clock is = tt
        by d e class.Input is = tt
        by d e class.EachCycle is = tt
        by d e class.Once is = tt
        by d e class.Net is = tt
        by d e class.Variable is = tt

  -- ---- what is chosen once

  module _ (v u : Values) (ok_v : AreInRange ds v) (ok_u : AreInRange ds u) where
    pub once_to : KeepsOnce ps v u → KeepOnce net (numbers v) (numbers u)
    once_to h i x e = let n = name_of i x e in by x.kind refl n
      where
        by : (k : InputKind) → x.kind ≡ k → HasName i x
            → net_kinds.OnceIs k (slice_index (numbers u) i) (slice_index (numbers v) i)
        by kind.EachCycle f n = tt
        by kind.Reset f n = tt
        by kind.Once f n =
            n.number u ok_u
            ∙ subst (λ c. OnceIs c (u n.decl.name) (v n.decl.name)) (once_class n.decl.class (n.kind ∙ ap Some f))
            (declared_at (λ d. OnceIs d.class (u d.name) (v d.name)) h n.decl n.declared)
            ∙ sym (n.number v ok_v)

    pub once_from : KeepOnce net (numbers v) (numbers u) → KeepsOnce ps v u
    once_from h = all_declared (λ d. OnceIs d.class (u d.name) (v d.name)) (λ d e. by d e d.class refl)
      where
        by : (d : Decl) → declared_as ds d.name ≡ Some d → (c : Class) → d.class ≡ c → OnceIs c (u d.name) (v d.name)
        by d e class.Once is =
            let r = once_of d e is in
            sym (r.number u ok_u)
            ∙ subst (λ k. net_kinds.OnceIs k (slice_index (numbers u) r.place) (slice_index (numbers v) r.place)) r.kind
            (h r.place r.input r.there)
            ∙ r.number v ok_v
        by d e class.Clock is = tt
        by d e class.Input is = tt
        by d e class.EachCycle is = tt
        by d e class.Reset is = tt
        by d e class.Net is = tt
        by d e class.Variable is = tt
