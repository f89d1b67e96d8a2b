-- What inputs, registers and memories have is what is free in a map.
use Rattle.std.specs.Prelude.{◌≡◌, refl, ℕ, ◌<◌, List, [], ◌∷◌, ◌⊎◌, Bool, true, false, not, All, map}
use Rattle.std.specs.Prelude.{None, Option, Some, slice_get}
use Rattle.std.proofs.Common.{ap, sym, ◌∙◌, inl, inr, subst, true≢false}
use Rattle.std.proofs.lemmas.Nat.Bits.{same_from_bits_below}
use Rattle.vl_size.specs.declared.decl.Class.{Class}
use Rattle.vl_size.specs.declared.decl.Class.TheVariants as class
use Rattle.vl_size.specs.declared.decl.Decl.{Decl}
use Rattle.vl_size.specs.Size.{Values}
use Rattle.vl_size.specs.Table.{AreApart, AreDifferent, IsShaped, declared_as}
use Rattle.vl_mean.specs.declared.driver.Driver.{Driver}
use Rattle.vl_mean.specs.declared.driver.Start.{Start}
use Rattle.vl_mean.specs.Cells.{cells, is_cell}
use Rattle.vl_mean.specs.FlatLaw.{IsLawful}
use Rattle.vl_mean.specs.FlatParts.{parts_of}
use Rattle.vl_mean.specs.Parts.{Part}
use Rattle.vl_mean.specs.Runs.{ChoosesAlike, Each, is_chosen, is_driven}
use Rattle.vl_mean.specs.Scopes.{is_clock_class}
use Rattle.vl_mean.specs.Targets.{bit_of}
use Rattle.vl_flow_spec.specs.Reads.{AreInRange, IsCellOf}
use Rattle.vl_flow_spec.proofs.Cells.{each_of_contained, own_cell}
use Rattle.vl_flow_spec.specs.Refusals.{HasNoRefusal}
use Rattle.vl_flow_spec.specs.Sequence.{IsSequence}
use Rattle.vl_flow_spec.proofs.Choices.{chooses_alike, chosen_at}
use Rattle.vl_lower_spec.specs.Maps.{cells_named, given_of, spot_number, state_of, text_of}
use Rattle.wn_net.specs.declared.names.Names.{Names}
use Rattle.wn_net.specs.declared.names.Spot.{Spot}
use Rattle.wn_net.specs.declared.parts.Input.{Input}
use Rattle.wn_net.specs.declared.parts.InputKind.{InputKind}
use Rattle.wn_net.specs.declared.parts.Mem.{Mem}
use Rattle.wn_net.specs.declared.parts.Reg.{Reg}
use Rattle.wn_net.specs.Net.{Netlist}
use Rattle.vl_lower_spec.specs.Built.{AreKeptAlike, is_kept}
use Rattle.vl_lower_spec.proofs.Agreeing as agreeing
use Rattle.vl_lower_spec.proofs.Kept as kept
use Rattle.vl_lower_spec.specs.Sources.{AreSources, IsAtSpot, IsInputOf, IsMemOf, IsRegOf, IsSource, IsWordOf, kind_of}
use Rattle.vl_lower_spec.proofs.Bits.{below_at, gathered_bit, gathered_same}
use Rattle.vl_lower_spec.proofs.Pairs.{map_at, same_map}

-- an input's name is free in all of its bits
pub input_chosen : (ps : List Part) (c : Class) (k : InputKind) → kind_of c ≡ Some k → (n : List ℕ) (i : ℕ)
    → is_chosen ps c n i ≡ true
input_chosen ps class.Input k e n i = refl
input_chosen ps class.Reset k e n i = refl
input_chosen ps class.EachCycle k e n i = refl
input_chosen ps class.Once k e n i = refl
input_chosen ps class.Clock k e n i = absurd (true≢false (ap none_there e))
  where
    none_there : Option InputKind → Bool
    none_there None = true
    none_there (Some x) = false
input_chosen ps class.Net k e n i = absurd (true≢false (ap none_there e))
  where
    none_there : Option InputKind → Bool
    none_there None = true
    none_there (Some x) = false
input_chosen ps class.Variable k e n i = absurd (true≢false (ap none_there e))
  where
    none_there : Option InputKind → Bool
    none_there None = true
    none_there (Some x) = false

pub vector_cell : (ds : List Decl) (d : Decl) → declared_as ds d.name ≡ Some d → d.words ≡ None → IsCellOf ds d d.name
vector_cell ds d own vector = record {
  declared = own;
  cell = subst (λ ws. is_cell d.name ws d.name ≡ true) (sym vector) (own_cell d.name);
}

module _ (ds : List Decl) (drivers : List Driver) (firsts : List Start) (shaped : All IsShaped ds)
    (different : AreDifferent ds) (apart : AreApart ds) (lawful : IsLawful ds drivers firsts)
    (none : HasNoRefusal ds drivers) (s : List ℕ) (order : IsSequence ds drivers s) (net : Netlist) (names : Names)
    (own : AreSources ds (parts_of ds drivers firsts) net names) where
  abbrev pub ps : List Part
  ps = parts_of ds drivers firsts

  pub declared : Each (λ d. declared_as ds d.name ≡ Some d) ds
  declared = agreeing.declared ds drivers firsts shaped different apart lawful none s order

  -- ---- from bits to numbers

  abbrev pub AreInputBits : Values → Values → Type 0
  AreInputBits u v =
      (d : Decl) (n : List ℕ) (i : ℕ) → IsCellOf ds d n → i < d.width → (k : InputKind) → kind_of d.class ≡ Some k
      → bit_of (u n) i ≡ bit_of (v n) i

  abbrev pub AreKeptBits : Values → Values → Type 0
  AreKeptBits u v =
      (d : Decl) (n : List ℕ) (i : ℕ) → IsCellOf ds d n → i < d.width → d.class ≡ class.Variable
      → is_driven ps n i ≡ false → bit_of (u n) i ≡ bit_of (v n) i

  input_same : (u v : Values) → AreInputBits u v → (x : Input) (p : Spot) → IsInputOf ds names x p
      → spot_number names u p ≡ spot_number names v p
  input_same u v h x p is =
      gathered_same (u (text_of (slice_get names.list p.name))) (v (text_of (slice_get names.list p.name))) p.bits
      (λ j k e.
      let at = below_at is.decl.width j k (sym (ap (λ bs. slice_get bs j) is.bits) ∙ e) in
      ap (λ n. bit_of (u n) k) is.named
      ∙ h is.decl is.decl.name k (vector_cell ds is.decl is.declared is.vector) at.1 x.kind is.kind
      ∙ ap (λ n. bit_of (v n) k) (sym is.named))

  reg_same : (u v : Values) → AreKeptBits u v → (r : Reg) (p : Spot) → IsRegOf ds ps names r p
      → spot_number names u p ≡ spot_number names v p
  reg_same u v h r p is =
      gathered_same (u (text_of (slice_get names.list p.name))) (v (text_of (slice_get names.list p.name))) p.bits
      (λ j k e.
      ap (λ n. bit_of (u n) k) is.named
      ∙ h is.decl is.text k is.of (is.within j k e) is.variable (is.kept j k e)
      ∙ ap (λ n. bit_of (v n) k) (sym is.named))

  each_same : (u v : Values) (ns : List (List ℕ)) → Each (λ n. u n ≡ v n) ns → map u ns ≡ map v ns
  each_same u v [] h = refl
  each_same u v (n ∷ ns) h = λ i. h.0 i ∷ each_same u v ns h.1 i

  mem_same : (u v : Values) → AreInRange ds u → AreInRange ds v → AreKeptBits u v → (m : Mem) (at : ℕ)
      → IsMemOf ds ps names m at
      → map u (cells_named (slice_get names.list at)) ≡ map v (cells_named (slice_get names.list at))
  mem_same u v ok_u ok_v h m at is =
      ap (map u) is.named
      ∙ each_same u v (cells is.decl)
      (each_of_contained (λ n. u n ≡ v n) (cells is.decl) (λ n c.
      let of : IsCellOf ds is.decl n = record { declared = is.declared; cell = c } in
      let counted : is_clock_class is.decl.class ≡ false = ap is_clock_class is.variable in
      same_from_bits_below is.decl.width (u n) (v n) (ok_u is.decl n of counted) (ok_v is.decl n of counted) (λ i less.
      h is.decl n i of less is.variable (is.kept n i of less))))
      ∙ ap (map v) (sym is.named)

  pub state_same : (u v : Values) → AreInRange ds u → AreInRange ds v → AreKeptBits u v
      → state_of names u ≡ state_of names v
  state_same u v ok_u ok_v h =
      (λ i. record {
        regs = same_map (IsRegOf ds ps names) (spot_number names u) (spot_number names v) (reg_same u v h) net.regs
            names.regs own.regs i;
        mems =
            same_map (IsMemOf ds ps names) (λ m. map u (cells_named (slice_get names.list m)))
            (λ m. map v (cells_named (slice_get names.list m))) (mem_same u v ok_u ok_v h) net.mems names.mems own.mems
            i;
      })

  pub inputs_same : (u v : Values) → AreInputBits u v
      → map (spot_number names u) names.inputs ≡ map (spot_number names v) names.inputs
  inputs_same u v h =
      same_map (IsInputOf ds names) (spot_number names u) (spot_number names v) (input_same u v h) net.inputs names.inputs
      own.inputs

  pub given_same : (u v : Values) → AreInRange ds u → AreInRange ds v → ChoosesAlike ps u v
      → given_of names u ≡ given_of names v
  given_same u v ok_u ok_v h =
      let ins = inputs_same u v (λ d n i of less k e.
      chosen_at ds drivers firsts declared u v h d n i of less (input_chosen ps d.class k e n i)) in
      let state = state_same u v ok_u ok_v (λ d n i of less var free.
      chosen_at ds drivers firsts declared u v h d n i of less
      (ap (λ c. is_chosen ps c n i) var ∙ ap not free)) in
      λ i. record { inputs = ins i; state = state i }

  -- ---- from numbers to bits

  spot_bit : (u v : Values) (spots : List Spot) → map (spot_number names u) spots ≡ map (spot_number names v) spots
      → (n : List ℕ) (i : ℕ) → IsAtSpot names spots n i → bit_of (u n) i ≡ bit_of (v n) i
  spot_bit u v spots e n i at =
      ap (λ m. bit_of (u m) i) (sym at.named)
      ∙ gathered_bit (u (text_of (slice_get names.list at.spot.name))) (v (text_of (slice_get names.list at.spot.name)))
      at.spot.bits (map_at (spot_number names u) (spot_number names v) spots e at.place at.spot at.there) at.offset i
      at.bit
      ∙ ap (λ m. bit_of (v m) i) at.named

  word_same : (u v : Values)
      → map (λ m. map u (cells_named (slice_get names.list m))) names.mems
      ≡ map (λ m. map v (cells_named (slice_get names.list m))) names.mems
      → (n : List ℕ) → IsWordOf names n → u n ≡ v n
  word_same u v e n w =
      map_at u v (cells_named (slice_get names.list w.at))
      (map_at (λ m. map u (cells_named (slice_get names.list m))) (λ m. map v (cells_named (slice_get names.list m)))
      names.mems e w.place w.at w.there) w.offset n w.word

  pub kept_bit : (u v : Values) → state_of names u ≡ state_of names v → (n : List ℕ) (i : ℕ)
      → IsAtSpot names names.regs n i ⊎ IsWordOf names n → bit_of (u n) i ≡ bit_of (v n) i
  kept_bit u v e n i (inl at) = spot_bit u v names.regs (ap (λ t. t.regs) e) n i at
  kept_bit u v e n i (inr w) = ap (λ x. bit_of x i) (word_same u v (ap (λ t. t.mems) e) n w)

  source_bit : (u v : Values) → given_of names u ≡ given_of names v → (c : Class) (n : List ℕ) (i : ℕ)
      → IsSource names c n i → bit_of (u n) i ≡ bit_of (v n) i
  source_bit u v e class.Variable n i at = kept_bit u v (ap (λ g. g.state) e) n i at
  source_bit u v e class.Input n i at = spot_bit u v names.inputs (ap (λ g. g.inputs) e) n i at
  source_bit u v e class.Reset n i at = spot_bit u v names.inputs (ap (λ g. g.inputs) e) n i at
  source_bit u v e class.EachCycle n i at = spot_bit u v names.inputs (ap (λ g. g.inputs) e) n i at
  source_bit u v e class.Once n i at = spot_bit u v names.inputs (ap (λ g. g.inputs) e) n i at
  source_bit u v e class.Clock n i at = spot_bit u v names.inputs (ap (λ g. g.inputs) e) n i at
  source_bit u v e class.Net n i at = spot_bit u v names.inputs (ap (λ g. g.inputs) e) n i at

  pub chooses_same : (u v : Values) → given_of names u ≡ given_of names v → ChoosesAlike ps u v
  chooses_same u v e =
      chooses_alike ds drivers firsts declared u v (λ d n i of less c.
      source_bit u v e d.class n i (own.each d n i of less c))

  -- where a kept bit stands
  pub kept_source : (d : Decl) (n : List ℕ) (i : ℕ) → IsCellOf ds d n → i < d.width → d.class ≡ class.Variable
      → is_driven ps n i ≡ false → IsAtSpot names names.regs n i ⊎ IsWordOf names n
  kept_source d n i of less var free =
      subst (λ c. IsSource names c n i) var
      (own.each d n i of less (ap (λ c. is_chosen ps c n i) var ∙ ap not free))

  -- ---- kept bits

  pub kept_alike : (u v : Values) → AreKeptBits u v → AreKeptAlike ps u v
  kept_alike u v h =
      agreeing.bits_all ds drivers firsts shaped different apart lawful none s order
      (λ n i. bit_of (u n) i ≡ bit_of (v n) i) (λ d n i. is_kept ps d.class n i)
      (λ d n i of less t. let is = kept.kept_is ps d.class n i t in h d n i of less is.0 is.1)

  pub kept_bits : (u v : Values) → AreKeptAlike ps u v → AreKeptBits u v
  kept_bits u v h = kept.kept_at ds drivers firsts shaped different apart lawful none s order u u v h

  pub state_alike : (u v : Values) → state_of names u ≡ state_of names v → AreKeptAlike ps u v
  state_alike u v e =
      kept_alike u v (λ d n i of less var free. kept_bit u v e n i (kept_source d n i of less var free))
