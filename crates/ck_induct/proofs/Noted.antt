-- The notes of choices: values that choices are read from agree at them with the maps of these choices.
use Rattle.std.specs.Prelude.{◌≡◌, refl, ℕ, ◌+◌, ◌-◌, ◌<◌, ◌==◌, Bool, if◌then◌else◌, List, [], ◌∷◌, length, map}
use Rattle.std.specs.Prelude.{Option, Some, slice_get, slice_index}
use Rattle.std.specs.Int.{bit_at}
use Rattle.std.specs.List.{AllByRecursion}
use Rattle.std.proofs.Common.{ap, sym, ◌∙◌, arith, subst}
use Rattle.std.proofs.lemmas.List.{length-map}
use Rattle.fv_bits.specs.Bits.{bit}
use Rattle.vl_size.specs.Size.{Values}
use Rattle.wn_net.specs.declared.names.Names.{Names}
use Rattle.wn_net.specs.Net.{Netlist}
use Rattle.wn_run.specs.Runs.{Choices}
use Rattle.bb_aig.specs.Bits.{number}
use Rattle.bb_blast.specs.declared.places.Placed.{Placed}
use Rattle.bb_blast.specs.Choice.{numbers_of}
use Rattle.bb_clauses.specs.Models.{bits_at, numbers_at, read_at}
use Rattle.bb_clauses.proofs.Joined.{inputs_in}
use Rattle.bb_clauses.proofs.Reading.{read_is}
use Rattle.bm_unroll.specs.declared.frames.Source.{Source}
use Rattle.bm_unroll.specs.Frames.{chosen, source_width}
use Rattle.bm_decide.specs.declared.verdict.ChoiceBits.{ChoiceBits}
use Rattle.ck_design.specs.Notes.{choice_notes, source_note}
use Rattle.ck_design.specs.Retirements.{values_at}
use Rattle.ck_design.specs.Tight.{Agree, AgreeAt, note_value}
use Rattle.ck_design.proofs.Fields.{bit_is}
use Rattle.ck_design.proofs.NotesWhole.{source_literal}
use Rattle.ck_design.proofs.Placed.{IsPlaceIn, all_placed, map_at, one_there}
use Rattle.ck_induct.specs.Verdicts.{AreBitsBy}
use Rattle.ck_induct.proofs.Lists.{item_at}

-- the bit that a note names is that of a source's number
abbrev pub IsNotedBit : Netlist → Names → (Source → Type 0) → Choices → List Values → Type 0
IsNotedBit net names IsSource ch run =
    (x : Source) (p : Placed) → IsSource x → p.bit < source_width net x
    → bit_at (values_at run (source_note names (Some x) p).cycle (source_note names (Some x) p).name)
    (source_note names (Some x) p).bit
    ≡ bit_at (chosen ch x) p.bit

module _ (net : Netlist) (names : Names) (IsSource : Source → Type 0) (bits : ChoiceBits)
    (are : AreBitsBy net IsSource bits) where
  abbrev read : (ℕ → Bool) → List ℕ
  read = read_at bits.places bits.widths

  module _ (ch : Choices) (run : List Values) (shown : IsNotedBit net names IsSource ch run) (v : ℕ → Bool)
      (same : read v ≡ map (chosen ch) bits.sources) where
    place_agrees : (p : Placed) → IsPlaceIn (inputs_in v) bits.widths 0 0 p
        → AgreeAt v run (source_note names (slice_get bits.sources p.source) p)
    place_agrees p h =
        let long : length bits.widths ≡ length bits.sources =
        ap length are.widths ∙ length-map bits.sources (source_width net) in
        let x = one_there bits.sources p.source (omega (arith, h.within, h.from, long)) in
        let place : p.source - 0 ≡ p.source = omega arith in
        let choice = item_at IsSource bits.sources p.source x.0 are.sources x.1 in
        let width : p.bit < source_width net x.0 =
        subst (λ w. p.bit < w)
        (ap (slice_index bits.widths) place ∙ ap (λ ws. slice_index ws p.source) are.widths
        ∙ map_at (source_width net) bits.sources p.source x.0 x.1) h.width in
        let note = source_note names (Some x.0) p in
        let value : bit_at (values_at run note.cycle note.name) note.bit ≡ bit (v p.node) =
        shown x.0 p choice width
        ∙ ap (λ n. bit_at n p.bit) (sym (map_at (chosen ch) bits.sources p.source x.0 x.1))
        ∙ ap (λ ns. bit_at (slice_index ns p.source) p.bit) (sym same ∙ read_is v bits.places bits.widths are.places)
        ∙ ap (λ i. bit_at (slice_index (numbers_of bits.widths (inputs_in v)) i) p.bit) (sym place)
        ∙ h.value ∙ ap (λ n. bit (v n)) (back p h) in
        let P : Option Source → Type 0 = λ o. AgreeAt v run (source_note names o p) in
        subst P (sym x.1)
        (ap (note_value v) (source_literal names (Some x.0) p)
        ∙ bit_is (v p.node) (v p.node) (bit_at (values_at run note.cycle note.name) note.bit) value refl)
      where
        back : (p : Placed) → IsPlaceIn (inputs_in v) bits.widths 0 0 p → p.node - 1 + 1 ≡ p.node
        back p h = omega (arith, h.some)

    each_agrees : (qs : List Placed) → AllByRecursion (IsPlaceIn (inputs_in v) bits.widths 0 0) qs
        → Agree v run (map (λ p. source_note names (slice_get bits.sources p.source) p) qs)
    each_agrees [] h = tt
    each_agrees (p ∷ qs) h = (place_agrees p h.0, each_agrees qs h.1)

    pub agree_there : Agree v run (choice_notes names bits)
    agree_there =
        let P : List Placed → Type 0 = λ qs. AllByRecursion (IsPlaceIn (inputs_in v) bits.widths 0 0) qs in
        each_agrees bits.places (subst P (sym are.places) (all_placed (inputs_in v) 0 0 bits.widths))

-- ---- values that agree with one list of maps are read alike

module _ (names : Names) (bits : ChoiceBits) where
  same_at : (v w : ℕ → Bool) (run : List Values) (qs : List Placed)
      → Agree v run (map (λ p. source_note names (slice_get bits.sources p.source) p) qs)
      → Agree w run (map (λ p. source_note names (slice_get bits.sources p.source) p) qs)
      → AllByRecursion (λ (p : Placed). v p.node ≡ w p.node) qs
  same_at v w run [] h k = tt
  same_at v w run (p ∷ qs) h k =
      let l = source_literal names (slice_get bits.sources p.source) p in
      let own : v p.node ≡ w p.node = sym (ap (note_value v) l) ∙ h.0 ∙ sym k.0 ∙ ap (note_value w) l in
      (own, same_at v w run qs h.1 k.1)

  bits_alike : (v w : ℕ → Bool) (source : ℕ) (qs : List Placed)
      → AllByRecursion (λ (p : Placed). v p.node ≡ w p.node) qs → bits_at v source qs ≡ bits_at w source qs
  bits_alike v w source [] h = refl
  bits_alike v w source (p ∷ qs) h = λ i.
      if p.source == source then h.0 i ∷ bits_alike v w source qs h.1 i else bits_alike v w source qs h.1 i

  numbers_alike : (v w : ℕ → Bool) (qs : List Placed) (source : ℕ) (ws : List ℕ)
      → AllByRecursion (λ (p : Placed). v p.node ≡ w p.node) qs → numbers_at v qs source ws ≡ numbers_at w qs source ws
  numbers_alike v w qs source [] h = refl
  numbers_alike v w qs source (x ∷ xs) h = λ i.
      number (bits_alike v w source qs h i) ∷ numbers_alike v w qs (source + 1) xs h i

  pub read_same : (v w : ℕ → Bool) (run : List Values) → Agree v run (choice_notes names bits)
      → Agree w run (choice_notes names bits) → read_at bits.places bits.widths v ≡ read_at bits.places bits.widths w
  read_same v w run h k = numbers_alike v w bits.places 0 bits.widths (same_at v w run bits.places h k)
