-- The clauses of a question with their notes are tight.
use Rattle.std.specs.Prelude.{◌≡◌, refl, ℕ, zero, suc, ◌+◌, ◌-◌, ◌<◌, ◌≤◌, ◌==◌, pos, Bool, true, if◌then◌else◌, List}
use Rattle.std.specs.Prelude.{[], ◌∷◌, ◌++◌, length, map, Option, Some, None, is_none, slice_get, slice_index}
use Rattle.std.specs.Prelude.{slice_index_or}
use Rattle.std.specs.Int.{bit_at}
use Rattle.std.specs.List.{AllByRecursion}
use Rattle.std.proofs.Common.{ap, sym, ◌∙◌, arith, subst, true≢false}
use Rattle.std.proofs.lemmas.List.{length-map}
use Rattle.std.proofs.lemmas.Option.{same_Some}
use Rattle.fv_bits.specs.Bits.{bit}
use Rattle.vl_size.specs.Size.{Values}
use Rattle.vl_mean.specs.Parts.{Part}
use Rattle.vl_mean.specs.Runs.{IsAssumed, IsRun}
use Rattle.wn_net.specs.declared.names.Names.{Names}
use Rattle.wn_net.specs.declared.names.Spot.{Spot}
use Rattle.wn_net.specs.Value.{Given}
use Rattle.wn_net.specs.Net.{Netlist, value_at}
use Rattle.wn_run.specs.Runs.{Choices, AreChoicesOf, cycle_at, inputs_at, start_of}
use Rattle.wn_run.proofs.Given.{choices_run, cycles_given}
use Rattle.bb_aig.specs.Bits.{number}
use Rattle.bb_blast.specs.declared.places.Placed.{Placed}
use Rattle.bb_blast.specs.Choice.{numbers_of}
use Rattle.bm_unroll.specs.declared.frames.Source.{Source}
use Rattle.bm_unroll.specs.declared.frames.Source.TheVariants as s
use Rattle.bm_unroll.specs.Frames.{IsChoice, chosen, source_width}
use Rattle.bb_clauses.specs.Models.{AreTrue, bits_at, numbers_at, read_at}
use Rattle.bb_clauses.proofs.Joined.{inputs_in}
use Rattle.bb_clauses.proofs.Reading.{read_is}
use Rattle.rvfi_port.specs.declared.port.Channel.{Channel}
use Rattle.rvfi_port.specs.Channels.{nodes_of}
use Rattle.rvfi_port.specs.Fields.{channel_fields}
use Rattle.vl_lower_spec.specs.Maps.{map_of}
use Rattle.vl_lower_spec.specs.Evaluations.{IsLowered, run_of}
use Rattle.vl_lower_spec.proofs.Allowed.{allowed}
use Rattle.bm_decide.specs.declared.verdict.ChoiceBits.{ChoiceBits}
use Rattle.bm_decide.specs.Verdicts.{AreBitsOf}
use Rattle.ck_ask.specs.Questions.{question_channel, question_cycle, question_first}
use Rattle.ck_ask.proofs.Lawful.{channel_within, in_order}
use Rattle.ck_design.specs.Findings.{given_over}
use Rattle.ck_design.specs.Retirements.{field_in, values_at}
use Rattle.ck_design.specs.Loaded.{HaveFields}
use Rattle.ck_design.proofs.Bound.{front}
use Rattle.ck_design.proofs.Found.{IsRunOf, choices_of_run, run_of_choices, same_found, same_fields}
use Rattle.ck_design.specs.declared.note.Note.{Note}
use Rattle.ck_design.specs.declared.note.NoteLiteral.TheVariants as literal
use Rattle.ck_design.specs.Notes.{choice_notes, field_notes, source_note, spot_note}
use Rattle.ck_design.specs.Tight.{Agree, AgreeAt, CertificatesAreTight, note_value}
use Rattle.ck_design.proofs.Fields.{all_noted, bit_is, fields_agree}
use Rattle.ck_design.proofs.Placed.{IsPlaceIn, all_placed, append, map_at, one_there, source_bit}

-- ---- the literal of a variable

spot_literal : (names : Names) (o : Option Spot) (k : ℕ) (p : Placed)
    → (spot_note names o k p).literal ≡ literal.Clause (pos p.node)
spot_literal names None k p = refl
spot_literal names (Some x) k p = refl

pub source_literal : (names : Names) (o : Option Source) (p : Placed)
    → (source_note names o p).literal ≡ literal.Clause (pos p.node)
source_literal names None p = refl
source_literal names (Some (s.Each i k)) p = spot_literal names (slice_get names.inputs i) k p
source_literal names (Some (s.Once i)) p = spot_literal names (slice_get names.inputs i) 0 p
source_literal names (Some (s.RegStart r)) p = spot_literal names (slice_get names.regs r) 0 p
source_literal names (Some (s.WordStart m w)) p = refl

pub choice_at : (net : Netlist) (d : ℕ) (xs : List Source) (i : ℕ) (x : Source) → AllByRecursion (IsChoice net d) xs
    → slice_get xs i ≡ Some x → IsChoice net d x
choice_at net d [] i x h e = absurd (true≢false (ap is_none e))
choice_at net d (y ∷ ys) zero x h e = subst (λ (z : Source). IsChoice net d z) (same_Some y x e) h.0
choice_at net d (y ∷ ys) (suc i) x h e = choice_at net d ys i x h.1 e

-- ---- values that agree at the notes of choices

module _ (ps : List Part) (net : Netlist) (names : Names) (lowered : IsLowered ps net names) (d : ℕ)
    (bits : ChoiceBits) (are : AreBitsOf net d bits) where
  abbrev read : (ℕ → Bool) → List ℕ
  read = read_at bits.places bits.widths

  module _ (ch : Choices) (run : List Values) (is : IsRunOf net names ch d run) (v : ℕ → Bool)
      (same : read v ≡ map (chosen ch) bits.sources) where
    place_agrees : (p : Placed) → IsPlaceIn (inputs_in v) bits.widths 0 0 p
        → AgreeAt v run (source_note names (slice_get bits.sources p.source) p)
    place_agrees p h =
        let long : length bits.widths ≡ length bits.sources =
        ap length are.widths ∙ length-map bits.sources (source_width net) in
        let x = one_there bits.sources p.source (omega (arith, h.within, h.from, long)) in
        let place : p.source - 0 ≡ p.source = omega arith in
        let choice = choice_at net d bits.sources p.source x.0 are.sources x.1 in
        let width : p.bit < source_width net x.0 =
        subst (λ w. p.bit < w)
        (ap (slice_index bits.widths) place ∙ ap (λ ws. slice_index ws p.source) are.widths
        ∙ map_at (source_width net) bits.sources p.source x.0 x.1) h.width in
        let note = source_note names (Some x.0) p in
        let value : bit_at (values_at run note.cycle note.name) note.bit ≡ bit (v p.node) =
        source_bit ps net names lowered ch d run is x.0 p choice width
        ∙ ap (λ n. bit_at n p.bit) (sym (map_at (chosen ch) bits.sources p.source x.0 x.1))
        ∙ ap (λ ns. bit_at (slice_index ns p.source) p.bit) (sym same ∙ read_is v bits.places bits.widths are.places)
        ∙ ap (λ i. bit_at (slice_index (numbers_of bits.widths (inputs_in v)) i) p.bit) (sym place)
        ∙ h.value ∙ ap (λ n. bit (v n)) (back p h) in
        let P : Option Source → Type 0 = λ o. AgreeAt v run (source_note names o p) in
        subst P (sym x.1)
        (ap (note_value v) (source_literal names (Some x.0) p)
        ∙ bit_is (v p.node) (v p.node) (bit_at (values_at run note.cycle note.name) note.bit) value refl)
      where
        back : (p : Placed) → IsPlaceIn (inputs_in v) bits.widths 0 0 p → p.node - 1 + 1 ≡ p.node
        back p h = omega (arith, h.some)

    each_agrees : (qs : List Placed) → AllByRecursion (IsPlaceIn (inputs_in v) bits.widths 0 0) qs
        → Agree v run (map (λ p. source_note names (slice_get bits.sources p.source) p) qs)
    each_agrees [] h = tt
    each_agrees (p ∷ qs) h = (place_agrees p h.0, each_agrees qs h.1)

    pub choices_agree : Agree v run (choice_notes names bits)
    choices_agree =
        let P : List Placed → Type 0 = λ qs. AllByRecursion (IsPlaceIn (inputs_in v) bits.widths 0 0) qs in
        each_agrees bits.places (subst P (sym are.places) (all_placed (inputs_in v) 0 0 bits.widths))

  -- ---- values that agree with one run are read alike

  same_at : (v w : ℕ → Bool) (run : List Values) (qs : List Placed)
      → Agree v run (map (λ p. source_note names (slice_get bits.sources p.source) p) qs)
      → Agree w run (map (λ p. source_note names (slice_get bits.sources p.source) p) qs)
      → AllByRecursion (λ (p : Placed). v p.node ≡ w p.node) qs
  same_at v w run [] h k = tt
  same_at v w run (p ∷ qs) h k =
      let l = source_literal names (slice_get bits.sources p.source) p in
      let own : v p.node ≡ w p.node = sym (ap (note_value v) l) ∙ h.0 ∙ sym k.0 ∙ ap (note_value w) l in
      (own, same_at v w run qs h.1 k.1)

  bits_alike : (v w : ℕ → Bool) (source : ℕ) (qs : List Placed)
      → AllByRecursion (λ (p : Placed). v p.node ≡ w p.node) qs → bits_at v source qs ≡ bits_at w source qs
  bits_alike v w source [] h = refl
  bits_alike v w source (p ∷ qs) h = λ i.
      if p.source == source then h.0 i ∷ bits_alike v w source qs h.1 i else bits_alike v w source qs h.1 i

  numbers_alike : (v w : ℕ → Bool) (qs : List Placed) (source : ℕ) (ws : List ℕ)
      → AllByRecursion (λ (p : Placed). v p.node ≡ w p.node) qs → numbers_at v qs source ws ≡ numbers_at w qs source ws
  numbers_alike v w qs source [] h = refl
  numbers_alike v w qs source (x ∷ xs) h = λ i.
      number (bits_alike v w source qs h i) ∷ numbers_alike v w qs (source + 1) xs h i

  pub read_alike : (v w : ℕ → Bool) (run : List Values) → Agree v run (choice_notes names bits)
      → Agree w run (choice_notes names bits) → read v ≡ read w
  read_alike v w run h k =
      numbers_alike v w bits.places 0 bits.widths (same_at v w run bits.places h k)

-- ---- the fields of the question's channel

have_at : (net : Netlist) (g : Given) (v : Values) (first i : ℕ) (cs : List Channel) → i < length cs
    → HaveFields net g v first cs
    → map (value_at net g) (slice_index_or (map nodes_of cs) i []) ≡ map (field_in v (first + i)) channel_fields
have_at net g v first i [] less h = absurd (omega (arith, less))
have_at net g v first zero (c ∷ cs) less h =
    let z : first ≡ first + 0 = omega arith in h.0 ∙ ap (λ n. map (field_in v n) channel_fields) z
have_at net g v first (suc i) (c ∷ cs) less h =
    let n : first + 1 + i ≡ first + suc i = omega arith in
    have_at net g v (first + 1) i cs (omega (arith, less)) h.1 ∙ ap (λ m. map (field_in v m) channel_fields) n

agree_front : (v : ℕ → Bool) (run : List Values) (xs ys : List Note) → Agree v run (xs ++ ys) → Agree v run xs
agree_front v run xs ys h = front (AgreeAt v run) xs ys h

pub tight : CertificatesAreTight
tight ps net names channels wants port q opts c loaded whole lawful are m =
    let K = question_cycle q in
    let channel = question_channel q in
    let h = loaded.lowered in
    let le : question_first q ≤ K = in_order channels q lawful in
    let fields = field_notes channel K channel_fields c.fields in
    let choices = choice_notes names c.bits in
    let whole_agrees = λ (v : ℕ → Bool) (ch : Choices) (of : AreChoicesOf net ch) (run : List Values)
    (is_run : IsRun ps K run) (is : IsRunOf net names ch K run) (t : AreTrue m.before v)
    (same : map (chosen ch) c.bits.sources ≡ read_at c.bits.places c.bits.widths v).
    let g = cycle_at net (inputs_at net ch) (start_of net ch) K in
    let given = cycles_given net (inputs_at net ch) (start_of net ch) K whole (choices_run net ch whole of) in
    let less : channel < length port.channels = omega (arith, channel_within channels q lawful, loaded.many) in
    let have = have_at net g (map_of net names g) 0 channel port.channels less
    (loaded.shows g given).fields in
    let zero : 0 + channel ≡ channel = omega arith in
    append (AgreeAt v run) choices fields (choices_agree ps net names h K c.bits are ch run is v (sym same))
    (fields_agree v run channel K channel_fields c.fields
    (m.shows v ch t of same ∙ have ∙ ap (λ n. map (field_in (map_of net names g) n) channel_fields) zero
    ∙ same_fields ps net names channels wants port ch K run loaded whole of is_run is channel)) in
    record {
      before = m.before;
      last = m.last;
      model = λ run is_run.
          let e = choices_of_run ps net names K run h whole is_run in
          let made = m.complete e.0 e.1 in
          (made.0, made.1, whole_agrees made.0 e.0 e.1 run is_run e.2 made.1 (sym made.2));
      one = λ run v w is_run t u av aw.
          m.unique v w t u
          (read_alike ps net names h K c.bits are v w run (agree_front v run choices fields av)
          (agree_front w run choices fields aw));
      run = λ v t.
          let made = m.choice v t in
          let run = run_of net names made.ch K in
          let is_run = allowed ps net names h whole made.ch made.of_net K in (
            run,
            is_run,
            whole_agrees v made.ch made.of_net run is_run
                (run_of_choices ps net names made.ch K h whole made.of_net) t made.same,
          );
      verdict = λ v run t is_run agree.
          let e = choices_of_run ps net names K run h whole is_run in
          let made = m.complete e.0 e.1 in
          let theirs = whole_agrees made.0 e.0 e.1 run is_run e.2 made.1 (sym made.2) in
          let alike = read_alike ps net names h K c.bits are v made.0 run (agree_front v run choices fields agree)
          (agree_front made.0 run choices fields theirs) in
          let one = m.verdict v e.0 t e.1 (sym (alike ∙ made.2)) in
          let two = same_found ps net names channels wants port q opts e.0 run loaded whole e.1 le is_run e.2 in
          let to = λ (x : v c.formula.vars ≡ true). two.0 (one.0 x) in
          let from = λ (x : IsAssumed ps run × (given_over run channels wants q opts ≡ true)). one.1 (two.1 x) in
          (to, from);
      fields = all_noted channel K choices channel_fields c.fields;
    }
