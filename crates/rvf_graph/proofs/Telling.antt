-- What the text of a graph of a net's runs says of the runs of its design.
use Rattle.std.specs.Prelude.{◌≡◌, refl, ◌↔◌, ℕ, ◌+◌, ◌-◌, ◌<◌, ◌≤◌, Bool, true, false, List, [], ◌∷◌, length, map}
use Rattle.std.specs.Prelude.{slice_get, slice_index_or, take, ◌++◌}
use Rattle.std.specs.List.{AllByRecursion}
use Rattle.std.proofs.Common.{ap, sym, ◌∙◌, arith, subst}
use Rattle.std.proofs.lemmas.List.{length-append, length-map}
use Rattle.std.proofs.Math.Seq.{take-append_seam}
use Rattle.std.specs.List.{flat_map, range_with_len}
use Rattle.rv_table.specs.declared.retire.Opts.{Opts}
use Rattle.vl_size.specs.Size.{Values}
use Rattle.vl_size.specs.declared.decl.Decl.{Decl}
use Rattle.vl_mean.specs.Parts.{Part}
use Rattle.vl_mean.specs.Runs.{IsRun}
use Rattle.vl_mean_flat.specs.Flattened.{decls_of}
use Rattle.wn_net.specs.declared.names.Names.{Names}
use Rattle.wn_net.specs.Net.{Netlist, IsNet}
use Rattle.wn_run.specs.Runs.{Choices, AreChoicesOf}
use Rattle.vl_lower_spec.specs.Evaluations.{IsLowered, run_of}
use Rattle.vl_lower_spec.proofs.Allowed.{allowed}
use Rattle.aiger_text.specs.Profile.{IsOutput}
use Rattle.aiger_text.specs.Said.{Said}
use Rattle.aiger_text.specs.Written.{aag_text}
use Rattle.bb_aig.specs.Graph.{inputs_of, lit_at, of_list}
use Rattle.bb_blast.specs.declared.places.Placed.{Placed}
use Rattle.bb_blast.specs.Choice.{all_places, numbers_of}
use Rattle.bb_clauses.specs.Models.{read_at}
use Rattle.bb_clauses.proofs.Joined.{inputs_in}
use Rattle.bb_clauses.proofs.Reading.{read_is}
use Rattle.bm_unroll.specs.Frames.{chosen}
use Rattle.bm_decide.specs.Verdicts.{Gives}
use Rattle.rvfi_port.specs.declared.field.Field.{Field}
use Rattle.rvfi_port.specs.declared.port.Port.{Port}
use Rattle.rvfi_port.specs.Fields.{channel_fields, field_width}
use Rattle.rvfi_port.specs.declared.port.Wants.{Wants}
use Rattle.ck_ask.specs.Asked.{IsQuestion}
use Rattle.ck_ask.specs.Questions.{question_channel, question_cycle}
use Rattle.ck_ask.specs.declared.question.Question.{Question}
use Rattle.ck_ask.proofs.Lawful.{in_order}
use Rattle.ck_design.specs.Findings.{IsFound}
use Rattle.ck_design.specs.Loaded.{IsLoaded}
use Rattle.ck_design.specs.declared.note.Note.{Note}
use Rattle.ck_design.specs.Notes.{bit_notes, choice_notes, field_notes, source_note}
use Rattle.ck_design.specs.NotesForm.{AreOfVariables, IsChosenBit, NamedBit, bit_named, field_bits}
use Rattle.ck_design.specs.Tight.{Agree}
use Rattle.ck_design.proofs.Found.{IsRunOf, choices_of_run, run_of_choices, same_found}
use Rattle.ck_design.proofs.NotesForm.{in_form}
use Rattle.ck_design.proofs.NotesWhole.{choices_agree, read_alike}
use Rattle.rvf_graph.specs.BitNames.{bit_name}
use Rattle.rvf_graph.specs.GraphTexts.{TellsRuns, bit_in, bits_in}
use Rattle.rvf_graph.specs.RunGraphs.{IsGraphOfRuns, IsTextOf}
use Rattle.rvf_graph.specs.declared.graph.RunGraph.{RunGraph}
use Rattle.rvf_graph.specs.declared.text.GraphText.{GraphText}
use Rattle.rvf_graph.proofs.BitLines.{name_of}
use Rattle.rvf_graph.proofs.Numbered.{AreNumbered, agree_of, all_numbered, values_of, variables}

-- ---- lists

twice : {A B C : Type 0} (f : B → C) (g : A → B) (xs : List A) → map f (map g xs) ≡ map (λ x. f (g x)) xs
twice f g [] = refl
twice f g (x ∷ xs) = ap (λ ys. f (g x) ∷ ys) (twice f g xs)

-- the bits of notes of variables are chosen
chosen_bits : (ds : List Decl) (last low : ℕ) (notes : List Note) → AreOfVariables ds last low notes
    → AllByRecursion (IsChosenBit ds last) (map bit_named notes)
chosen_bits ds last low [] h = tt
chosen_bits ds last low (note ∷ notes) h = (h.0.bit, chosen_bits ds last h.0.variable notes h.1)

-- lists of which the ends are as long begin with the same
same_front : {A : Type 0} (xs ys us vs : List A) → xs ++ us ≡ ys ++ vs → length us ≡ length vs → xs ≡ ys
same_front xs ys us vs e h =
    let long : length xs ≡ length ys =
    (let a = sym (length-append xs us) ∙ ap length e ∙ length-append ys vs in omega (arith, a, h)) in
    sym (take-append_seam xs us) ∙ ap (take (length xs)) e ∙ ap (λ n. take n (ys ++ vs)) long ∙ take-append_seam ys vs

-- there is a note for each bit of the fields
notes_of_fields : (channel cycle : ℕ) (fields : List Field)
    → length (field_notes channel cycle fields []) ≡ length (flat_map (field_bits channel cycle) fields)
notes_of_fields channel cycle [] = refl
notes_of_fields channel cycle (field ∷ fields) =
    length-append (bit_notes channel cycle field []) (field_notes channel cycle fields [])
    ∙ (λ i. each i + notes_of_fields channel cycle fields i)
    ∙ sym (length-append (field_bits channel cycle field) (flat_map (field_bits channel cycle) fields)) where
      each : length (bit_notes channel cycle field []) ≡ length (field_bits channel cycle field)
      each = length-map (range_with_len 0 (field_width field)) _ ∙ sym (length-map (range_with_len 0 (field_width field)) _)

many_fields : (channel cycle : ℕ) (notes : List Note)
    → map bit_named notes ≡ flat_map (field_bits channel cycle) channel_fields
    → length (field_notes channel cycle channel_fields []) ≡ length notes
many_fields channel cycle notes h =
    notes_of_fields channel cycle channel_fields ∙ sym (ap length h) ∙ length-map notes bit_named

-- an output has one value
one_value : (said : Said) (x : ℕ → Bool) (a b : Bool) → IsOutput said x a → IsOutput said x b → a ≡ b
one_value said x a b h k = sym (h.same h.some.0 h.some.1) ∙ k.same h.some.0 h.some.1

-- ---- values of inputs as those of variables

back : (x : ℕ → Bool) → inputs_in (variables x) ≡ x
back x = λ i k. x (same k i) where
  same : (k : ℕ) → k + 1 - 1 ≡ k
  same k = omega arith

module _ (ps : List Part) (net : Netlist) (names : Names) (channels : ℕ) (wants : Wants) (port : Port) (q : Question)
    (opts : Opts) (loaded : IsLoaded ps net names channels wants port) (whole : IsNet net)
    (lawful : IsQuestion (length port.channels) q) (r : RunGraph)
    (h : IsGraphOfRuns net (question_cycle q) (Gives net port q opts) r) where
  abbrev K : ℕ
  K = question_cycle q

  abbrev notes : List Note
  notes = choice_notes names r.bits

  abbrev bits : List NamedBit
  bits = map bit_named notes

  lowered : IsLowered ps net names
  lowered = loaded.lowered

  is_question : IsQuestion channels q
  is_question = subst (λ n. IsQuestion n q) loaded.many lawful

  abbrev read : (ℕ → Bool) → List ℕ
  read = read_at r.bits.places r.bits.widths

  read_of : (x : ℕ → Bool) → read (variables x) ≡ numbers_of r.bits.widths x
  read_of x =
      read_is (variables x) r.bits.places r.bits.widths h.bits.places ∙ ap (numbers_of r.bits.widths) (back x)

  numbered : AreNumbered 0 r.bits.places
  numbered = subst (AreNumbered 0) (sym h.bits.places) (all_numbered 0 0 r.bits.widths)

  many : length bits ≡ inputs_of r.graph
  many = length-map notes bit_named ∙ length-map r.bits.places note_of ∙ sym h.count where
    note_of : Placed → Note
    note_of p = source_note names (slice_get r.bits.sources p.source) p

  -- the bits of a run, one for each place
  placed : (run : List Values) → bits_in run bits
      ≡ map (λ (p : Placed). bit_in run (bit_named (source_note names (slice_get r.bits.sources p.source) p))) r.bits.places
  placed run =
      twice (bit_in run) bit_named notes
      ∙ twice (λ note. bit_in run (bit_named note))
      (λ (p : Placed). source_note names (slice_get r.bits.sources p.source) p) r.bits.places

  -- values agree with the run whose choices they are
  agrees : (ch : Choices) (run : List Values) (x : ℕ → Bool) → IsRunOf net names ch K run
      → numbers_of r.bits.widths x ≡ map (chosen ch) r.bits.sources → Agree (variables x) run notes
  agrees ch run x is same =
      choices_agree ps net names lowered K r.bits h.bits ch run is (variables x) (read_of x ∙ same)

  -- and so do those of its named bits
  own_agrees : (run : List Values) → Agree (variables (of_list (bits_in run bits))) run notes
  own_agrees run =
      agree_of names r.bits.sources run (of_list (bits_in run bits)) 0 r.bits.places numbered
      (λ j. let z : 0 + j ≡ j = omega arith in
      ap (of_list (bits_in run bits)) z ∙ ap (λ bs. slice_index_or bs j false) (placed run))

  -- the numbers of the choices of a run are those of its named bits
  own_numbers : (ch : Choices) (run : List Values) → AreChoicesOf net ch → IsRunOf net names ch K run
      → map (chosen ch) r.bits.sources ≡ numbers_of r.bits.widths (of_list (bits_in run bits))
  own_numbers ch run of is =
      let x = of_list (bits_in run bits) in
      let made = h.complete ch of in
      let alike : read (variables x) ≡ read (variables made.0) =
      read_alike ps net names lowered K r.bits h.bits (variables x) (variables made.0) run (own_agrees run)
      (agrees ch run made.0 is made.1) in
      sym made.1 ∙ sym (read_of made.0) ∙ sym alike ∙ read_of x

  output : (run : List Values) → IsRun ps K run
      → (lit_at r.graph (of_list (bits_in run bits)) r.root ≡ true) ↔ IsFound ps channels wants q opts run
  output run is_run =
      let e = choices_of_run ps net names K run lowered whole is_run in
      let x = of_list (bits_in run bits) in
      let one = h.output x e.0 e.1 (own_numbers e.0 run e.1 e.2) in
      let two = same_found ps net names channels wants port q opts e.0 run loaded whole e.1
      (in_order channels q is_question) is_run e.2 in
      let to : lit_at r.graph x r.root ≡ true → IsFound ps channels wants q opts run
      = λ t. let both = two.0 (one.0 t) in record { is_run = is_run; assumed = both.0; given = both.1 } in
      let from : IsFound ps channels wants q opts run → lit_at r.graph x r.root ≡ true
      = λ f. one.1 (two.1 (f.assumed, f.given)) in
      (to, from)

  some : (inputs : List Bool) → length inputs ≡ length bits
      → (run : List Values) × IsRun ps K run × (bits_in run bits ≡ inputs)
  some inputs long =
      let c = h.some (of_list inputs) in
      let ch = c.chooses.ch in
      let run = run_of net names ch K in
      let is = run_of_choices ps net names ch K lowered whole c.chooses.of_net in
      let many_places : length inputs ≡ length r.bits.places = long ∙ many ∙ h.count in
      let all = values_of names r.bits.sources run c.values 0 r.bits.places inputs numbered many_places
      (λ j less. let z : 0 + j ≡ j = omega arith in
      ap c.values z ∙ c.same j (omega (arith, less, many_places, h.count)))
      (agrees ch run c.values is (sym c.chooses.same)) in
      (run, allowed ps net names lowered whole ch c.chooses.of_net K, placed run ∙ all)

  pub tells : (t : GraphText) → IsTextOf names r t → TellsRuns ps channels wants q opts t
  tells t w =
      let form = in_form ps net names channels wants port r.bits (question_channel q) K [] loaded h.bits in
      record {
        bits = bits;
        chosen =
            chosen_bits (decls_of ps) K 0 notes (subst (λ ns. AreOfVariables (decls_of ps) K 0 ns)
            (sym (same_front notes form.variables (field_notes (question_channel q) K channel_fields []) form.fields
            form.notes_are (many_fields (question_channel q) K form.fields form.of_fields))) form.of_variables);
        graph = r.graph;
        root = r.root;
        text_is = w.text_is ∙ ap (aag_text r.graph r.root) (sym (twice bit_name bit_named notes));
        named = many;
        inputs_are = w.inputs_are;
        gates_are = w.gates_are;
        said = w.says.0;
        profile = w.says.1;
        inputs_said = w.says.2 ∙ sym many;
        output = λ run value is_run is_out.
            let e : value ≡ lit_at r.graph (of_list (bits_in run bits)) r.root =
            one_value w.says.0 (of_list (bits_in run bits)) value (lit_at r.graph (of_list (bits_in run bits)) r.root)
            is_out (w.says.3 (of_list (bits_in run bits))) in
            let both = output run is_run in
            let to = λ (v : value ≡ true). both.0 (sym e ∙ v) in
            let from = λ (f : IsFound ps channels wants q opts run). e ∙ both.1 f in
            (to, from);
        run = some;
      }
