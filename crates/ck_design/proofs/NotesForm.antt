-- The notes of a certificate stand in their form.
use Rattle.std.specs.Prelude.{◌≡◌, refl, ℕ, zero, suc, ◌+◌, ◌-◌, ◌*◌, ◌<◌, ◌≤◌, Bool, true, false, not, ◌&&◌, ◌||◌}
use Rattle.std.specs.Prelude.{if◌then◌else◌, List, [], ◌∷◌, ◌++◌, length, map, Option, Some, None, is_none, find}
use Rattle.std.specs.Prelude.{bytes_eq, slice_get, slice_index, slice_index_or}
use Rattle.std.specs.List.{AllByRecursion, flat_map, list_any, range_with_len}
use Rattle.std.proofs.Common.{ap, sym, ◌∙◌, arith, cond, subst, true≢false}
use Rattle.std.proofs.lemmas.Bool.{and_from, or_left, or_parts, or_right}
use Rattle.std.proofs.lemmas.List.{length-map, map-append}
use Rattle.std.proofs.lemmas.Option.{get_or_from_slice_get, same_Some, slice_get-get_or, slice_get_within}
use Rattle.std.proofs.lemmas.Slice.Eq.{bytes_eq-Decides}
use Rattle.vl_size.specs.declared.decl.Class.{Class}
use Rattle.vl_size.specs.declared.decl.Class.TheVariants as class
use Rattle.vl_size.specs.declared.decl.Decl.{Decl}
use Rattle.vl_size.specs.Size.{Values}
use Rattle.vl_mean.specs.Cells.{cells, contains_name, is_cell}
use Rattle.vl_mean.specs.Parts.{Part, clocked, combinational, declares, equation, starts}
use Rattle.vl_mean.specs.Runs.{Agrees, AgreesAt, Each}
use Rattle.vl_mean.specs.Scopes.{is_clock_class}
use Rattle.vl_mean_flat.specs.Flattened.{decls_of}
use Rattle.vl_flow_spec.specs.Reads.{IsCellOf}
use Rattle.wn_net.specs.declared.names.Names.{Names}
use Rattle.wn_net.specs.declared.names.Spot.{Spot}
use Rattle.wn_net.specs.declared.parts.Init.TheVariants.{Free}
use Rattle.wn_net.specs.declared.parts.Input.{Input}
use Rattle.wn_net.specs.declared.parts.InputKind.{InputKind}
use Rattle.wn_net.specs.declared.parts.InputKind.TheVariants as kind
use Rattle.wn_net.specs.declared.parts.Mem.{Mem}
use Rattle.wn_net.specs.declared.parts.Reg.{Reg}
use Rattle.wn_net.specs.Net.{Netlist}
use Rattle.vl_lower_spec.specs.Maps.{cells_named}
use Rattle.vl_lower_spec.specs.Spots.{AreSources, IsInputOf, IsMemOf, IsRegOf, kind_of}
use Rattle.vl_lower_spec.proofs.Bits.{below_at, below_many}
use Rattle.vl_lower_spec.proofs.Free.{vector_cell}
use Rattle.vl_lower_spec.proofs.Pairs.{second_of}
use Rattle.bb_blast.specs.declared.places.Placed.{Placed}
use Rattle.bb_blast.specs.Choice.{all_places, places_from}
use Rattle.bm_unroll.specs.declared.frames.Source.{Source}
use Rattle.bm_unroll.specs.declared.frames.Source.TheVariants as s
use Rattle.bm_unroll.specs.Frames.{IsChoice, source_width}
use Rattle.rvfi_port.specs.declared.field.Field.{Field}
use Rattle.rvfi_port.specs.Fields.{channel_fields, field_name, field_width, probed_fields}
use Rattle.bm_decide.specs.declared.verdict.ChoiceBits.{ChoiceBits}
use Rattle.bm_decide.specs.Verdicts.{AreBitsOf}
use Rattle.ck_design.specs.Loaded.{IsDeclared}
use Rattle.ck_design.specs.declared.note.Note.{Note}
use Rattle.ck_design.specs.Notes.{bit_notes, choice_notes, field_notes, literal_of, source_note, spot_note, word_note}
use Rattle.ck_design.specs.NotesForm.{AreOfVariables, IsChosenBit, IsChosenIn, NamedBit, NotesAreInForm, bit_named}
use Rattle.ck_design.specs.NotesForm.{field_bits, is_shown}
use Rattle.ck_design.proofs.Bound.{front}
use Rattle.ck_design.proofs.NotesWhole.{choice_at, source_literal}
use Rattle.ck_design.proofs.Placed.{IsPlaceIn, all_placed, append, map_at, mapped, one_there}

-- ---- variables rise from place to place

abbrev Rising : ℕ → List Placed → Type 0
Rising low [] = Unit {0}
Rising low (p ∷ ps) = (low < p.node) × Rising p.node ps

rising_front : (source bit at w low : ℕ) (rest : List Placed) → low ≤ at
    → ((l : ℕ) → l ≤ at + w → Rising l rest) → Rising low (places_from source bit at w ++ rest)
rising_front source bit at zero low rest le h = h low (omega (arith, le))
rising_front source bit at (suc w) low rest le h = (
  omega (arith, le),
  rising_front source (bit + 1) (at + 1) w (at + 1) rest (omega arith) (λ l m. h l (omega (arith, m))),
)

rising_all : (source at low : ℕ) (ws : List ℕ) → low ≤ at → Rising low (all_places source at ws)
rising_all source at low [] le = tt
rising_all source at low (w ∷ ws) le =
    rising_front source 0 at w low (all_places (source + 1) (at + w) ws) le
    (λ l m. rising_all (source + 1) (at + w) l ws m)

-- ---- classes of names, and how inputs are chosen

abbrev is_each : Option InputKind → Bool
is_each (Some kind.EachCycle) = true
is_each (Some kind.Reset) = false
is_each (Some kind.Once) = false
is_each None = false

abbrev is_once : Option InputKind → Bool
is_once (Some kind.Once) = true
is_once (Some kind.EachCycle) = false
is_once (Some kind.Reset) = false
is_once None = false

in_each : (k : ℕ) (c : Class) → kind_of c ≡ Some kind.EachCycle → IsChosenIn c k
in_each k class.Input e = tt
in_each k class.EachCycle e = tt
in_each k class.Reset e = absurd (true≢false (sym (ap is_each e)))
in_each k class.Once e = absurd (true≢false (sym (ap is_each e)))
in_each k class.Clock e = absurd (true≢false (sym (ap is_each e)))
in_each k class.Net e = absurd (true≢false (sym (ap is_each e)))
in_each k class.Variable e = absurd (true≢false (sym (ap is_each e)))

in_first : (c : Class) → kind_of c ≡ Some kind.Once → IsChosenIn c 0
in_first class.Once e = refl
in_first class.Input e = tt
in_first class.EachCycle e = tt
in_first class.Variable e = refl
in_first class.Reset e = absurd (true≢false (sym (ap is_once e)))
in_first class.Clock e = absurd (true≢false (sym (ap is_once e)))
in_first class.Net e = absurd (true≢false (sym (ap is_once e)))

-- ---- lists

pub list_at : (xs : List Mem) (i : ℕ) (x : Mem) → slice_get xs i ≡ Some x
    → slice_index_or (map (λ m. m.init) xs) i [] ≡ x.init
list_at [] i x e = absurd (true≢false (ap is_none e))
list_at (y ∷ ys) zero x e = ap (λ (m : Mem). m.init) (same_Some y x e)
list_at (y ∷ ys) (suc i) x e = list_at ys i x e

mem_below : (ms : List Mem) (m w : ℕ) → slice_get (slice_index_or (map (λ x. x.init) ms) m []) w ≡ Some Free
    → m < length ms
mem_below [] zero w e = absurd (true≢false (ap is_none e))
mem_below [] (suc m) w e = absurd (true≢false (ap is_none e))
mem_below (x ∷ xs) zero w e = omega arith
mem_below (x ∷ xs) (suc m) w e = omega (arith, mem_below xs m w e)

pub cell_there : (ts : List (List ℕ)) (w : ℕ) → w < length ts → contains_name ts (slice_index_or ts w []) ≡ true
cell_there [] w less = absurd (omega (arith, less))
cell_there (t ∷ ts) zero less = or_left (bytes_eq t t) (contains_name ts t) ((bytes_eq-Decides t t).1 refl)
cell_there (t ∷ ts) (suc w) less =
    or_right (bytes_eq (slice_index_or ts w []) t) (contains_name ts (slice_index_or ts w []))
    (cell_there ts w (omega (arith, less)))

-- ---- the bit of a source is one that is chosen

module _ (ps : List Part) (net : Netlist) (names : Names) (sources : AreSources (decls_of ps) ps net names) (d : ℕ)
  where
    abbrev ds : List Decl
    ds = decls_of ps

    of_input : (i k : ℕ) (way : InputKind) (p : Placed) → slice_get (map (λ x. x.kind) net.inputs) i ≡ Some way
        → p.bit < slice_index (map (λ x. x.width) net.inputs) i → k ≤ d
        → ((c : Class) → kind_of c ≡ Some way → IsChosenIn c k)
        → IsChosenBit ds d (bit_named (spot_note names (slice_get names.inputs i) k p))
    of_input i k way p e less le chosen =
        let input = mapped (λ (x : Input). x.kind) net.inputs i way e in
        let r = second_of (IsInputOf ds names) net.inputs names.inputs sources.inputs i input.0 input.1 in
        let is : IsInputOf ds names input.0 r.0 = r.2 in
        let bits : List ℕ = r.0.bits in
        let width = map_at (λ (x : Input). x.width) net.inputs i input.0 input.1 in
        let long : length bits ≡ is.decl.width = ap length is.bits ∙ below_many is.decl.width in
        let short : p.bit < length bits = omega (arith, less, width, is.width, long) in
        let at =
        below_at is.decl.width p.bit (slice_index bits p.bit)
        (sym (ap (λ bs. slice_get bs p.bit) is.bits) ∙ slice_get-get_or bits p.bit 0 short) in
        let P : Option Spot → Type 0 = λ o. IsChosenBit ds d (bit_named (spot_note names o k p)) in
        subst P (sym r.1) (record {
          decl = is.decl;
          of = subst (IsCellOf ds is.decl) (sym is.named) (vector_cell ds is.decl is.declared is.vector);
          bit = at.1;
          cycle = le;
          chosen = chosen is.decl.class (is.kind ∙ ap Some input.2);
        })

    of_reg : (r : ℕ) (p : Placed) → slice_get (map (λ x. x.init) net.regs) r ≡ Some Free
        → p.bit < slice_index (map (λ x. x.width) net.regs) r
        → IsChosenBit ds d (bit_named (spot_note names (slice_get names.regs r) 0 p))
    of_reg r p e less =
        let reg = mapped (λ (x : Reg). x.init) net.regs r Free e in
        let found = second_of (IsRegOf ds ps names) net.regs names.regs sources.regs r reg.0 reg.1 in
        let is : IsRegOf ds ps names reg.0 found.0 = found.2 in
        let bits : List ℕ = found.0.bits in
        let width = map_at (λ (x : Reg). x.width) net.regs r reg.0 reg.1 in
        let short : p.bit < length bits = omega (arith, less, width, is.width) in
        let P : Option Spot → Type 0 = λ o. IsChosenBit ds d (bit_named (spot_note names o 0 p)) in
        subst P (sym found.1) (record {
          decl = is.decl;
          of = subst (IsCellOf ds is.decl) (sym is.named) is.of;
          bit = is.within p.bit (slice_index bits p.bit) (slice_get-get_or bits p.bit 0 short);
          cycle = omega arith;
          chosen = subst (λ c. IsChosenIn c 0) (sym is.variable) refl;
        })

    of_word : (m w : ℕ) (p : Placed)
        → slice_get (slice_index_or (map (λ x. x.init) net.mems) m []) w ≡ Some Free
        → p.bit < slice_index (map (λ x. x.width) net.mems) m → IsChosenBit ds d (bit_named (word_note names m w p))
    of_word m w p e less =
        let mem = one_there net.mems m (mem_below net.mems m w e) in
        let found = second_of (IsMemOf ds ps names) net.mems names.mems sources.mems m mem.0 mem.1 in
        let is : IsMemOf ds ps names mem.0 found.0 = found.2 in
        let at : slice_index names.mems m ≡ found.0 = get_or_from_slice_get names.mems m found.0 0 found.1 in
        let own : cells_named (slice_get names.list (slice_index names.mems m)) ≡ cells is.decl =
        ap (λ n. cells_named (slice_get names.list n)) at ∙ is.named in
        let free : slice_get mem.0.init w ≡ Some Free =
        sym (ap (λ xs. slice_get xs w) (list_at net.mems m mem.0 mem.1)) ∙ e in
        let within : w < length (cells is.decl) =
        omega (arith, slice_get_within mem.0.init w Free free, is.starts, is.count) in
        let width = map_at (λ (x : Mem). x.width) net.mems m mem.0 mem.1 in
        record {
          decl = is.decl;
          of = record {
            declared = is.declared;
            cell = ap (λ ts. is_cell is.decl.name is.decl.words (slice_index_or ts w [])) own
                ∙ cell_there (cells is.decl) w within;
          };
          bit = omega (arith, less, width, is.width);
          cycle = omega arith;
          chosen = subst (λ c. IsChosenIn c 0) (sym is.variable) refl;
        }

    of_source : (x : Source) (p : Placed) → IsChoice net d x → p.bit < source_width net x
        → IsChosenBit ds d (bit_named (source_note names (Some x) p))
    of_source (s.Each i k) p c less = of_input i k kind.EachCycle p c.0 less c.1 (in_each k)
    of_source (s.Once i) p c less = of_input i 0 kind.Once p c less (omega arith) in_first
    of_source (s.RegStart r) p c less = of_reg r p c less
    of_source (s.WordStart m w) p c less = of_word m w p c less

    module _ (bits : ChoiceBits) (are : AreBitsOf net d bits) where
      abbrev IsPlace : Placed → Type 0
      IsPlace p = IsPlaceIn (λ (i : ℕ). false) bits.widths 0 0 p

      of_place : (p : Placed) → IsPlace p
          → IsChosenBit ds d (bit_named (source_note names (slice_get bits.sources p.source) p))
      of_place p h =
          let long : length bits.widths ≡ length bits.sources =
          ap length are.widths ∙ length-map bits.sources (source_width net) in
          let x = one_there bits.sources p.source (omega (arith, h.within, h.from, long)) in
          let place : p.source - 0 ≡ p.source = omega arith in
          let choice = choice_at net d bits.sources p.source x.0 are.sources x.1 in
          let width : p.bit < source_width net x.0 =
          subst (λ w. p.bit < w)
          (ap (slice_index bits.widths) place ∙ ap (λ ws. slice_index ws p.source) are.widths
          ∙ map_at (source_width net) bits.sources p.source x.0 x.1) h.width in
          let P : Option Source → Type 0 = λ o. IsChosenBit ds d (bit_named (source_note names o p)) in
          subst P (sym x.1) (of_source x.0 p choice width)

      of_places : (low : ℕ) (qs : List Placed) → Rising low qs → AllByRecursion IsPlace qs
          → AreOfVariables ds d low (map (λ p. source_note names (slice_get bits.sources p.source) p) qs)
      of_places low [] r h = tt
      of_places low (p ∷ qs) r h = (
        record {
          variable = p.node;
          above = r.0;
          literal_is = source_literal names (slice_get bits.sources p.source) p;
          bit = of_place p h.0;
        },
        of_places p.node qs r.1 h.1,
      )

      of_choices : AreOfVariables ds d 0 (choice_notes names bits)
      of_choices =
          of_places 0 bits.places
          (subst (λ (qs : List Placed). Rising 0 qs) (sym are.places) (rising_all 0 0 0 bits.widths (omega arith)))
          (subst (λ (qs : List Placed). AllByRecursion IsPlace qs) (sym are.places)
          (all_placed (λ (i : ℕ). false) 0 0 bits.widths))

-- ---- the bits of fields

module _ (channel cycle : ℕ) where
  abbrev note_at : Field → List ℕ → ℕ → Note
  note_at field lits b = record {
    literal = literal_of (slice_index_or lits b 0);
    cycle = cycle;
    bit = channel * field_width field + b;
    name = field_name field;
  }

  abbrev bit_at : Field → ℕ → NamedBit
  bit_at field b = record { cycle = cycle; bit = channel * field_width field + b; name = field_name field }

  bits_named : (field : Field) (lits bs : List ℕ)
      → map bit_named (map (note_at field lits) bs) ≡ map (bit_at field) bs
  bits_named field lits [] = refl
  bits_named field lits (b ∷ bs) = ap (λ (xs : List NamedBit). bit_at field b ∷ xs) (bits_named field lits bs)

  all_named : (fields : List Field) (words : List (List ℕ))
      → map bit_named (field_notes channel cycle fields words) ≡ flat_map (field_bits channel cycle) fields
  all_named [] words = refl
  all_named (field ∷ fields) [] =
      map-append bit_named (bit_notes channel cycle field []) (field_notes channel cycle fields [])
      ∙ (λ i. bits_named field [] (range_with_len 0 (field_width field)) i ++ all_named fields [] i)
  all_named (field ∷ fields) (lits ∷ words) =
      map-append bit_named (bit_notes channel cycle field lits) (field_notes channel cycle fields words)
      ∙ (λ i. bits_named field lits (range_with_len 0 (field_width field)) i ++ all_named fields words i)

-- ---- names that are shown

any_found : (p q : Decl → Bool) (ds : List Decl) (d : Decl) → find p ds ≡ Some d → q d ≡ true
    → list_any q ds ≡ true
any_found p q [] d e h = absurd (true≢false (ap is_none e))
any_found p q (x ∷ xs) d e h = by (p x) (λ f. any_found p q xs d f h) e
  where
    by : (b : Bool) → (find p xs ≡ Some d → list_any q xs ≡ true) → cond b (Some x) (find p xs) ≡ Some d
        → list_any q (x ∷ xs) ≡ true
    by true rest f = or_left (q x) (list_any q xs) (ap q (same_Some x d f) ∙ h)
    by false rest f = or_right (q x) (list_any q xs) (rest f)

no_clock : (c : Class) (k : ℕ) → IsChosenIn c k → not (is_clock_class c) ≡ true
no_clock class.Input k h = refl
no_clock class.EachCycle k h = refl
no_clock class.Once k h = refl
no_clock class.Variable k h = refl
no_clock class.Reset k h = refl
no_clock class.Net k h = refl
no_clock class.Clock k h = absurd h

chosen_shown : (ds : List Decl) (last : ℕ) (x : NamedBit) → IsChosenBit ds last x → is_shown ds x.name ≡ true
chosen_shown ds last x h =
    any_found (λ d. bytes_eq h.decl.name d.name)
    (λ d. not (is_clock_class d.class) && is_cell d.name d.words x.name) ds h.decl h.of.declared
    (and_from (not (is_clock_class h.decl.class)) (is_cell h.decl.name h.decl.words x.name)
    (no_clock h.decl.class x.cycle h.chosen) h.of.cell)

variables_shown : (ds : List Decl) (last low : ℕ) (notes : List Note) → AreOfVariables ds last low notes
    → AllByRecursion (λ (note : Note). is_shown ds note.name ≡ true) notes
variables_shown ds last low [] h = tt
variables_shown ds last low (note ∷ notes) h = (
  chosen_shown ds last (bit_named note) h.0.bit,
  variables_shown ds last h.0.variable notes h.1,
)

-- a map in which one name alone has another number than in the map without any
abbrev none_has : Values
none_has text = 0

abbrev one_has : List ℕ → Values
one_has name text = if bytes_eq name text then 1 else 0

cells_agree : (name : List ℕ) (ts : List (List ℕ)) → contains_name ts name ≡ false
    → Each (λ text. none_has text ≡ one_has name text) ts
cells_agree name [] h = tt
cells_agree name (t ∷ ts) h =
    let q = or_parts (bytes_eq name t) (contains_name ts name) h in
    (sym (ap (λ b. if b then 1 else 0) q.0), cells_agree name ts q.1)

agree_at : (name : List ℕ) (d : Decl) (c : Class)
    → (not (is_clock_class c) && is_cell d.name d.words name) ≡ false → AgreesAt none_has (one_has name) d c
agree_at name d class.Clock h = tt
agree_at name d class.Input h = cells_agree name (cells d) h
agree_at name d class.Reset h = cells_agree name (cells d) h
agree_at name d class.EachCycle h = cells_agree name (cells d) h
agree_at name d class.Once h = cells_agree name (cells d) h
agree_at name d class.Net h = cells_agree name (cells d) h
agree_at name d class.Variable h = cells_agree name (cells d) h

agree_else : (name : List ℕ) (ps : List Part) → is_shown (decls_of ps) name ≡ false
    → Agrees ps none_has (one_has name)
agree_else name [] h = tt
agree_else name (declares d ∷ ps) h =
    let q = or_parts (not (is_clock_class d.class) && is_cell d.name d.words name) (is_shown (decls_of ps) name) h in
    (agree_at name d d.class q.0, agree_else name ps q.1)
agree_else name (equation ts l ss e ∷ ps) h = agree_else name ps h
agree_else name (combinational ss body ∷ ps) h = agree_else name ps h
agree_else name (clocked ss body ∷ ps) h = agree_else name ps h
agree_else name (starts ss l e ∷ ps) h = agree_else name ps h

declared_shown : (ps : List Part) (field : Field) → IsDeclared ps field
    → is_shown (decls_of ps) (field_name field) ≡ true
declared_shown ps field h = by (is_shown (decls_of ps) name) refl
  where
    name : List ℕ
    name = field_name field

    by : (b : Bool) → is_shown (decls_of ps) name ≡ b → is_shown (decls_of ps) name ≡ true
    by true e = e
    by false e =
        let zero_is_one : 0 ≡ 1 =
        h none_has (one_has name) (agree_else name ps e)
        ∙ ap (λ b. if b then 1 else 0) ((bytes_eq-Decides name name).1 refl) in
        absurd (omega (arith, zero_is_one))

all_declared : (ps : List Part) (fields : List Field) → AllByRecursion (IsDeclared ps) fields
    → AllByRecursion (λ (field : Field). is_shown (decls_of ps) (field_name field) ≡ true) fields
all_declared ps [] h = tt
all_declared ps (field ∷ fields) h = (declared_shown ps field h.0, all_declared ps fields h.1)

module _ (ds : List Decl) (channel cycle : ℕ) where
  abbrev IsShown : Note → Type 0
  IsShown note = is_shown ds note.name ≡ true

  bits_shown : (field : Field) (lits bs : List ℕ) → is_shown ds (field_name field) ≡ true
      → AllByRecursion IsShown (map (note_at channel cycle field lits) bs)
  bits_shown field lits [] h = tt
  bits_shown field lits (b ∷ bs) h = (h, bits_shown field lits bs h)

  fields_shown : (fields : List Field) (words : List (List ℕ))
      → AllByRecursion (λ (field : Field). is_shown ds (field_name field) ≡ true) fields
      → AllByRecursion IsShown (field_notes channel cycle fields words)
  fields_shown [] words h = tt
  fields_shown (field ∷ fields) [] h =
      append IsShown (bit_notes channel cycle field []) (field_notes channel cycle fields [])
      (bits_shown field [] (range_with_len 0 (field_width field)) h.0) (fields_shown fields [] h.1)
  fields_shown (field ∷ fields) (lits ∷ words) h =
      append IsShown (bit_notes channel cycle field lits) (field_notes channel cycle fields words)
      (bits_shown field lits (range_with_len 0 (field_width field)) h.0) (fields_shown fields words h.1)

-- ---- all notes

pub in_form : NotesAreInForm
in_form ps net names channels wants port bits channel cycle words loaded are =
    let own = of_choices ps net names loaded.lowered.sources cycle bits are in
    let chosen = choice_notes names bits in
    let fields = field_notes channel cycle channel_fields words in
    let declared = front (IsDeclared ps) channel_fields (probed_fields wants) loaded.declared in
    record {
      variables = chosen;
      fields = fields;
      notes_are = refl;
      of_variables = own;
      of_fields = all_named channel cycle channel_fields words;
      shown =
          append (IsShown (decls_of ps) channel cycle) chosen fields
          (variables_shown (decls_of ps) cycle 0 chosen own)
          (fields_shown (decls_of ps) channel cycle channel_fields words (all_declared ps channel_fields declared));
    }
