-- No name in a note has an end of line, where the names of the net are graphic.
use Rattle.std.specs.Prelude.{◌≡◌, refl, ℕ, zero, suc, ◌+◌, ◌*◌, ◌==◌, Bool, true, false, not, List, [], ◌∷◌, ◌++◌, map, Option}
use Rattle.std.specs.Prelude.{All, Some, None, slice_get, slice_index, slice_index_or}
use Rattle.std.specs.List.{AllByRecursion, list_all, range_with_len}
use Rattle.std.proofs.Common.{arith, subst}
use Rattle.std.proofs.lemmas.Bool.{and_from, false≢true}
use Rattle.std.proofs.lemmas.Bool.Decides.{nat_tests}
use Rattle.std.proofs.lemmas.List.Elements.{All-weaker, recursion_from_All}
use Rattle.vl_mean.specs.FlatLaw.{is_graphic}
use Rattle.wn_net.specs.declared.names.NetName.{NetName}
use Rattle.wn_net.specs.declared.names.Names.{Names}
use Rattle.wn_net.specs.declared.names.Spot.{Spot}
use Rattle.vl_lower_spec.specs.Graphic.{AreGraphic}
use Rattle.vl_lower_spec.specs.Maps.{cells_named, text_of}
use Rattle.vl_lower_spec.proofs.Texts.{IsShown, Shown, cells_shown}
use Rattle.cnf_text.specs.Dimacs.{HasNoEnd}
use Rattle.bb_blast.specs.declared.places.Placed.{Placed}
use Rattle.bm_unroll.specs.declared.frames.Source.{Source}
use Rattle.bm_unroll.specs.declared.frames.Source.TheVariants as s
use Rattle.bm_decide.specs.declared.verdict.ChoiceBits.{ChoiceBits}
use Rattle.rvfi_port.specs.declared.field.Field.{Field}
use Rattle.rvfi_port.specs.declared.field.Field.TheVariants as f
use Rattle.rvfi_port.specs.Fields.{channel_fields, field_name, field_width}
use Rattle.ck_design.specs.declared.note.Note.{Note}
use Rattle.ck_design.specs.Notes.{bit_notes, choice_notes, field_notes, literal_of, notes_of, source_note, spot_note}
use Rattle.ck_design.specs.Notes.{word_note}

-- the name has no end of line
abbrev pub NamesOneLine : Note → Type 0
NamesOneLine note = HasNoEnd note.name

-- ---- graphic bytes

no_end : (c : ℕ) → is_graphic c ≡ true → not (c == 10) ≡ true
no_end c h = by (c == 10) refl
  where
    by : (b : Bool) → (c == 10) ≡ b → not b ≡ true
    by false e = refl
    by true e =
        let q : c ≡ 10 = grind (arith, nat_tests) in
        let g : is_graphic 10 ≡ true = subst (λ n. is_graphic n ≡ true) q h in
        absurd (false≢true g)

one_line : (text : List ℕ) → Shown text → HasNoEnd text
one_line [] h = refl
one_line (c ∷ cs) h =
    and_from (not (c == 10)) (list_all (λ b. not (b == 10)) cs) (no_end c h.0) (one_line cs h.1)

-- ---- names of entries, and of words

abbrev HasShown : NetName → Type 0
HasShown x = Shown x.text

name_at : (xs : List NetName) → AllByRecursion HasShown xs → (i : ℕ) → Shown (text_of (slice_get xs i))
name_at [] h zero = tt
name_at [] h (suc i) = tt
name_at (x ∷ xs) h zero = h.0
name_at (x ∷ xs) h (suc i) = name_at xs h.1 i

cells_at : (xs : List NetName) → AllByRecursion HasShown xs → (i : ℕ)
    → AllByRecursion Shown (cells_named (slice_get xs i))
cells_at [] h zero = tt
cells_at [] h (suc i) = tt
cells_at (x ∷ xs) h zero = cells_shown x.text x.words h.0
cells_at (x ∷ xs) h (suc i) = cells_at xs h.1 i

word_at : (ts : List (List ℕ)) → AllByRecursion Shown ts → (w : ℕ) → Shown (slice_index_or ts w [])
word_at [] h zero = tt
word_at [] h (suc w) = tt
word_at (t ∷ ts) h zero = h.0
word_at (t ∷ ts) h (suc w) = word_at ts h.1 w

module _ (names : Names) (graphic : AreGraphic names) where
  entries : AllByRecursion HasShown names.list
  entries =
      recursion_from_All HasShown names.list
      (All-weaker (λ (x : NetName). All IsShown x.text) HasShown (λ x h. recursion_from_All IsShown x.text h) names.list
      graphic)

  of_spot : (o : Option Spot) (cycle : ℕ) (p : Placed) → NamesOneLine (spot_note names o cycle p)
  of_spot None cycle p = refl
  of_spot (Some x) cycle p = one_line (text_of (slice_get names.list x.name)) (name_at names.list entries x.name)

  of_word : (m w : ℕ) (p : Placed) → NamesOneLine (word_note names m w p)
  of_word m w p =
      one_line (slice_index_or (cells_named (slice_get names.list (slice_index names.mems m))) w [])
      (word_at (cells_named (slice_get names.list (slice_index names.mems m)))
      (cells_at names.list entries (slice_index names.mems m)) w)

  of_source : (o : Option Source) (p : Placed) → NamesOneLine (source_note names o p)
  of_source None p = of_spot None 0 p
  of_source (Some (s.Each i k)) p = of_spot (slice_get names.inputs i) k p
  of_source (Some (s.Once i)) p = of_spot (slice_get names.inputs i) 0 p
  of_source (Some (s.RegStart r)) p = of_spot (slice_get names.regs r) 0 p
  of_source (Some (s.WordStart m w)) p = of_word m w p

  of_places : (sources : List Source) (ps : List Placed)
      → AllByRecursion NamesOneLine (map (λ p. source_note names (slice_get sources p.source) p) ps)
  of_places sources [] = tt
  of_places sources (p ∷ ps) = (of_source (slice_get sources p.source) p, of_places sources ps)

-- ---- fields

of_field : (field : Field) → HasNoEnd (field_name field)
of_field f.Valid = refl
of_field f.Order = refl
of_field f.Insn = refl
of_field f.Trap = refl
of_field f.Halt = refl
of_field f.Intr = refl
of_field f.Rs1Addr = refl
of_field f.Rs2Addr = refl
of_field f.Rs1Rdata = refl
of_field f.Rs2Rdata = refl
of_field f.RdAddr = refl
of_field f.RdWdata = refl
of_field f.PcRdata = refl
of_field f.PcWdata = refl
of_field f.MemAddr = refl
of_field f.MemRmask = refl
of_field f.MemWmask = refl
of_field f.MemRdata = refl
of_field f.MemWdata = refl
of_field f.ImemAddr = refl
of_field f.ImemData = refl
of_field f.DmemAddr = refl

both : (a b : List Note) → AllByRecursion NamesOneLine a → AllByRecursion NamesOneLine b
    → AllByRecursion NamesOneLine (a ++ b)
both [] b h k = k
both (x ∷ xs) b h k = (h.0, both xs b h.1 k)

module _ (channel cycle : ℕ) where
  of_bits : (field : Field) (lits bs : List ℕ) → AllByRecursion NamesOneLine (map (λ b. record {
    literal = literal_of (slice_index_or lits b 0);
    cycle = cycle;
    bit = channel * field_width field + b;
    name = field_name field;
  }) bs)
  of_bits field lits [] = tt
  of_bits field lits (b ∷ bs) = (of_field field, of_bits field lits bs)

  of_fields : (fields : List Field) (words : List (List ℕ))
      → AllByRecursion NamesOneLine (field_notes channel cycle fields words)
  of_fields [] words = tt
  of_fields (field ∷ fields) [] =
      both (bit_notes channel cycle field []) (field_notes channel cycle fields [])
      (of_bits field [] (range_with_len 0 (field_width field))) (of_fields fields [])
  of_fields (field ∷ fields) (lits ∷ words) =
      both (bit_notes channel cycle field lits) (field_notes channel cycle fields words)
      (of_bits field lits (range_with_len 0 (field_width field))) (of_fields fields words)

-- ---- all notes

pub names_one_line : (names : Names) (bits : ChoiceBits) (channel cycle : ℕ) (words : List (List ℕ))
    → AreGraphic names → AllByRecursion NamesOneLine (notes_of names bits channel cycle words)
names_one_line names bits channel cycle words graphic =
    both (choice_notes names bits) (field_notes channel cycle channel_fields words)
    (of_places names graphic bits.sources bits.places) (of_fields channel cycle channel_fields words)
