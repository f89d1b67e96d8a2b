-- One bit, and one field, more.
use Rattle.std.specs.Prelude.{◌≡◌, refl, ℕ, zero, suc, ◌+◌, ◌-◌, ◌*◌, ◌<◌, ◌≤◌, ◌^◌, List, [], ◌∷◌, ◌++◌, length}
use Rattle.std.specs.Prelude.{slice_index_or}
use Rattle.std.proofs.Common.{ap, sym, ◌∙◌, arith, append_assoc, get_or, drop}
use Rattle.std.proofs.lemmas.List.{append-nil}
use Rattle.std.proofs.lemmas.Nat.{mul-le}
use Rattle.rvfi_port.specs.declared.field.Field.{Field}
use Rattle.rvfi_port.specs.declared.field.Field.TheVariants as f
use Rattle.rvfi_port.specs.Fields.{field_name, field_width}
use Rattle.ck_design.specs.declared.note.Note.{Note}
use Rattle.ck_design.specs.Notes.{bit_notes, field_notes, literal_of}
use Rattle.rvf_judge.specs.NoteLinesParts.{bits_from}

pub few_bits : (field : Field) → field_width field ≤ 64
few_bits f.Valid = omega arith
few_bits f.Order = omega arith
few_bits f.Insn = omega arith
few_bits f.Trap = omega arith
few_bits f.Halt = omega arith
few_bits f.Intr = omega arith
few_bits f.Rs1Addr = omega arith
few_bits f.Rs2Addr = omega arith
few_bits f.Rs1Rdata = omega arith
few_bits f.Rs2Rdata = omega arith
few_bits f.RdAddr = omega arith
few_bits f.RdWdata = omega arith
few_bits f.PcRdata = omega arith
few_bits f.PcWdata = omega arith
few_bits f.MemAddr = omega arith
few_bits f.MemRmask = omega arith
few_bits f.MemWmask = omega arith
few_bits f.MemRdata = omega arith
few_bits f.MemWdata = omega arith
few_bits f.ImemAddr = omega arith
few_bits f.ImemData = omega arith
few_bits f.DmemAddr = omega arith

pub product_small : (channel width : ℕ) → channel < 2 ^ 26 → width ≤ 64 → channel * width ≤ 4294967232
product_small channel width few small = mul-le channel width 67108863 64 (omega (arith, few)) small

pub bits_step : (channel cycle : ℕ) (field : Field) (lits : List ℕ) (before after all : List Note) (i count : ℕ)
    (y : Note) → i < count → before ++ bits_from channel cycle field lits i (count - i) ≡ all
    → y ≡ record {
      literal = literal_of (slice_index_or lits i 0);
      cycle = cycle;
      bit = channel * field_width field + i;
      name = field_name field;
    } → after ≡ before ++ y ∷ []
    → after ++ bits_from channel cycle field lits (i + 1) (count - (i + 1)) ≡ all
bits_step channel cycle field lits before after all i count y below own is more =
    let rest = bits_from channel cycle field lits (i + 1) (count - (i + 1)) in
    let left : count - i ≡ suc (count - (i + 1)) = omega arith in
    ap (λ z. z ++ rest) (more ∙ ap (λ z. before ++ z ∷ []) is)
    ∙ append_assoc before (record {
      literal = literal_of (slice_index_or lits i 0);
      cycle = cycle;
      bit = channel * field_width field + i;
      name = field_name field;
    } ∷ []) rest
    ∙ ap (λ z. before ++ bits_from channel cycle field lits i z) (sym left) ∙ own

pub bits_end : (channel cycle : ℕ) (field : Field) (lits : List ℕ) (before all : List Note) (i count : ℕ) → count ≤ i
    → before ++ bits_from channel cycle field lits i (count - i) ≡ all → before ≡ all
bits_end channel cycle field lits before all i count past own =
    let none : count - i ≡ 0 = omega arith in
    sym (ap (λ z. before ++ bits_from channel cycle field lits i z) none ∙ append-nil before) ∙ own

-- ---- the fields from a place on

-- past the words there are none
split_none : (channel cycle i : ℕ) (fields : List Field) (field : Field) → i < length fields
    → field ≡ get_or fields i field
    → field_notes channel cycle (drop i fields) []
    ≡ bit_notes channel cycle field [] ++ field_notes channel cycle (drop (suc i) fields) []
split_none channel cycle i [] field less is = absurd (omega (arith, less))
split_none channel cycle zero (x ∷ xs) field less is =
    ap (λ z. bit_notes channel cycle z [] ++ field_notes channel cycle xs []) (sym is)
split_none channel cycle (suc i) (x ∷ xs) field less is =
    split_none channel cycle i xs field (omega (arith, less)) is

split : (channel cycle i : ℕ) (fields : List Field) (words : List (List ℕ)) (field : Field) → i < length fields
    → field ≡ get_or fields i field
    → field_notes channel cycle (drop i fields) (drop i words)
    ≡ bit_notes channel cycle field (slice_index_or words i [])
    ++ field_notes channel cycle (drop (suc i) fields) (drop (suc i) words)
split channel cycle i [] words field less is = absurd (omega (arith, less))
split channel cycle zero (x ∷ xs) [] field less is =
    ap (λ z. bit_notes channel cycle z [] ++ field_notes channel cycle xs []) (sym is)
split channel cycle zero (x ∷ xs) (w ∷ ws) field less is =
    ap (λ z. bit_notes channel cycle z w ++ field_notes channel cycle xs ws) (sym is)
split channel cycle (suc i) (x ∷ xs) [] field less is =
    split_none channel cycle i xs field (omega (arith, less)) is
split channel cycle (suc i) (x ∷ xs) (w ∷ ws) field less is =
    split channel cycle i xs ws field (omega (arith, less)) is

pub fields_step : (before after all : List Note) (channel cycle i : ℕ) (fields : List Field) (words : List (List ℕ))
    (field : Field) (word : List ℕ) → i < length fields → field ≡ get_or fields i field
    → before ++ field_notes channel cycle (drop i fields) (drop i words) ≡ all
    → word ≡ slice_index_or words i [] → after ≡ before ++ bit_notes channel cycle field word
    → after ++ field_notes channel cycle (drop (i + 1) fields) (drop (i + 1) words) ≡ all
fields_step before after all channel cycle i fields words field word below here own is more =
    let rest = field_notes channel cycle (drop (i + 1) fields) (drop (i + 1) words) in
    let next : i + 1 ≡ suc i = omega arith in
    ap (λ z. z ++ rest) (more ∙ ap (λ z. before ++ bit_notes channel cycle field z) is)
    ∙ append_assoc before (bit_notes channel cycle field (slice_index_or words i [])) rest
    ∙ ap (λ j. before ++ (bit_notes channel cycle field (slice_index_or words i [])
    ++ field_notes channel cycle (drop j fields) (drop j words))) next
    ∙ ap (λ z. before ++ z) (sym (split channel cycle i fields words field below here)) ∙ own

none_left : (channel cycle i : ℕ) (fields : List Field) (words : List (List ℕ)) → length fields ≤ i
    → field_notes channel cycle (drop i fields) words ≡ []
none_left channel cycle zero [] words past = refl
none_left channel cycle (suc i) [] words past = refl
none_left channel cycle zero (x ∷ xs) words past = absurd (omega (arith, past))
none_left channel cycle (suc i) (x ∷ xs) words past = none_left channel cycle i xs words (omega (arith, past))

pub fields_end : (before all : List Note) (channel cycle i : ℕ) (fields : List Field) (words : List (List ℕ))
    → length fields ≤ i → before ++ field_notes channel cycle (drop i fields) (drop i words) ≡ all → before ≡ all
fields_end before all channel cycle i fields words past own =
    sym (ap (λ z. before ++ z) (none_left channel cycle i fields (drop i words) past) ∙ append-nil before) ∙ own
