-- Between functions: The notes of a certificate: which bit of which name a literal is, and in which cycle (rule of
-- this project).
use Rattle.std.specs.Prelude.{ℕ, ◌+◌, ◌*◌, ◌/◌, ◌==◌, if◌then◌else◌, pos, neg_ℤ, List, [], ◌∷◌, ◌++◌, map, Option}
use Rattle.std.specs.Prelude.{Some, None}
use Rattle.std.specs.Prelude.{slice_get, slice_index, slice_index_or}
use Rattle.std.specs.List.{range_with_len}
use Rattle.wn_net.specs.declared.names.Names.{Names}
use Rattle.wn_net.specs.declared.names.Spot.{Spot}
use Rattle.vl_lower_spec.specs.Maps.{cells_named, text_of}
use Rattle.bb_aig.specs.Graph.{is_negated}
use Rattle.bb_blast.specs.declared.places.Placed.{Placed}
use Rattle.bm_unroll.specs.declared.frames.Source.{Source}
use Rattle.bm_unroll.specs.declared.frames.Source.TheVariants as s
use Rattle.rvfi_port.specs.declared.field.Field.{Field}
use Rattle.rvfi_port.specs.Fields.{channel_fields, field_name, field_width}
use Rattle.bm_decide.specs.declared.verdict.ChoiceBits.{ChoiceBits}
use Rattle.ck_design.specs.declared.note.Note.{Note}
use Rattle.ck_design.specs.declared.note.NoteLiteral.{NoteLiteral}
use Rattle.ck_design.specs.declared.note.NoteLiteral.TheVariants as literal

-- A graph's literal in clauses: variable n is node n, and an odd literal is the complement. Node 0 is no variable, its
-- two literals are 0 and 1.
abbrev pub literal_of : ℕ → NoteLiteral
literal_of lit =
    if lit == 0 then literal.Zero else if lit == 1 then literal.One
    else literal.Clause (if is_negated lit then neg_ℤ (pos (lit / 2)) else pos (lit / 2))

-- the bit of an input or of a register, by the name that it is of
abbrev pub spot_note : Names → Option Spot → ℕ → Placed → Note
spot_note names None cycle p = record { literal = literal.Clause (pos p.node); cycle = cycle; bit = p.bit; name = [] }
spot_note names (Some spot) cycle p = record {
  literal = literal.Clause (pos p.node);
  cycle = cycle;
  bit = slice_index spot.bits p.bit;
  name = text_of (slice_get names.list spot.name);
}

-- the bit of a memory's word in the first cycle
abbrev pub word_note : Names → ℕ → ℕ → Placed → Note
word_note names m w p = record {
  literal = literal.Clause (pos p.node);
  cycle = 0;
  bit = p.bit;
  name = slice_index_or (cells_named (slice_get names.list (slice_index names.mems m))) w [];
}

-- the bit of a source; what is chosen once, or at the start, is seen in the first cycle
abbrev pub source_note : Names → Option Source → Placed → Note
source_note names None p = spot_note names None 0 p
source_note names (Some (s.Each i k)) p = spot_note names (slice_get names.inputs i) k p
source_note names (Some (s.Once i)) p = spot_note names (slice_get names.inputs i) 0 p
source_note names (Some (s.RegStart r)) p = spot_note names (slice_get names.regs r) 0 p
source_note names (Some (s.WordStart m w)) p = word_note names m w p

-- one for each bit that is placed
abbrev pub choice_notes : Names → ChoiceBits → List Note
choice_notes names bits = map (λ p. source_note names (slice_get bits.sources p.source) p) bits.places

-- one for each bit of a channel's field, the lowest first
abbrev pub bit_notes : ℕ → ℕ → Field → List ℕ → List Note
bit_notes channel cycle field lits = map (λ b. record {
  literal = literal_of (slice_index_or lits b 0);
  cycle = cycle;
  bit = channel * field_width field + b;
  name = field_name field;
}) (range_with_len 0 (field_width field))

-- one for each bit of each of the fields, whose literals these are
abbrev pub field_notes : ℕ → ℕ → List Field → List (List ℕ) → List Note
field_notes channel cycle [] words = []
field_notes channel cycle (field ∷ fields) [] =
    bit_notes channel cycle field [] ++ field_notes channel cycle fields []
field_notes channel cycle (field ∷ fields) (lits ∷ words) =
    bit_notes channel cycle field lits ++ field_notes channel cycle fields words

-- of the choices, and of the fields of a channel in a cycle
abbrev pub notes_of : Names → ChoiceBits → ℕ → ℕ → List (List ℕ) → List Note
notes_of names bits channel cycle words =
    choice_notes names bits ++ field_notes channel cycle channel_fields words
