-- Between functions: The notes of a certificate part by part (rule of this project).
use Rattle.std.specs.Prelude.{ℕ, ◌+◌, ◌*◌, List, map, slice_get, slice_index_or}
use Rattle.std.specs.List.{range_with_len}
use Rattle.wn_net.specs.declared.names.Names.{Names}
use Rattle.bb_blast.specs.declared.places.Placed.{Placed}
use Rattle.bm_unroll.specs.declared.frames.Source.{Source}
use Rattle.rvfi_port.specs.declared.field.Field.{Field}
use Rattle.rvfi_port.specs.Fields.{field_name, field_width}
use Rattle.ck_design.specs.declared.note.Note.{Note}
use Rattle.ck_design.specs.Notes.{literal_of, source_note}

-- of placed bits of these sources
abbrev pub placed_notes : Names → List Source → List Placed → List Note
placed_notes names sources places = map (λ p. source_note names (slice_get sources p.source) p) places

-- of so many bits of a channel's field, from one on
abbrev pub bits_from : ℕ → ℕ → Field → List ℕ → ℕ → ℕ → List Note
bits_from channel cycle field lits from count = map (λ b. record {
  literal = literal_of (slice_index_or lits b 0);
  cycle = cycle;
  bit = channel * field_width field + b;
  name = field_name field;
}) (range_with_len from count)
