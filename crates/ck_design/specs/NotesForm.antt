-- Meaning: How the notes of a certificate stand: first the bits that are chosen, by rising variables, then the bits of
-- a channel's fields in a cycle, in the order of the table (rule of this project).
use Rattle.std.specs.Prelude.{◌≡◌, ℕ, ◌+◌, ◌*◌, ◌<◌, ◌≤◌, Bool, true, not, ◌&&◌, List, [], ◌∷◌, ◌++◌, map, pos}
use Rattle.std.specs.List.{AllByRecursion, flat_map, list_any, range_with_len}
use Rattle.vl_size.specs.declared.decl.Class.{Class}
use Rattle.vl_size.specs.declared.decl.Class.TheVariants as class
use Rattle.vl_size.specs.declared.decl.Decl.{Decl}
use Rattle.vl_mean.specs.Cells.{is_cell}
use Rattle.vl_mean.specs.Parts.{Part}
use Rattle.vl_mean.specs.Scopes.{is_clock_class}
use Rattle.vl_mean_flat.specs.Flattened.{decls_of}
use Rattle.vl_flow_spec.specs.Reads.{IsCellOf}
use Rattle.wn_net.specs.declared.names.Names.{Names}
use Rattle.wn_net.specs.Net.{Netlist}
use Rattle.rvfi_port.specs.declared.field.Field.{Field}
use Rattle.rvfi_port.specs.declared.port.Port.{Port}
use Rattle.rvfi_port.specs.declared.port.Wants.{Wants}
use Rattle.rvfi_port.specs.Fields.{channel_fields, field_name, field_width}
use Rattle.bm_decide.specs.declared.verdict.ChoiceBits.{ChoiceBits}
use Rattle.bm_decide.specs.Verdicts.{AreBitsOf}
use Rattle.ck_design.specs.Loaded.{IsLoaded}
use Rattle.ck_design.specs.Notes.{notes_of}
use Rattle.ck_design.specs.declared.note.Note.{Note}
use Rattle.ck_design.specs.declared.note.NoteLiteral.TheVariants as literal

-- ---- names

-- a bit of a name in a cycle
pub record NamedBit : Type 0 where
  pub cycle : ℕ
  pub bit : ℕ
  pub name : List ℕ

abbrev pub bit_named : Note → NamedBit
bit_named note = record { cycle = note.cycle; bit = note.bit; name = note.name }

-- the name is that of a declaration but the clock, or of a word of a memory: one that a trace shows
abbrev pub is_shown : List Decl → List ℕ → Bool
is_shown ds name = list_any (λ d. not (is_clock_class d.class) && is_cell d.name d.words name) ds

-- ---- bits that are chosen

-- In which cycles names of a class are chosen: inputs of the top module, and names that are free in each cycle, in any
-- one; names that are free once, and what variables have at first, in the first one. Others aren't.
abbrev pub IsChosenIn : Class → ℕ → Type 0
IsChosenIn class.Input cycle = Unit {0}
IsChosenIn class.EachCycle cycle = Unit {0}
IsChosenIn class.Once cycle = cycle ≡ 0
IsChosenIn class.Variable cycle = cycle ≡ 0
IsChosenIn class.Reset cycle = ⊥
IsChosenIn class.Net cycle = ⊥
IsChosenIn class.Clock cycle = ⊥

-- a bit of a declared name, in a cycle up to the last one in which it is chosen
pub record IsChosenBit (ds : List Decl) (last : ℕ) (x : NamedBit) : Type 0 where
  pub decl : Decl
  pub of : IsCellOf ds decl x.name
  pub bit : x.bit < decl.width
  pub cycle : x.cycle ≤ last
  pub chosen : IsChosenIn decl.class x.cycle

-- the note says which of these a variable is, above another one
pub record IsOfVariable (ds : List Decl) (last low : ℕ) (note : Note) : Type 0 where
  pub variable : ℕ
  pub above : low < variable
  pub literal_is : note.literal ≡ literal.Clause (pos variable)
  pub bit : IsChosenBit ds last (bit_named note)

-- notes of variables that rise from above one on, so that each has one note at most
abbrev pub AreOfVariables : List Decl → ℕ → ℕ → List Note → Type 0
AreOfVariables ds last low [] = Unit {0}
AreOfVariables ds last low (note ∷ notes) =
    (own : IsOfVariable ds last low note) × AreOfVariables ds last own.variable notes

-- ---- bits of fields

-- the bits of a channel's field in a cycle, the lowest first
abbrev pub field_bits : ℕ → ℕ → Field → List NamedBit
field_bits channel cycle field = map (λ b. record {
  cycle = cycle;
  bit = channel * field_width field + b;
  name = field_name field;
}) (range_with_len 0 (field_width field))

-- ---- all notes

pub record AreInForm (ds : List Decl) (channel cycle : ℕ) (notes : List Note) : Type 0 where
  pub variables : List Note
  pub fields : List Note
  pub notes_are : notes ≡ variables ++ fields
  pub of_variables : AreOfVariables ds cycle 0 variables
  pub of_fields : map bit_named fields ≡ flat_map (field_bits channel cycle) channel_fields
  pub shown : AllByRecursion (λ note. is_shown ds note.name ≡ true) notes

-- the notes of a certificate stand so
abbrev pub NotesAreInForm : Type 0
NotesAreInForm =
    (ps : List Part) (net : Netlist) (names : Names) (channels : ℕ) (wants : Wants) (port : Port) (bits : ChoiceBits)
    (channel cycle : ℕ) (words : List (List ℕ)) → IsLoaded ps net names channels wants port
    → AreBitsOf net cycle bits → AreInForm (decls_of ps) channel cycle (notes_of names bits channel cycle words)
