-- Meaning: The lines of notes: which words they have (rule of this project).
use Rattle.std.specs.Prelude.{ℕ, List, ◌++◌, codes, decimal}
use Rattle.std.specs.Fmt.{signed_decimal}
use Rattle.ck_design.specs.declared.note.Note.{Note}
use Rattle.ck_design.specs.declared.note.NoteLiteral.{NoteLiteral}
use Rattle.ck_design.specs.declared.note.NoteLiteral.TheVariants as literal

-- a literal of the clauses in print; the constants are `F` and `T`
abbrev pub literal_word : NoteLiteral → List ℕ
literal_word literal.Zero = codes "F"
literal_word literal.One = codes "T"
literal_word (literal.Clause l) = signed_decimal l

-- the literal, its cycle, its bit and its name, parted by blanks
abbrev pub note_text : Note → List ℕ
note_text note =
    literal_word note.literal ++ codes " " ++ decimal note.cycle ++ codes " " ++ decimal note.bit ++ codes " "
    ++ note.name
