-- Meaning: The number of a word, of which the two halves are kept apart so that a word takes 24 bytes. Rule of this
-- project.
use Rattle.std.specs.Prelude.{ℕ, ◌+◌, ◌*◌, ◌^◌}
use Rattle.fv_text.specs.declared.word.Word.{Word}

abbrev pub number : Word → ℕ
number word = word.high * 2 ^ 64 + word.low
