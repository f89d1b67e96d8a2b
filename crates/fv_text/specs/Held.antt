-- Between functions: The bytes of a text, whoever holds them. Rule of this project.
use Rattle.std.specs.Prelude.{ℕ, List}
use Rattle.std.specs.Arc.{arc_value}
use Rattle.fv_text.specs.declared.held.Held.{Held}
use Rattle.fv_text.specs.declared.held.Held.TheVariants.{Alone, Shared}

abbrev pub held : Held → List ℕ
held (Alone bytes) = bytes.items
held (Shared bytes) = (arc_value bytes).items
