-- Meaning: Which of two places in a text comes first. Rule of this project.
use Rattle.std.specs.Prelude.{◌==◌, Bool, ◌&&◌, ◌||◌, nat_lt, Option, Some, None, if◌then◌else◌}
use Rattle.fv_text.specs.declared.pos.Pos.{Pos}

-- places compare by file, then line, then column
abbrev pub is_earlier : Pos → Pos → Bool
is_earlier p q = nat_lt p.file q.file ||
    ((p.file == q.file) && (nat_lt p.line q.line || ((p.line == q.line) && nat_lt p.col q.col)))

-- the earlier of two places that may be there
abbrev pub earlier_place : Option Pos → Option Pos → Option Pos
earlier_place None q = q
earlier_place (Some p) None = Some p
earlier_place (Some p) (Some q) = if is_earlier q p then Some q else Some p
