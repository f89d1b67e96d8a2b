-- Meaning: Places in a text: lines and columns count from 1, columns in bytes. A number that would pass 2^32 - 1 is
-- 2^32 - 1 (rule of this project).
use Rattle.std.specs.Prelude.{ℕ, ◌+◌, ◌-◌, ◌^◌, min, if◌then◌else◌, ◌==◌, List, [], ◌∷◌}
use Rattle.fv_text.specs.declared.pos.Pos.{Pos}

abbrev pub counted : ℕ → ℕ
counted n = min (n + 1) (2 ^ 32 - 1)

-- the place behind a byte
abbrev pub place_behind : Pos → ℕ → Pos
place_behind p b =
    record p { line = if b == 10 then counted p.line else p.line; col = if b == 10 then 1 else counted p.col }

-- the place behind a text
abbrev pub place_after : Pos → List ℕ → Pos
place_after p [] = p
place_after p (b ∷ bs) = place_after (place_behind p b) bs

-- where a text begins
abbrev pub start_of : ℕ → ℕ → Pos
start_of file line = record { file = file; line = line; col = 1 }
