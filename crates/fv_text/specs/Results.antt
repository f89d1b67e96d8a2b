-- Meaning: What comes of an answer that is no refusal. Rule of this project.
use Rattle.std.specs.Prelude.{Result, Ok, Err}

-- what comes next is made of the value; a refusal stays
abbrev pub and_then : {X Y F : Type 0} → Result X F → (X → Result Y F) → Result Y F
and_then (Ok x) next = next x
and_then (Err e) next = Err e
