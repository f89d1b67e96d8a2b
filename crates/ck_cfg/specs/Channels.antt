-- Meaning: How many instructions may retire in one cycle: what the line of `nret` states, wherever it stands. Rule of
-- this project.
use Rattle.std.specs.Prelude.{ℕ, Bool, false, if◌then◌else◌, List, [], ◌∷◌, Option, Some, None, unwrap_or, codes}
use Rattle.std.specs.Option.{option_or}
use Rattle.std.specs.Str.{bytes_eq}
use Rattle.fv_lines.specs.Words.{words}
use Rattle.ck_cfg.specs.Line.{Line, section_begun}
use Rattle.ck_cfg.specs.Options.{nret_named}

-- what the values of `nret` state; 1 where they are refused
abbrev pub nret_said : List (List ℕ) → ℕ
nret_said (value ∷ []) = unwrap_or (nret_named value) 1
nret_said values = 1

-- what the words of a line of `[options]` state; nothing where the key is another one
abbrev pub nret_in : List (List ℕ) → Option ℕ
nret_in [] = None
nret_in (key ∷ values) = if bytes_eq key (codes "nret") then Some (nret_said values) else None

-- what a line states that stands in `[options]`, or doesn't
abbrev pub nret_at : Bool → List ℕ → Option ℕ
nret_at inside text = if inside then nret_in (words text) else None

-- whether the lines behind one that begins a section of this name, or none, stand in `[options]`
abbrev pub stays_inside : Bool → Option (List ℕ) → Bool
stays_inside inside None = inside
stays_inside inside (Some name) = bytes_eq name (codes "options")

-- what the first of the lines states that states something, where the first line stands in `[options]` or doesn't
abbrev pub nret_among : Bool → List Line → Option ℕ
nret_among inside [] = None
nret_among inside (l ∷ ls) = option_or (nret_at inside l.text) (nret_among (stays_inside inside (section_begun l.text)) ls)

-- the number of channels: what the first line of `nret` states, also behind lines that are refused; 1 where there is
-- none
abbrev pub stated_nret : List Line → ℕ
stated_nret ls = unwrap_or (nret_among false ls) 1
