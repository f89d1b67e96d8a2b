-- Meaning: What the public calls promise. The macros that are defined: a map from names to texts. IEEE 1364-2005,
-- section 19.3.
use Rattle.std.specs.Prelude.{ℕ, List, if◌then◌else◌, Option, None, Some}
use Rattle.std.specs.Map.{lookup}
use Rattle.std.specs.Option.{option_map}
use Rattle.std.specs.Str.{bytes_eq}
use Rattle.std.specs.Arc.{arc_value}
use Rattle.fv_text.specs.declared.token.Token.{Token}
use Rattle.vl_prep.specs.declared.macros.Macros.{Macros}

abbrev pub Held : Type 0
Held = List ℕ → Option (List Token)

abbrev pub joined : {X : Type 0} → Option (Option X) → Option X
joined None = None
joined (Some x) = x

-- the text of each macro that is defined
abbrev pub held : Macros → Held
held macros name =
    option_map (λ text. arc_value text) (joined (lookup (λ key. bytes_eq name key.items) macros.texts.entries))

-- the same macros but for this name, which has this text, or none
abbrev pub with_text : List ℕ → Option (List Token) → Held → Held
with_text name text macros other = if bytes_eq name other then text else macros other
