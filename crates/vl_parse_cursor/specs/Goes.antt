-- Between functions: What the public calls promise. How what a function answers goes with reading by the grammar. Rule
-- of this project.
use Rattle.std.specs.Prelude.{◌≡◌, Result, Ok, Err}
use Rattle.vl_parse_grammar.specs.Machine.{syntax, deep}
use Rattle.vl_parse_grammar.specs.Grammar.{Outcome}
use Rattle.vl_parse_cursor.specs.declared.stop.Stop.{Stop}
use Rattle.vl_parse_cursor.specs.declared.stop.Stop.TheVariants as stop

-- reading ends where the function stops
abbrev pub Ends : Stop → Outcome → Type 0
Ends (stop.Wrong left) r = r ≡ Err (syntax left)
Ends (stop.TooDeep left) r = r ≡ Err (deep left)
Ends stop.Memory r = Unit {0}

-- reading comes to what the function answers, or ends where it stops
abbrev pub Goes : {X : Type 0} → (X → Outcome) → Result X Stop → Outcome → Type 0
Goes view (Ok x) r = r ≡ view x
Goes view (Err e) r = Ends e r

-- want of memory is no fault of the text: it goes with every reading
abbrev pub IsMemory : Stop → Type 0
IsMemory e = (r : Outcome) → Ends e r

-- it goes with readings that end like this
abbrev pub Means : Stop → Outcome → Type 0
Means e ended = (r : Outcome) → r ≡ ended → Ends e r
