-- Tokens whose names are names, without their places.
use Rattle.std.proofs.Common.{◌≡◌, ℕ, Bool, true, false, List, [], ◌∷◌, ◌++◌, Option, Some, None, refl, ap, ◌∙◌}
use Rattle.fv_text.specs.Named.{is_well_named}
use Rattle.fv_text.specs.declared.kind.Kind.{Kind}
use Rattle.vl_parse_grammar.specs.Machine as machine
use Rattle.vl_parse_grammar.specs.Machine.{Move, take, pop, bad, symbols, free_step}
use Rattle.vl_parse_grammar.specs.Grammar as grammar
use Rattle.vl_parse_grammar.specs.Grammar.{Rule, Moves, expand, ends}
use Rattle.vl_parse_grammar.proofs.Runs as runs

abbrev pub Named : Type 0
Named = (kind : Kind) × (is_well_named kind ≡ true)

abbrev pub on : Rule → Named → Moves
on x t = expand x t.0

abbrev pub plain : List Named → List Kind
plain [] = []
plain (t ∷ ts) = t.0 ∷ plain ts

abbrev pub accepts : List Rule → List Named → Bool
accepts xs ts = machine.accepts on ends xs ts

abbrev pub Derives : ℕ → Rule → List Named → List Named → Type 0
Derives d x ts rest = runs.Derives on ends d x ts rest

pub plain_both : (ts us : List Named) → plain (ts ++ us) ≡ plain ts ++ plain us
plain_both [] us = refl
plain_both (t ∷ ts) us = ap (λ r. t.0 ∷ r) (plain_both ts us)

-- a step looks at the kind alone
pub step_plain : (xs : List Rule) (t : Named) → free_step on xs t ≡ free_step expand xs t.0
step_plain [] t = refl
step_plain (x ∷ xs) t = by_move (expand x t.0) (step_plain xs t)
  where
    by_move : (m : Moves) → free_step on xs t ≡ free_step expand xs t.0
        → elim m as (λ _. Option (List Rule))
        [ take opened row ↦ Some (symbols row ++ xs) | pop ↦ free_step on xs t | bad ↦ None ]
        ≡ elim m as (λ _. Option (List Rule))
        [ take opened row ↦ Some (symbols row ++ xs) | pop ↦ free_step expand xs t.0 | bad ↦ None ]
    by_move (take opened row) h = refl
    by_move pop h = h
    by_move bad h = refl

pub accepts_plain : (xs : List Rule) (ts : List Named) → accepts xs ts ≡ grammar.accepts xs (plain ts)
accepts_plain xs [] = refl
accepts_plain xs (t ∷ ts) =
    ap (λ o. elim o [ None ↦ false | Some j ↦ accepts j ts ]) (step_plain xs t)
    ∙ by_step (free_step expand xs t.0) (λ j. accepts_plain j ts)
  where
    by_step : (o : Option (List Rule)) → ((j : List Rule) → accepts j ts ≡ grammar.accepts j (plain ts))
        → elim o as (λ _. Bool) [ None ↦ false | Some j ↦ accepts j ts ]
        ≡ elim o as (λ _. Bool) [ None ↦ false | Some j ↦ grammar.accepts j (plain ts) ]
    by_step None h = refl
    by_step (Some j) h = h j
