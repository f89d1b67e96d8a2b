-- What sources spell.
use Rattle.std.proofs.Common.{◌≡◌, ℕ, List, [], ◌∷◌, ◌++◌, length, refl, sym, subst, arith}
use Rattle.std.specs.Prelude.{All, Ok}
use Rattle.fv_text.specs.declared.pos.Pos.{Pos}
use Rattle.fv_text.specs.declared.token.Token.{Token}
use Rattle.vl_tree.specs.declared.source.Module.{Module}
use Rattle.vl_tree.specs.Phrase.{Spells, each}
use Rattle.vl_tree.specs.ItemSpelling.{spell_module, spell_modules}
use Rattle.vl_tree.specs.WellFormed.{IsModule, HasPlace}
use Rattle.vl_parse_grammar.specs.Grammar.{read, modules}
use Rattle.vl_parse_cursor.specs.Next.{kinds_in}
use Rattle.vl_parse.specs.Sources.{IsStart}
use Rattle.vl_parse.proofs.ModuleRows.{modules_end}
use Rattle.vl_parse_decl.proofs.ListLaws.{all_pushed}

pub modules_pushed : (ms : List Module) (x : Module) (start middle rest : List Token)
    → Spells (each spell_module ms) start middle
    → Spells (spell_module x) middle rest → Spells (each spell_module (ms ++ x ∷ [])) start rest
modules_pushed [] x start middle rest h i = (rest, subst (λ ts. Spells (spell_module x) ts rest) (sym h) i, refl)
modules_pushed (y ∷ ms) x start middle rest (m, h, j) i = (m, h, modules_pushed ms x m middle rest j i)

pub modules_formed : (ms : List Module) (x : Module) → All IsModule ms → IsModule x → All IsModule (ms ++ x ∷ [])
modules_formed ms x h i = all_pushed IsModule ms x h i

no_token : {A : Type 0} (t : Token) (ts : List Token) → length (t ∷ ts) ≡ 0 → A
no_token t ts h = absurd (omega (arith, h))

-- behind the last module nothing is left to read
pub modules_over : (room : ℕ) (ts : List Token) → length ts ≡ 0 → read modules room (kinds_in ts) ≡ Ok []
modules_over room [] h = modules_end room
modules_over room (t ∷ ts) h = no_token t ts h

pub none_left : (ts : List Token) → length ts ≡ 0 → ts ≡ []
none_left [] h = refl
none_left (t ∷ ts) h = no_token t ts h

pub source_found : (p : Pos) (ms : List Module) (ts : List Token) → IsStart p ts
    → Spells (each spell_module ms) ts [] → Spells (spell_modules p ms) ts []
source_found p [] ts b h = h
source_found p (m ∷ ms) [] b (n, h, i) = absurd h.0
source_found p (m ∷ ms) (t ∷ ts) b h = (b, h)

pub source_placed : (p : Pos) (ms : List Module) (ts : List Token) → IsStart p ts
    → Spells (each spell_module ms) ts [] → HasPlace p ms
source_placed p [] [] b h = b
source_placed p [] (t ∷ ts) b h = absurd (no h)
  where
    no : t ∷ ts ≡ [] → ⊥
    no h = cc
source_placed p (m ∷ ms) ts b h = tt

pub ruleset modules_spelled = (modules_pushed, modules_formed)

pub ruleset source_spelled = (source_found, source_placed)
