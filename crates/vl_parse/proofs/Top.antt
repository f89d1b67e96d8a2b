-- What the top answers, from what reading by the grammar comes to.
use Rattle.std.proofs.Common.{◌≡◌, ℕ, zero, suc, ◌-◌, List, [], ◌∷◌, length, refl, sym, ap, ◌∙◌, subst, arith}
use Rattle.std.proofs.lemmas.Option.{slice_get_past}
use Rattle.std.specs.Prelude.{None, Ok, Err}
use Rattle.fv_text.specs.declared.pos.Pos.{Pos}
use Rattle.fv_text.specs.declared.token.Token.{Token}
use Rattle.vl_tree.specs.declared.source.Source.{Source}
use Rattle.vl_tree.specs.Phrase.{kinds_of}
use Rattle.vl_parse_grammar.specs.Machine.{Fault, then}
use Rattle.vl_parse_grammar.specs.Grammar.{expand, ends, read, modules, run, start}
use Rattle.vl_parse_grammar.proofs.InParts as parts
use Rattle.vl_parse.specs.declared.fault.ParseFault.{ParseFault}
use Rattle.vl_parse.specs.declared.fault.ParseFault.TheVariants as f
use Rattle.vl_parse.specs.Faults.{Answers, IsMemoryOr, fault_of, deep_fault, token_at, place_at, named_at}
use Rattle.vl_parse_cursor.specs.Next.{kinds_in}

kinds_same : (ts : List Token) → kinds_of ts ≡ kinds_in ts
kinds_same [] = refl
kinds_same (t ∷ ts) = ap (λ r. t.kind ∷ r) (kinds_same ts)

whole : (ts : List Token) → run (kinds_of ts) ≡ then (read modules 256 (kinds_in ts)) (parts.at_the_end expand ends)
unfolding read
whole ts = ap run (kinds_same ts) ∙ parts.run_reads expand ends start (kinds_in ts)

pub answers_ok : (ts : List Token) (tree : Source) → read modules 256 (kinds_in ts) ≡ Ok []
    → Answers ts (Ok tree) (run (kinds_of ts))
answers_ok ts tree h =
    subst (λ r. Answers ts (Ok tree) r) (sym (whole ts ∙ ap (λ a. then a (parts.at_the_end expand ends)) h)) tt

by_fault : (ts : List Token) (stop : Fault) (found : ParseFault) → IsMemoryOr (fault_of ts stop) found
    → Answers ts (Err found) (Err stop)
by_fault ts stop f.Memory h = tt
by_fault ts stop (f.Syntax p) h = h
by_fault ts stop (f.TooDeep p) h = h
by_fault ts stop (f.Outside p word) h = h

pub answers_stop : (ts : List Token) (stop : Fault) (found : ParseFault) → read modules 256 (kinds_in ts) ≡ Err stop
    → IsMemoryOr (fault_of ts stop) found → Answers ts (Err found) (run (kinds_of ts))
answers_stop ts stop found h i =
    subst (λ r. Answers ts (Err found) r) (sym (whole ts ∙ ap (λ a. then a (parts.at_the_end expand ends)) h))
    (by_fault ts stop found i)

pub memory_or : (wanted found : ParseFault) → found ≡ wanted → IsMemoryOr wanted found
memory_or wanted f.Memory h = tt
memory_or wanted (f.Syntax p) h = h
memory_or wanted (f.TooDeep p) h = h
memory_or wanted (f.Outside p word) h = h

-- the end has no token, so it is out of place
no_end_token : (ts : List Token) → token_at ts 0 ≡ None
no_end_token ts = slice_get_past ts (length ts - 0) (omega arith)

pub deep_last : (ts : List Token) (left : ℕ) (p : Pos) → left ≡ 1 → p ≡ place_at ts 0 → f.Syntax p ≡ deep_fault ts left
deep_last ts left p h e = subst (λ n. f.Syntax p ≡ deep_fault ts n) (sym h)
    (ap (λ q. f.Syntax q) e ∙ sym (ap (named_at (place_at ts 0)) (no_end_token ts)))

pub deep_before : (ts : List Token) (left : ℕ) (p : Pos) → (left ≡ 1 → ⊥) → p ≡ place_at ts left
    → f.TooDeep p ≡ deep_fault ts left
deep_before ts zero p h e = ap (λ q. f.TooDeep q) e
deep_before ts (suc zero) p h e = absurd (h refl)
deep_before ts (suc (suc n)) p h e = ap (λ q. f.TooDeep q) e

pub ruleset deep_faults = (deep_last, deep_before)
