-- Which tree is answered and which refusal, from what reading by the grammar comes to.
use Rattle.std.proofs.Common.{◌≡◌, ◌⊎◌, inl, inr, ℕ, List, [], refl, sym, ap, ◌∙◌, subst}
use Rattle.std.specs.Prelude.{Option, Some, None, Result, Ok, Err}
use Rattle.fv_text.specs.declared.token.Token.{Token}
use Rattle.vl_tree.specs.declared.source.Source.{Source}
use Rattle.vl_tree.specs.ItemSpelling.{spell_source}
use Rattle.vl_tree.specs.Phrase.{Spells, kinds_of}
use Rattle.vl_tree.specs.WellFormed.{IsSource}
use Rattle.vl_parse_grammar.specs.Machine.{Fault, syntax, deep}
use Rattle.vl_parse_grammar.specs.Grammar.{run}
use Rattle.vl_parse_grammar.specs.Depth.{too_deep_at, unless_too_deep, IsTooDeep}
use Rattle.vl_parse_grammar.specs.Text.{IsFaulty}
use Rattle.vl_parse_grammar.proofs.FirstFault.{faulty}
use Rattle.vl_parse_grammar.proofs.TooDeep.{too_deep}
use Rattle.vl_parse_grammar.proofs.OneFault.{only_syntax, only_deep}
use Rattle.vl_parse_grammar.proofs.OneSource.{one_source}
use Rattle.vl_parse_grammar.proofs.Spelled.{spelled_run}
use Rattle.vl_parse.specs.declared.fault.ParseFault.{ParseFault}
use Rattle.vl_parse.specs.declared.fault.ParseFault.TheVariants as f
use Rattle.vl_parse.specs.Faults.{Answers, IsMemoryOr, wrong_token, deep_fault}
use Rattle.vl_parse.specs.Refusals.{IsTreeOf, IsShallow, NoneIsTooDeep, IsOfFaulty, IsOfTooDeep, IsFaultOf, Gives}
use Rattle.vl_parse.specs.Refusals.{Refuses}

abbrev Ran : Type 0
Ran = Result (Unit {0}) Fault

abbrev Answer : Type 0
Answer = Result Source ParseFault

syntax_not_deep : (l m : ℕ) → ◌≡◌ {A = Ran} (Err (syntax l)) (Err (deep m)) → ⊥
syntax_not_deep l m h = cc

pub shallow : (ts : List Token) (tree : Source) → IsSource tree → Spells (spell_source tree) ts []
    → Answers ts (Ok tree) (run (kinds_of ts)) → IsShallow tree
shallow ts tree w h a = by_depth (too_deep_at tree) (subst (λ r. Answers ts (Ok tree) r) (spelled_run tree ts w h) a)
  where
    by_depth : (o : Option ℕ) → Answers ts (Ok tree) (unless_too_deep o) → o ≡ None
    by_depth None a = refl
    by_depth (Some l) a = absurd a

of_faulty : (ts : List Token) (fault : ParseFault) (left : ℕ) → run (kinds_of ts) ≡ Err (syntax left)
    → fault ≡ wrong_token ts left → IsOfFaulty ts fault
of_faulty ts fault l e h = record {
  left = l;
  faulty = faulty ts l e;
  shallow = λ m x. syntax_not_deep l m (sym e ∙ only_deep (kinds_of ts) m x);
  named = h;
}

of_too_deep : (ts : List Token) (fault : ParseFault) (left : ℕ) → run (kinds_of ts) ≡ Err (deep left)
    → fault ≡ deep_fault ts left → IsOfTooDeep ts fault
of_too_deep ts fault l e h = record { left = l; deep = too_deep ts l e; named = h }

pub fault_of_tokens : (ts : List Token) (fault : ParseFault) → Answers ts (Err fault) (run (kinds_of ts))
    → IsFaultOf ts fault
fault_of_tokens ts fault a = by_run fault (run (kinds_of ts)) refl a
  where
    by_run : (fault : ParseFault) (o : Ran) → run (kinds_of ts) ≡ o → Answers ts (Err fault) o → IsFaultOf ts fault
    by_run f.Memory o e a = tt
    by_run (f.Syntax p) (Ok u) e a = absurd a
    by_run (f.Syntax p) (Err (syntax l)) e a = inl (of_faulty ts (f.Syntax p) l e a)
    by_run (f.Syntax p) (Err (deep l)) e a = inr (of_too_deep ts (f.Syntax p) l e a)
    by_run (f.Outside p word) (Ok u) e a = absurd a
    by_run (f.Outside p word) (Err (syntax l)) e a = inl (of_faulty ts (f.Outside p word) l e a)
    by_run (f.Outside p word) (Err (deep l)) e a = inr (of_too_deep ts (f.Outside p word) l e a)
    by_run (f.TooDeep p) (Ok u) e a = absurd a
    by_run (f.TooDeep p) (Err (syntax l)) e a = inl (of_faulty ts (f.TooDeep p) l e a)
    by_run (f.TooDeep p) (Err (deep l)) e a = inr (of_too_deep ts (f.TooDeep p) l e a)

-- where reading stops, that fault is answered
refuses : (ts : List Token) (r : Answer) (e : Fault) (wanted : ParseFault) → Answers ts r (Err e)
    → ((found : ParseFault) → Answers ts (Err found) (Err e) → IsMemoryOr wanted found) → Refuses wanted r
refuses ts (Ok tree) e wanted a g = absurd a
refuses ts (Err found) e wanted a g = g found a

pub refuses_faulty : (ts : List Token) (r : Answer) → Answers ts r (run (kinds_of ts)) → (left : ℕ)
    → IsFaulty (kinds_of ts) left → NoneIsTooDeep ts → Refuses (wrong_token ts left) r
refuses_faulty ts r a l x none =
    refuses ts r (syntax l) (wrong_token ts l) (subst (λ o. Answers ts r o) (only_syntax ts l x none) a) by_found
  where
    by_found : (found : ParseFault) → Answers ts (Err found) (Err (syntax l)) → IsMemoryOr (wrong_token ts l) found
    by_found f.Memory a = tt
    by_found (f.Syntax p) a = a
    by_found (f.Outside p word) a = a
    by_found (f.TooDeep p) a = a

pub refuses_deep : (ts : List Token) (r : Answer) → Answers ts r (run (kinds_of ts)) → (left : ℕ)
    → IsTooDeep (kinds_of ts) left → Refuses (deep_fault ts left) r
refuses_deep ts r a l x =
    refuses ts r (deep l) (deep_fault ts l) (subst (λ o. Answers ts r o) (only_deep (kinds_of ts) l x) a) by_found
  where
    by_found : (found : ParseFault) → Answers ts (Err found) (Err (deep l)) → IsMemoryOr (deep_fault ts l) found
    by_found f.Memory a = tt
    by_found (f.Syntax p) a = a
    by_found (f.Outside p word) a = a
    by_found (f.TooDeep p) a = a

pub one : (ts : List Token) (tree : Source) → IsTreeOf ts tree → (other : Source) → IsTreeOf ts other → other ≡ tree
one ts tree h other i = one_source other tree ts i.0 h.0 i.1 h.1

-- a shallow tree is answered
pub gives : (ts : List Token) (fault : ParseFault) → Answers ts (Err fault) (run (kinds_of ts)) → (tree : Source)
    → IsTreeOf ts tree → IsShallow tree → Gives tree (Err fault)
gives ts fault a tree h s =
    by_fault fault (subst (λ o. Answers ts (Err fault) o) (spelled_run tree ts h.0 h.1 ∙ ap unless_too_deep s) a)
  where
    by_fault : (found : ParseFault) → Answers ts (Err found) (Ok tt) → found ≡ f.Memory
    by_fault f.Memory a = refl
    by_fault (f.Syntax p) a = absurd a
    by_fault (f.Outside p word) a = absurd a
    by_fault (f.TooDeep p) a = absurd a
