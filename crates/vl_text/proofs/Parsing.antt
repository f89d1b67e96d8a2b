-- What the parser answers is the tree, or the refusal, that is there: from what `parse` promises.
use Rattle.std.proofs.Common.{◌≡◌, ◌⊎◌, inl, inr, ℕ, List, [], Result, Ok, Err, sym, ap, ◌∙◌}
use Rattle.fv_text.specs.declared.token.Token.{Token}
use Rattle.vl_tree.specs.Phrase.{Spells, kinds_of}
use Rattle.vl_tree.specs.ItemSpelling.{spell_source}
use Rattle.vl_tree.specs.WellFormed.{IsSource}
use Rattle.vl_tree.specs.declared.source.Source.{Source}
use Rattle.vl_parse_grammar.specs.Depth.{IsTooDeep}
use Rattle.vl_parse_grammar.specs.Text.{IsFaulty}
use Rattle.vl_parse.specs.Faults.{wrong_token, deep_fault, IsMemoryOr}
use Rattle.vl_parse.specs.Refusals.{IsTreeOf, IsShallow, NoneIsTooDeep, IsOfFaulty, IsOfTooDeep, IsFaultOf, Gives}
use Rattle.vl_parse.specs.declared.fault.ParseFault.{ParseFault}
use Rattle.vl_parse.specs.declared.fault.ParseFault.TheVariants as parse
use Rattle.vl_text.specs.Faults.{of_parse}
use Rattle.vl_text.specs.SourceText.{IsMisparsed, AreParsed, Only, Answers}
use Rattle.vl_text.specs.declared.fault.TextFault.{TextFault}
use Rattle.vl_text.specs.declared.fault.TextFault.TheVariants.{Lex, Prep, Parse, Memory}

module _ (ts : List Token) where
  abbrev Answer : Type 0
  Answer = Result Source TextFault

  pub parse_ok : (tree : Source) → Spells (spell_source tree) ts [] → IsSource tree → IsShallow tree
      → ((other : Source) → IsTreeOf ts other → other ≡ tree)
      → ((left : ℕ) → IsFaulty (kinds_of ts) left → NoneIsTooDeep ts → ⊥)
      → ((left : ℕ) → IsTooDeep (kinds_of ts) left → ⊥) → Only (AreParsed ts) (Ok tree)
  parse_ok tree spelled formed shallow one no_faulty no_deep = record {
    is = record { tree_of = (formed, spelled); shallow = shallow };
    only = λ other h. only other h;
  }
    where
      none : (fault : ParseFault) → IsOfFaulty ts fault ⊎ IsOfTooDeep ts fault → ⊥
      none fault (inl m) = no_faulty m.left m.faulty m.shallow
      none fault (inr m) = no_deep m.left m.deep

      unrefused : (fault : ParseFault) → IsMisparsed ts fault → ⊥
      unrefused (parse.Syntax p) m = none (parse.Syntax p) m
      unrefused (parse.TooDeep p) m = none (parse.TooDeep p) m
      unrefused (parse.Outside p word) m = none (parse.Outside p word) m
      unrefused parse.Memory m = m

      only : (other : Answer) → AreParsed ts other → other ≡ Ok tree
      only (Ok t) h = ap (λ x. Ok x) (one t h.tree_of)
      only (Err (Parse f)) m = absurd (unrefused f m)
      only (Err (Lex f)) p = absurd p
      only (Err (Prep f)) p = absurd p
      only (Err Memory) p = absurd p

  -- the fault is there, and `parse` refuses for what is there
  module _ (fault : ParseFault) (is : IsMisparsed ts fault) (not_memory : fault ≡ parse.Memory → ⊥)
      (same : (wanted : ParseFault) → IsMemoryOr wanted fault → fault ≡ wanted)
      (tree_gives : (tree : Source) → IsTreeOf ts tree → IsShallow tree → fault ≡ parse.Memory)
      (faulty : (left : ℕ) → IsFaulty (kinds_of ts) left → NoneIsTooDeep ts → IsMemoryOr (wrong_token ts left) fault)
      (deep : (left : ℕ) → IsTooDeep (kinds_of ts) left → IsMemoryOr (deep_fault ts left) fault) where
    one_fault : (other : ParseFault) → IsOfFaulty ts other ⊎ IsOfTooDeep ts other → other ≡ fault
    one_fault other (inl m) = m.named ∙ sym (same (wrong_token ts m.left) (faulty m.left m.faulty m.shallow))
    one_fault other (inr m) = m.named ∙ sym (same (deep_fault ts m.left) (deep m.left m.deep))

    one_misparse : (other : ParseFault) → IsMisparsed ts other → other ≡ fault
    one_misparse (parse.Syntax p) m = one_fault (parse.Syntax p) m
    one_misparse (parse.TooDeep p) m = one_fault (parse.TooDeep p) m
    one_misparse (parse.Outside p word) m = one_fault (parse.Outside p word) m
    one_misparse parse.Memory m = absurd m

    only_fault : (other : Answer) → AreParsed ts other → other ≡ Err (Parse fault)
    only_fault (Ok t) h = absurd (not_memory (tree_gives t h.tree_of h.shallow))
    only_fault (Err (Parse f)) m = ap (λ x. Err (Parse x)) (one_misparse f m)
    only_fault (Err (Lex f)) p = absurd p
    only_fault (Err (Prep f)) p = absurd p
    only_fault (Err Memory) p = absurd p

    misparse : Only (AreParsed ts) (Err (Parse fault))
    misparse = record { is = is; only = λ other h. only_fault other h }

  pub parse_err : (fault : ParseFault) → IsFaultOf ts fault
      → ((tree : Source) → IsTreeOf ts tree → IsShallow tree → Gives tree (Err fault))
      → ((left : ℕ) → IsFaulty (kinds_of ts) left → NoneIsTooDeep ts → IsMemoryOr (wrong_token ts left) fault)
      → ((left : ℕ) → IsTooDeep (kinds_of ts) left → IsMemoryOr (deep_fault ts left) fault)
      → Answers (AreParsed ts) (Err (of_parse fault))
  parse_err (parse.Syntax p) m gives faulty deep =
      misparse (parse.Syntax p) m (λ e. cc) (λ w h. h) gives faulty deep
  parse_err (parse.TooDeep p) m gives faulty deep =
      misparse (parse.TooDeep p) m (λ e. cc) (λ w h. h) gives faulty deep
  parse_err (parse.Outside p word) m gives faulty deep =
      misparse (parse.Outside p word) m (λ e. cc) (λ w h. h) gives faulty deep
  parse_err parse.Memory m gives faulty deep = tt
