-- What texts say is what comes of them where no part refuses them.
use Rattle.std.specs.Prelude.{◌≡◌, refl, List, [], ◌∷◌, ◌++◌, map, Bool, true, false, Option, None, Some, is_none}
use Rattle.std.specs.Prelude.{Result, Ok, Err}
use Rattle.std.proofs.Common.{ap, sym, ◌∙◌, subst, append_assoc, true≢false}
use Rattle.std.proofs.lemmas.List.{append-nil}
use Rattle.fv_text.specs.declared.token.Token.{Token}
use Rattle.vl_token.specs.declared.fault.LexFault.{LexFault}
use Rattle.vl_prep.specs.Prep.{Outcome, preprocessed}
use Rattle.vl_prep.specs.declared.fault.PrepFault.{PrepFault}
use Rattle.vl_tree.specs.declared.source.Source.{Source}
use Rattle.vl_text.specs.Assumptions.{with_assumptions}
use Rattle.vl_text.specs.SourceText.{AreLaid, AreParsed, ArePrepared, AreRead, Comes, FromTokens, IsTree, Reading}
use Rattle.vl_text.specs.SourceText.{Then, outcome_or_fault, tokens_or, with_macros}
use Rattle.vl_text.specs.Texts.{AreLexed, Lexing, Text, laid_behind, nothing_lexed, with_lexing}
use Rattle.vl_text.specs.declared.fault.TextFault.{TextFault}
use Rattle.vl_text.specs.declared.macros.Core.{Core}
use Rattle.rvf_load.specs.Readings.{HaveTokens, IsReadingOf, end_to_end}

abbrev is_ok : {A : Type 0} → Result A TextFault → Bool
is_ok (Ok a) = true
is_ok (Err f) = false

-- ---- texts that are lexed without a fault

abbrev lexed_all : List (List Token) → List Lexing
lexed_all xs = map (λ ts. Ok ts) xs

-- they lie one behind the other
laid : (so_far : _) (xs : List (List Token)) → laid_behind so_far (lexed_all xs) ≡ with_lexing so_far (Ok (end_to_end xs))
laid so_far [] = λ i. record { tokens = sym (append-nil so_far.tokens) i; fault = so_far.fault }
laid so_far (ts ∷ more) =
    laid (with_lexing so_far (Ok ts)) more
    ∙ (λ i. record { tokens = append_assoc so_far.tokens ts (end_to_end more) i; fault = so_far.fault })

are_lexed : (texts : List Text) (xs : List (List Token)) → HaveTokens texts xs → AreLexed texts (lexed_all xs)
are_lexed [] [] h = tt
are_lexed [] (ts ∷ more) h = absurd h
are_lexed (x ∷ xs) [] h = absurd h
are_lexed (x ∷ xs) (ts ∷ more) h = (h.0, are_lexed xs more h.1)

have_tokens : (texts : List Text) (xs : List (List Token)) → AreLexed texts (lexed_all xs) → HaveTokens texts xs
have_tokens [] [] h = tt
have_tokens [] (ts ∷ more) h = absurd h
have_tokens (x ∷ xs) [] h = absurd h
have_tokens (x ∷ xs) (ts ∷ more) h = (h.0, have_tokens xs more h.1)

-- ---- a fault stays

stays : (rs : List Lexing) (so_far : _) → is_none (laid_behind so_far []).fault ≡ false
    → is_none (laid_behind so_far rs).fault ≡ false
stays [] so_far h = h
stays (Ok ts ∷ rs) so_far h = stays rs (with_lexing so_far (Ok ts)) h
stays (Err f ∷ rs) so_far h = stays rs (with_lexing so_far (Err f)) refl

-- where there is none in the end, there was none before
none_before : (rs : List Lexing) (so_far : _) (o : Option LexFault) → (laid_behind so_far rs).fault ≡ None
    → so_far.fault ≡ o → so_far.fault ≡ None
none_before rs so_far None h e = e
none_before rs so_far (Some f) h e =
    absurd (true≢false (sym (ap is_none h) ∙ stays rs so_far (ap is_none e)))

-- lexings without a fault
record AreOk (rs : List Lexing) : Type 0 where
  tokens : List (List Token)
  are : rs ≡ lexed_all tokens

with_first : (ts : List Token) (rs : List Lexing) → AreOk rs → AreOk (Ok ts ∷ rs)
with_first ts rs h = record { tokens = ts ∷ h.tokens; are = ap (λ more. Ok ts ∷ more) h.are }

all_ok : (rs : List Lexing) (so_far : _) → (laid_behind so_far rs).fault ≡ None → AreOk rs
all_ok [] so_far h = record { tokens = []; are = refl }
all_ok (Ok ts ∷ rs) so_far h = with_first ts rs (all_ok rs (with_lexing so_far (Ok ts)) h)
all_ok (Err f ∷ rs) so_far h =
    absurd (true≢false (sym (ap is_none h) ∙ stays rs (with_lexing so_far (Err f)) refl))

-- ---- the whole list

abbrev tokens_of : List (List Token) → List (List Token) → List Token
tokens_of xs ys = end_to_end xs ++ end_to_end ys

-- of texts and lines without a fault
both_laid : (xs ys : List (List Token))
    → laid_behind (laid_behind nothing_lexed (lexed_all xs)) (lexed_all ys)
    ≡ with_lexing nothing_lexed (Ok (tokens_of xs ys))
both_laid xs ys =
    ap (λ first. laid_behind first (lexed_all ys)) (laid nothing_lexed xs)
    ∙ laid (with_lexing nothing_lexed (Ok (end_to_end xs))) ys

abbrev list_or : List Token → Result (List Token) TextFault → List Token
list_or ts (Ok us) = us
list_or ts (Err f) = ts

no_fault : (tokens : List Token) (o : Option LexFault) (all : List Token) → Ok tokens ≡ tokens_or o all → o ≡ None
no_fault tokens None all e = refl
no_fault tokens (Some f) all e = absurd (true≢false (ap is_ok e))

same_tokens : (tokens : List Token) (o : Option LexFault) (all : List Token) → Ok tokens ≡ tokens_or o all
    → tokens ≡ all
same_tokens tokens None all e = ap (list_or tokens) e
same_tokens tokens (Some f) all e = absurd (true≢false (ap is_ok e))

module _ (texts lines : List Text) where
  -- texts whose tokens are laid so
  record IsLaid (tokens : List Token) : Type 0 where
    of_texts : List (List Token)
    texts_have : HaveTokens texts of_texts
    of_lines : List (List Token)
    lines_have : HaveTokens lines of_lines
    are : tokens ≡ tokens_of of_texts of_lines

  is_laid : (tokens : List Token) → AreLaid texts lines (Ok tokens) → IsLaid tokens
  is_laid tokens h =
      let none : h.all.fault ≡ None = no_fault tokens h.all.fault h.all.tokens h.comes in
      let first = laid_behind nothing_lexed h.of_texts in
      let there : h.all.fault ≡ (laid_behind first h.of_lines).fault = λ i. (h.laid i).fault in
      let last : (laid_behind first h.of_lines).fault ≡ None = sym there ∙ none in
      let l : AreOk h.of_lines = all_ok h.of_lines first last in
      let t : AreOk h.of_texts = all_ok h.of_texts nothing_lexed (none_before h.of_lines first first.fault last refl) in
      let all : h.all.tokens ≡ (laid_behind first h.of_lines).tokens = λ i. (h.laid i).tokens in
      let again : (laid_behind first h.of_lines).tokens
      ≡ (laid_behind (laid_behind nothing_lexed (lexed_all t.tokens)) (lexed_all l.tokens)).tokens
      = λ i. (laid_behind (laid_behind nothing_lexed (t.are i)) (l.are i)).tokens in
      let both : (laid_behind (laid_behind nothing_lexed (lexed_all t.tokens)) (lexed_all l.tokens)).tokens
      ≡ tokens_of t.tokens l.tokens
      = λ i. (both_laid t.tokens l.tokens i).tokens in
      record {
        of_texts = t.tokens;
        texts_have = have_tokens texts t.tokens (subst (λ rs. AreLexed texts rs) t.are h.texts_lexed);
        of_lines = l.tokens;
        lines_have = have_tokens lines l.tokens (subst (λ rs. AreLexed lines rs) l.are h.lines_lexed);
        are = same_tokens tokens h.all.fault h.all.tokens h.comes ∙ all ∙ again ∙ both;
      }

  are_laid : (xs ys : List (List Token)) → HaveTokens texts xs → HaveTokens lines ys
      → AreLaid texts lines (Ok (tokens_of xs ys))
  are_laid xs ys h k = record {
    of_texts = lexed_all xs;
    texts_lexed = are_lexed texts xs h;
    of_lines = lexed_all ys;
    lines_lexed = are_lexed lines ys k;
    all = with_lexing nothing_lexed (Ok (tokens_of xs ys));
    laid = sym (both_laid xs ys);
    comes = refl;
  }

  -- ---- what comes of it

  abbrev outcome_or : Outcome → Result Outcome TextFault → Outcome
  outcome_or o (Ok p) = p
  outcome_or o (Err f) = o

  abbrev reading_or : Reading → Result Reading TextFault → Reading
  reading_or r (Ok s) = s
  reading_or r (Err f) = r

  found_is : (o : Outcome) (found : Result Outcome PrepFault) → Ok o ≡ outcome_or_fault found → found ≡ Ok o
  found_is o (Ok p) e = ap (λ q. Ok (outcome_or o q)) (sym e)
  found_is o (Err f) e = absurd (true≢false (ap is_ok e))

  module _ (core : Core) (r : Reading) where
    from_tree : (tokens : List Token) (o : Outcome) (tree : Result Source TextFault) → IsLaid tokens
        → ArePrepared core tokens (Ok o) → AreParsed (with_assumptions lines o.output) tree
        → Ok r ≡ with_macros o.macros tree → IsReadingOf core texts lines r
    from_tree tokens o (Err f) l p h e = absurd (true≢false (ap is_ok e))
    from_tree tokens o (Ok tree) l p h e =
        let same : r ≡ record { tree = tree; macros = o.macros } = ap (reading_or r) e in
        record {
          of_texts = l.of_texts;
          texts_have = l.texts_have;
          of_lines = l.of_lines;
          lines_have = l.lines_have;
          macros = p.macros;
          predefined = p.predefined;
          outcome = o;
          prepared = ap (λ ts. preprocessed p.macros ts) (sym l.are)
              ∙ found_is o (preprocessed p.macros tokens) p.comes;
          tree_is = subst (λ (s : Reading). IsTree (with_assumptions lines o.output) s.tree) (sym same) h;
          macros_are = ap (λ (s : Reading). s.macros) same;
        }

    from_outcome : (tokens : List Token) (found : Result Outcome TextFault) → IsLaid tokens
        → ArePrepared core tokens found → Then found (AreRead lines) (Ok r) → IsReadingOf core texts lines r
    from_outcome tokens (Ok o) l p h = from_tree tokens o h.tree l p h.parsed h.comes
    from_outcome tokens (Err f) l p h = absurd (true≢false (ap is_ok h))

    from_tokens : (found : Result (List Token) TextFault) → AreLaid texts lines found
        → Then found (FromTokens core lines) (Ok r) → IsReadingOf core texts lines r
    from_tokens (Ok tokens) l h = from_outcome tokens h.middle (is_laid tokens l) h.first h.next
    from_tokens (Err f) l h = absurd (true≢false (ap is_ok h))

    -- what comes of texts is what they say
    pub is_reading : Comes core texts lines (Ok r) → IsReadingOf core texts lines r
    is_reading h = from_tokens h.middle h.first h.next

    -- and what they say comes of them
    pub reading_comes : IsReadingOf core texts lines r → Comes core texts lines (Ok r)
    reading_comes h = record {
      middle = Ok (tokens_of h.of_texts h.of_lines);
      first = are_laid h.of_texts h.of_lines h.texts_have h.lines_have;
      next = record {
        middle = Ok h.outcome;
        first = record {
          macros = h.macros;
          predefined = h.predefined;
          comes = ap outcome_or_fault (sym h.prepared);
        };
        next = record {
          tree = Ok r.tree;
          parsed = h.tree_is;
          comes = λ i. Ok (record { tree = r.tree; macros = h.macros_are i });
        };
      };
    }
