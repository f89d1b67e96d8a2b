-- Texts have one reading at most.
use Rattle.std.specs.Prelude.{◌≡◌, refl, List, [], ◌∷◌, Result, Ok, Err}
use Rattle.std.proofs.Common.{ap, sym, ◌∙◌, subst}
use Rattle.fv_text.specs.declared.token.Token.{Token}
use Rattle.vl_tree.specs.declared.source.Source.{Source}
use Rattle.vl_token.proofs.Answer.{one_fault, right_refused}
use Rattle.vl_token.proofs.Order.{tokens_one}
use Rattle.vl_prep.specs.Macros.{Held}
use Rattle.vl_prep.specs.Prep.{Outcome, preprocessed}
use Rattle.vl_parse_grammar.proofs.OneSource.{one_source}
use Rattle.vl_text.specs.Assumptions.{with_assumptions}
use Rattle.vl_text.specs.Predefined.{ArePredefinedFor, none, prologue}
use Rattle.vl_text.specs.SourceText.{AreLaid, AreParsed, ArePrepared, AreRead, Comes, FromTokens, Reading, Then}
use Rattle.vl_text.specs.SourceText.{outcome_or_fault, tokens_or, with_macros}
use Rattle.vl_text.specs.Texts.{AreLexed, IsLexed, Lexing, Text, laid_behind, lexed_bytes, nothing_lexed}
use Rattle.vl_text.specs.declared.fault.TextFault.{TextFault}
use Rattle.vl_text.specs.declared.macros.Core.{Core}
use Rattle.rvf_simple.proofs.Results.{ok_err, ok_is}

-- ---- the lexer

one_lexing : (x : Text) (r s : Lexing) → IsLexed x r → IsLexed x s → r ≡ s
one_lexing x (Ok ts) (Ok us) h k = ap Ok (tokens_one x.file x.line (lexed_bytes x) ts us h k)
one_lexing x (Ok ts) (Err g) h k = absurd (right_refused g x.file x.line (lexed_bytes x) ts h k)
one_lexing x (Err f) (Ok us) h k = absurd (right_refused f x.file x.line (lexed_bytes x) us k h)
one_lexing x (Err f) (Err g) h k = ap Err (one_fault f g x.file x.line (lexed_bytes x) h k)

same_lexings : (xs : List Text) (rs ss : List Lexing) → AreLexed xs rs → AreLexed xs ss → rs ≡ ss
same_lexings [] [] [] h k = refl
same_lexings [] [] (s ∷ ss) h k = absurd k
same_lexings [] (r ∷ rs) ss h k = absurd h
same_lexings (x ∷ xs) [] ss h k = absurd h
same_lexings (x ∷ xs) (r ∷ rs) [] h k = absurd k
same_lexings (x ∷ xs) (r ∷ rs) (s ∷ ss) h k =
    λ i. one_lexing x r s h.0 k.0 i ∷ same_lexings xs rs ss h.1 k.1 i

one_list : (texts lines : List Text) (r s : Result (List Token) TextFault) → AreLaid texts lines r
    → AreLaid texts lines s → r ≡ s
one_list texts lines r s h k =
    let of_texts : h.of_texts ≡ k.of_texts = same_lexings texts h.of_texts k.of_texts h.texts_lexed k.texts_lexed in
    let of_lines : h.of_lines ≡ k.of_lines = same_lexings lines h.of_lines k.of_lines h.lines_lexed k.lines_lexed in
    let all : h.all ≡ k.all
    = h.laid ∙ (λ i. laid_behind (laid_behind nothing_lexed (of_texts i)) (of_lines i)) ∙ sym k.laid in
    h.comes ∙ (λ i. tokens_or (all i).fault (all i).tokens) ∙ sym k.comes

-- ---- the preprocessor

one_predefined : (core : Core) (m n : Held) → ArePredefinedFor core m → ArePredefinedFor core n → m ≡ n
one_predefined core m n h k =
    let tokens : h.tokens ≡ k.tokens = tokens_one 0 1 (prologue core) h.tokens k.tokens h.lexes k.lexes in
    ap (λ (r : Outcome). r.macros)
    (ok_is (record { macros = m; output = h.output }) (record { macros = n; output = k.output })
    (sym h.defined ∙ ap (preprocessed none) tokens ∙ k.defined))

one_outcome : (core : Core) (tokens : List Token) (r s : Result Outcome TextFault) → ArePrepared core tokens r
    → ArePrepared core tokens s → r ≡ s
one_outcome core tokens r s h k =
    h.comes
    ∙ ap (λ m. outcome_or_fault (preprocessed m tokens))
    (one_predefined core h.macros k.macros h.predefined k.predefined)
    ∙ sym k.comes

-- ---- the parser

module _ (core : Core) (lines : List Text) (r s : Reading) where
  -- of trees of the same tokens
  same_trees : (done : Outcome) (t u : Result Source TextFault)
      → AreParsed (with_assumptions lines done.output) t → AreParsed (with_assumptions lines done.output) u
      → Ok r ≡ with_macros done.macros t → Ok s ≡ with_macros done.macros u → r ≡ s
  same_trees done (Ok t) (Ok u) h k e f =
      let tree : t ≡ u
      = one_source t u (with_assumptions lines done.output) h.tree_of.0 k.tree_of.0 h.tree_of.1 k.tree_of.1 in
      ok_is r (record { tree = t; macros = done.macros }) e
      ∙ (λ i. record { tree = tree i; macros = done.macros })
      ∙ sym (ok_is s (record { tree = u; macros = done.macros }) f)
  same_trees done (Err g) u h k e f = absurd (ok_err r g e)
  same_trees done (Ok t) (Err g) h k e f = absurd (ok_err s g f)

  behind_prepared : (middle : Result Outcome TextFault) → Then middle (AreRead lines) (Ok r)
      → Then middle (AreRead lines) (Ok s) → r ≡ s
  behind_prepared (Ok done) h k = same_trees done h.tree k.tree h.parsed k.parsed h.comes k.comes
  behind_prepared (Err f) h k = absurd (ok_err r f h)

  behind_laid : (middle : Result (List Token) TextFault) → Then middle (FromTokens core lines) (Ok r)
      → Then middle (FromTokens core lines) (Ok s) → r ≡ s
  behind_laid (Ok tokens) h k =
      behind_prepared k.middle
      (subst (λ m. Then m (AreRead lines) (Ok r)) (one_outcome core tokens h.middle k.middle h.first k.first) h.next)
      k.next
  behind_laid (Err f) h k = absurd (ok_err r f h)

  pub one_reading : (texts : List Text) → Comes core texts lines (Ok r) → Comes core texts lines (Ok s) → r ≡ s
  one_reading texts h k =
      behind_laid k.middle
      (subst (λ m. Then m (FromTokens core lines) (Ok r)) (one_list texts lines h.middle k.middle h.first k.first)
      h.next)
      k.next
