-- Texts one behind the other.
use Rattle.std.proofs.Common.{◌≡◌, ℕ, ◌+◌, ◌<◌, length, drop, get_or, add-one, drop-cons, List, [], ◌∷◌}
use Rattle.std.proofs.Common.{Result, refl, sym, ap, ◌∙◌, subst}
use Rattle.fv_text.specs.declared.token.Token.{Token}
use Rattle.vl_text.specs.SourceText.{AreLaid, tokens_or, Only, Answers}
use Rattle.vl_text.proofs.Answering.{only_answers}
use Rattle.vl_text.specs.Steps.{AddsText, AreOnlyLexed, AddsTexts}
use Rattle.vl_text.specs.Texts.{Text, Lexing, AreLexed, nothing_lexed, laid_behind}
use Rattle.vl_text.specs.Texts.{text_seen, texts_seen, line_seen, lines_seen}
use Rattle.vl_text.specs.declared.text.Assumption.{Assumption}
use Rattle.vl_text.specs.declared.text.SourceText.{SourceText}
use Rattle.vl_text.specs.declared.fault.TextFault.{TextFault}
use Rattle.vl_text.specs.declared.lexing.Lexed.{Lexed}

pub no_texts : (all : Lexed) → AddsTexts [] all all
no_texts all = record { lexings = []; lexed = tt; new_is = refl }

pub one_text : (x : Text) (xs : List Text) (old mid new : Lexed) → AddsText x old mid → AddsTexts xs mid new
    → AddsTexts (x ∷ xs) old new
one_text x xs old mid new one more = record {
  lexings = one.lexing ∷ more.lexings;
  lexed = (one.lexed, more.lexed);
  new_is = more.new_is ∙ ap (λ s. laid_behind s more.lexings) one.new_is;
}

are_lexed : (xs : List Text) (rs : List Lexing) → AreOnlyLexed xs rs → AreLexed xs rs
are_lexed [] [] h = tt
are_lexed [] (r ∷ rs) h = absurd h
are_lexed (x ∷ xs) [] h = absurd h
are_lexed (x ∷ xs) (r ∷ rs) h = (h.0.is, are_lexed xs rs h.1)

same_lexings : (xs : List Text) (rs others : List Lexing) → AreOnlyLexed xs rs → AreLexed xs others → others ≡ rs
same_lexings [] [] [] h i = refl
same_lexings [] [] (s ∷ ss) h i = absurd i
same_lexings [] (r ∷ rs) others h i = absurd h
same_lexings (x ∷ xs) [] others h i = absurd h
same_lexings (x ∷ xs) (r ∷ rs) [] h i = absurd i
same_lexings (x ∷ xs) (r ∷ rs) (s ∷ ss) h i = two s r ss rs (h.0.only s i.0) (same_lexings xs rs ss h.1 i.1)
  where
    two : (s r : Lexing) (ss rs : List Lexing) → s ≡ r → ss ≡ rs → s ∷ ss ≡ r ∷ rs
    two s r ss rs p q = cc

-- what is laid is what is there
pub only_laid : (texts lines : List Text) (first mid all : Lexed) → first ≡ nothing_lexed → AddsTexts texts first mid
    → AddsTexts lines mid all → Only (AreLaid texts lines) (tokens_or all.fault all.tokens)
only_laid texts lines first mid all start h i = record {
  is = record {
    of_texts = h.lexings;
    texts_lexed = are_lexed texts h.lexings h.lexed;
    of_lines = i.lexings;
    lines_lexed = are_lexed lines i.lexings i.lexed;
    all = all;
    laid = laid;
    comes = refl;
  };
  only = λ other o.
      o.comes ∙ ap (λ (s : Lexed). tokens_or s.fault s.tokens) (o.laid
      ∙ ap (λ rs. laid_behind (laid_behind nothing_lexed rs) o.of_lines)
      (same_lexings texts h.lexings o.of_texts h.lexed o.texts_lexed)
      ∙ ap (λ rs. laid_behind (laid_behind nothing_lexed h.lexings) rs)
      (same_lexings lines i.lexings o.of_lines i.lexed o.lines_lexed) ∙ sym laid);
}
  where
    laid : all ≡ laid_behind (laid_behind nothing_lexed h.lexings) i.lexings
    laid = i.new_is ∙ ap (λ s. laid_behind s i.lexings) (h.new_is ∙ ap (λ s. laid_behind s h.lexings) start)

pub laid_answer : (texts lines : List Text) (first mid all : Lexed) → first ≡ nothing_lexed → AddsTexts texts first mid
    → AddsTexts lines mid all → (r : Result (List Token) TextFault) → r ≡ tokens_or all.fault all.tokens
    → Answers (AreLaid texts lines) r
laid_answer texts lines first mid all start h i r e =
    only_answers (AreLaid texts lines) r (subst (λ s. Only (AreLaid texts lines) s) (sym e)
    (only_laid texts lines first mid all start h i))

-- the next one of a list of texts
module _ (xs : List SourceText) (i : ℕ) (d : SourceText) (start old mid : Lexed) (within : i < length xs) where
  next_seen : texts_seen (drop i xs) ≡ text_seen (get_or xs i d) ∷ texts_seen (drop (i + 1) xs)
  next_seen =
      let e : drop i xs ≡ get_or xs i d ∷ drop (i + 1) xs = rw (add-one, drop-cons xs i d) in ap texts_seen e

  pub next_text : AddsText (text_seen (get_or xs i d)) old mid
      → ((new : Lexed) → AddsTexts (texts_seen (drop i xs)) old new → AddsTexts (texts_seen xs) start new)
      → (new : Lexed) → AddsTexts (texts_seen (drop (i + 1) xs)) mid new → AddsTexts (texts_seen xs) start new
  next_text one so_far new more =
      so_far new
      (subst (λ ys. AddsTexts ys old new) (sym next_seen)
      (one_text (text_seen (get_or xs i d)) (texts_seen (drop (i + 1) xs)) old mid new one more))

-- and of lines of assumptions
module _ (xs : List Assumption) (i : ℕ) (d : Assumption) (start old mid : Lexed) (within : i < length xs) where
  next_line : lines_seen (drop i xs) ≡ line_seen (get_or xs i d) ∷ lines_seen (drop (i + 1) xs)
  next_line =
      let e : drop i xs ≡ get_or xs i d ∷ drop (i + 1) xs = rw (add-one, drop-cons xs i d) in ap lines_seen e

  -- `x` is the line as a text
  pub next_laid : (x : Text) → x ≡ line_seen (get_or xs i d) → AddsText x old mid
      → ((new : Lexed) → AddsTexts (lines_seen (drop i xs)) old new → AddsTexts (lines_seen xs) start new)
      → (new : Lexed) → AddsTexts (lines_seen (drop (i + 1) xs)) mid new → AddsTexts (lines_seen xs) start new
  next_laid x is one so_far new more =
      so_far new
      (subst (λ ys. AddsTexts ys old new) (sym next_line)
      (one_text (line_seen (get_or xs i d)) (lines_seen (drop (i + 1) xs)) old mid new
      (subst (λ y. AddsText y old mid) is one) more))
