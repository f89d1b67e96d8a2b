-- Texts are refused at places in them, and their tokens stand there.
use Rattle.std.proofs.Common.{◌≡◌, ℕ, List, [], ◌∷◌, ◌++◌, get_or, Option, Some, None, Result, Ok, Err}
use Rattle.std.proofs.Common.{refl, sym, ◌∙◌, subst}
use Rattle.std.proofs.lemmas.List.{append_assoc}
use Rattle.std.proofs.lemmas.List.Elements.{All-nil, All-cons, All-append, All-contains}
use Rattle.std.proofs.lemmas.List.Elements.{All-contains_itself, All-head, All-tail}
use Rattle.std.specs.List.{All, Contains}
use Rattle.std.specs.Prelude.{Bool, true, false, IfSome, IfOk, IfErr, MatchResult, if◌then◌else◌}
use Rattle.fv_text.specs.declared.pos.Pos.{Pos}
use Rattle.fv_text.specs.declared.token.Token.{Token}
use Rattle.vl_token.specs.Fault as lexer
use Rattle.vl_token.specs.FaultPlace.{fault_place}
use Rattle.vl_token.specs.Piece.{Piece, text_of, joined}
use Rattle.vl_token.specs.Place.{place_behind, place_after, start_of}
use Rattle.vl_token.specs.Tokens.{AreTokens, AreOf, Takes, is_token}
use Rattle.vl_token.specs.declared.fault.LexFault.{LexFault}
use Rattle.vl_token.specs.declared.fault.LexFault.TheVariants as lex
use Rattle.vl_prep.specs.Places.{places}
use Rattle.vl_prep.specs.declared.macros.Macros.{Macros}
use Rattle.vl_tree.specs.declared.source.Source.{Source}
use Rattle.vl_text.specs.Assumptions.{line_start}
use Rattle.vl_text.specs.Places.{IsPlaceIn, place_of, IsPlacedIn, IsAtPlace, AreAtPlaces, HasTokenPlaces, line_starts}
use Rattle.vl_text.specs.Places.{with_starts}
use Rattle.vl_text.specs.SourceText.{AreLaid, tokens_or, Only, Answers}
use Rattle.vl_text.specs.Texts.{Text, Lexing, IsLexed, AreLexed, lexed_bytes, is_before, least, nothing_lexed}
use Rattle.vl_text.specs.Texts.{with_lexing, laid_behind}
use Rattle.vl_text.specs.declared.fault.TextFault.{TextFault}
use Rattle.vl_text.specs.declared.fault.TextFault.TheVariants.{Lex, Prep, Parse, Memory}
use Rattle.vl_text.specs.declared.lexing.Lexed.{Lexed}

place_after_both : (p : Pos) (a b : List ℕ) → place_after p (a ++ b) ≡ place_after (place_after p a) b
place_after_both p [] b = refl
place_after_both p (x ∷ a) b = place_after_both (place_behind p x) a b

-- one text, with what holds of the places in it
module _ (x : Text) (P : Pos → Type 0)
    (in_text : (front rest : List ℕ) → lexed_bytes x ≡ front ++ rest
    → P (place_after (start_of x.file x.line) front)) where
  abbrev AreIn : List Token → Type 0
  AreIn ts = All (λ t. P t.pos) ts

  -- where the pieces begin behind a front
  abbrev behind : List ℕ → Pos
  behind front = place_after (start_of x.file x.line) front

  taken : (b : Bool) (p : Piece) (at : Pos) (Others : List Token → Type 0) (ts : List Token) → P at
      → ((us : List Token) → Others us → AreIn us) → Takes b p at Others ts → AreIn ts
  taken false p at Others ts here others h = others ts h
  taken true p at Others [] here others h = absurd h
  taken true p at Others (t ∷ ts) here others h =
      All-cons (λ u. P u.pos) t ts (subst P (sym h.0.pos) here) (others ts h.1)

  one_more : (p : Piece) (ps : List Piece) (front : List ℕ) (ts : List Token)
      → AreOf ps (place_after (behind front) (text_of p)) ts → AreOf ps (behind (front ++ text_of p)) ts
  one_more p ps front ts h =
      subst (λ q. AreOf ps q ts) (sym (place_after_both (start_of x.file x.line) front (text_of p))) h

  pieces_in : (ps : List Piece) (front : List ℕ) → lexed_bytes x ≡ front ++ joined ps → (ts : List Token)
      → AreOf ps (behind front) ts → AreIn ts
  pieces_in [] front e ts h = subst AreIn (sym h) (All-nil (λ t. P t.pos))
  pieces_in (p ∷ ps) front e ts h =
      taken (is_token p) p (behind front) (AreOf ps (place_after (behind front) (text_of p))) ts
      (in_text front (joined (p ∷ ps)) e)
      (λ us g. pieces_in ps (front ++ text_of p) (e ∙ sym (append_assoc front (text_of p) (joined ps))) us
      (one_more p ps front us g)) h

  tokens_in : (ts : List Token) → AreTokens x.file x.line (lexed_bytes x) ts → AreIn ts
  tokens_in ts h = pieces_in h.pieces [] h.same ts h.tokens

  refused_in : (f : LexFault) → lexer.Refuses f x.file x.line (lexed_bytes x) → IfSome (fault_place f) P
  refused_in (lex.NotAscii at) r = subst P (sym r.place) (in_text r.front r.rest r.same)
  refused_in (lex.BadNumber at) r = subst P (sym r.place) (in_text r.front r.rest r.same)
  refused_in (lex.OpenComment at) r = subst P (sym r.place) (in_text r.front r.rest r.same)
  refused_in (lex.BadChar at) r = subst P (sym r.place) (in_text r.front r.rest r.same)
  refused_in (lex.TooManyTokens at) r = subst P (sym r.place) (in_text r.front r.rest r.same)
  refused_in (lex.OpenString at) r = subst P (sym r.place) (in_text r.front r.rest r.same)
  refused_in lex.Memory r = tt

-- what is laid so far
module _ (P : Pos → Type 0) where
  record LexedIn (s : Lexed) : Type 0 where
    tokens : All (λ t. P t.pos) s.tokens
    fault : IfSome s.fault (λ f. IfSome (fault_place f) P)

  abbrev LexingIn : Lexing → Type 0
  LexingIn (Ok ts) = All (λ t. P t.pos) ts
  LexingIn (Err f) = IfSome (fault_place f) P

  chosen_in : (b : Bool) (f g : LexFault) → IfSome (fault_place f) P → IfSome (fault_place g) P
      → IfSome (fault_place (if b then f else g)) P
  chosen_in true f g h i = h
  chosen_in false f g h i = i

  least_in : (o : Option LexFault) (f : LexFault) → IfSome o (λ g. IfSome (fault_place g) P)
      → IfSome (fault_place f) P → IfSome (fault_place (least o f)) P
  least_in None f h i = i
  least_in (Some g) f h i = chosen_in (is_before f g) f g i h

  with_in : (s : Lexed) (r : Lexing) → LexedIn s → LexingIn r → LexedIn (with_lexing s r)
  with_in s (Ok ts) h i = record { tokens = All-append (λ t. P t.pos) s.tokens ts h.tokens i; fault = h.fault }
  with_in s (Err f) h i = record { tokens = h.tokens; fault = least_in s.fault f h.fault i }

  abbrev InText : Text → Type 0
  InText x = (front rest : List ℕ) → lexed_bytes x ≡ front ++ rest → P (place_after (start_of x.file x.line) front)

  lexing_in : (x : Text) → InText x → (r : Lexing) → IsLexed x r → LexingIn r
  lexing_in x i (Ok ts) h = tokens_in x P i ts h
  lexing_in x i (Err f) h = refused_in x P i f h

  texts_in : (xs : List Text) (rs : List Lexing) (s : Lexed) → All InText xs → AreLexed xs rs → LexedIn s
      → LexedIn (laid_behind s rs)
  texts_in [] [] s i h g = g
  texts_in [] (r ∷ rs) s i h g = absurd h
  texts_in (x ∷ xs) [] s i h g = absurd h
  texts_in (x ∷ xs) (r ∷ rs) s i h g =
      texts_in xs rs (with_lexing s r) (All-tail InText x xs i) h.1
      (with_in s r g (lexing_in x (All-head InText x xs i) r h.0))

  laid_in : (texts lines : List Text) (r : Result (List Token) TextFault) → All InText texts → All InText lines
      → (laid : AreLaid texts lines r) → LexedIn laid.all
  laid_in texts lines r i j h =
      subst LexedIn (sym h.laid)
      (texts_in lines h.of_lines (laid_behind nothing_lexed h.of_texts) j h.lines_lexed
      (texts_in texts h.of_texts nothing_lexed i h.texts_lexed
      (record { tokens = All-nil (λ t. P t.pos); fault = tt })))

module _ (texts lines : List Text) where
  abbrev Here : Pos → Type 0
  Here place = IsPlaceIn (texts ++ lines) place

  all_in : All (InText Here) (texts ++ lines)
  all_in = λ k d less front rest same.
      record {
        text = get_or (texts ++ lines) k d;
        among = All-contains_itself (texts ++ lines) k d less;
        front = front;
        rest = rest;
        same = same;
        place_is = refl;
      }

  these : LexedIn Here nothing_lexed
  these = record { tokens = All-nil (λ t. Here t.pos); fault = tt }

  abbrev Stands : Result (List Token) TextFault → Type 0
  Stands (Ok ts) = All (λ t. Here t.pos) ts
  Stands (Err f) = IsPlacedIn (texts ++ lines) f

  stands : (fault : Option LexFault) (tokens : List Token) → All (λ t. Here t.pos) tokens
      → IfSome fault (λ f. IfSome (fault_place f) Here) → Stands (tokens_or fault tokens)
  stands None tokens h i = h
  stands (Some f) tokens h i = i

  split_front : (xs ys : List Text) → All (InText Here) (xs ++ ys) → All (InText Here) xs
  split_front [] ys h = All-nil (InText Here)
  split_front (x ∷ xs) ys h =
      All-cons (InText Here) x xs (All-head (InText Here) x (xs ++ ys) h)
      (split_front xs ys (All-tail (InText Here) x (xs ++ ys) h))

  split_back : (xs ys : List Text) → All (InText Here) (xs ++ ys) → All (InText Here) ys
  split_back [] ys h = h
  split_back (x ∷ xs) ys h = split_back xs ys (All-tail (InText Here) x (xs ++ ys) h)

  -- tokens and faults of the lexer are at places in the texts
  pub laid_stands : (r : Result (List Token) TextFault) → AreLaid texts lines r → Stands r
  laid_stands r h =
      let all : LexedIn Here h.all =
      laid_in Here texts lines r (split_front texts lines all_in) (split_back texts lines all_in) h in
      subst Stands (sym h.comes) (stands h.all.fault h.all.tokens all.tokens all.fault)

  -- and so is where a line of assumptions begins
  starts_in : (xs : List Text) → All (InText Here) xs → All Here (line_starts xs)
  starts_in [] h = All-nil Here
  starts_in (x ∷ xs) h =
      All-cons Here (line_start x) (line_starts xs) (All-head (InText Here) x xs h [] (lexed_bytes x) refl)
      (starts_in xs (All-tail (InText Here) x xs h))

  mapped : (us : List Token) → All (λ t. Here t.pos) us → All Here (places us)
  mapped [] g = All-nil Here
  mapped (u ∷ us) g =
      All-cons Here u.pos (places us) (All-head (λ t. Here t.pos) u us g)
      (mapped us (All-tail (λ t. Here t.pos) u us g))

  -- so is what is at one of these places
  pub fault_in : (ts : List Token) (fault : TextFault) → All (λ t. Here t.pos) ts
      → IsAtPlace (with_starts lines ts) fault → IsPlacedIn (texts ++ lines) fault
  fault_in ts fault h i = some (place_of fault) i
    where
      all : All Here (with_starts lines ts)
      all = All-append Here (places ts) (line_starts lines) (mapped ts h) (starts_in lines (split_back texts lines all_in))

      some : (o : Option Pos) → IfSome o (λ place. Contains (with_starts lines ts) place) → IfSome o Here
      some None c = tt
      some (Some place) c = All-contains Here (with_starts lines ts) place all c

module _ (texts lines : List Text) where
  pub nodes_behind : (ts : List Token) → Only (AreLaid texts lines) (Ok ts)
      → (r : Result (Source × Macros) TextFault)
      → MatchResult r (λ s. AreAtPlaces (with_starts lines ts) s.0) (λ fault. IsAtPlace (with_starts lines ts) fault)
      → IfOk r (λ s. HasTokenPlaces texts lines s.0)
  nodes_behind ts laid (Ok s) h = record { tokens = ts; laid = laid.is; nodes = h }
  nodes_behind ts laid (Err fault) h = tt

  pub placed_behind : (ts : List Token) → Only (AreLaid texts lines) (Ok ts)
      → (r : Result (Source × Macros) TextFault)
      → MatchResult r (λ s. AreAtPlaces (with_starts lines ts) s.0) (λ fault. IsAtPlace (with_starts lines ts) fault)
      → IfErr r (λ fault. IsPlacedIn (texts ++ lines) fault)
  placed_behind ts laid (Ok s) h = tt
  placed_behind ts laid (Err fault) h = fault_in texts lines ts fault (laid_stands texts lines (Ok ts) laid.is) h

  pub placed_lexing : (fault : TextFault) → Answers (AreLaid texts lines) (Err fault)
      → IsPlacedIn (texts ++ lines) fault
  placed_lexing (Lex f) laid = laid_stands texts lines (Err (Lex f)) laid.is
  placed_lexing (Prep f) laid = laid_stands texts lines (Err (Prep f)) laid.is
  placed_lexing (Parse f) laid = laid_stands texts lines (Err (Parse f)) laid.is
  placed_lexing Memory laid = tt
