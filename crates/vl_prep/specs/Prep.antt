-- Meaning: What the public calls promise. What comes of tokens, read one by one. `groups_decide` ties it to nested
-- groups.
use Rattle.std.specs.Prelude.{
  ℕ,
  zero,
  suc,
  Bool,
  true,
  false,
  if◌then◌else◌,
  not,
  nat_lt,
  List,
  [],
  ◌∷◌,
  ◌++◌,
  length,
  Option,
}
use Rattle.std.specs.Prelude.{None, Some, is_some, unwrap_or, Result, Ok, Err}
use Rattle.fv_text.specs.declared.kind.Kind.{Kind}
use Rattle.fv_text.specs.declared.kind.Kind.TheVariants as k
use Rattle.fv_text.specs.declared.pos.Pos.{Pos}
use Rattle.fv_text.specs.declared.token.Token.{Token}
use Rattle.vl_prep.specs.declared.directive.Directive.{Directive}
use Rattle.vl_prep.specs.declared.directive.Directive.TheVariants.{Define, Undef, IfDef, IfNotDef, ElseIf, Else}
use Rattle.vl_prep.specs.declared.directive.Directive.TheVariants.{EndIf, Include}
use Rattle.vl_prep.specs.declared.fault.PrepFault.{PrepFault}
use Rattle.vl_prep.specs.declared.opens.Open.{Open}
use Rattle.vl_prep.specs.declared.reading.Reading.{Reading}
use Rattle.vl_prep.specs.declared.reading.Reading.TheVariants.{Plain, Named, Body as InBody, Dropped}
use Rattle.vl_prep.specs.declared.reading.Body.{Body}
use Rattle.vl_prep.specs.declared.refusal.Cause.{Cause}
use Rattle.vl_prep.specs.declared.refusal.Cause.TheVariants as cause
use Rattle.vl_prep.specs.declared.refusal.Refusal.{Refusal}
use Rattle.vl_prep.specs.Directive.{directive_of}
use Rattle.vl_prep.specs.Lines.{on_line, line_behind, goes_on, has_bracket}
use Rattle.vl_prep.specs.Macros.{Held, with_text}
use Rattle.vl_prep.specs.Opens.{are_chosen, opened, is_open, can_turn, turned, closed}
use Rattle.vl_prep.specs.Refusals.{least, refusal, fault_of}

-- what reading has come to
pub record Done : Type 0 where
  -- the macros that are defined here
  pub macros : Held
  -- what was put out
  pub output : List Token
  -- the refusal that is answered, of those that were met
  pub refusal : Option Refusal

-- where the reading of a text stands
pub record Stand : Type 0 where
  pub done : Done
  -- the conditionals of this text that are open
  pub opens : List Open
  -- what is begun
  pub reading : Reading

abbrev pub at_first : Held → Done
at_first macros = record { macros = macros; output = []; refusal = None }

abbrev pub redefined : List ℕ → Option (List Token) → Done → Done
redefined name text done = record done { macros = with_text name text done.macros }

abbrev pub moved : Token → Pos → Token
moved t pos = record { kind = t.kind; pos = pos; named = t.named }

abbrev pub put_out : Done → Token → Done
put_out done t = record { macros = done.macros; output = done.output ++ t ∷ []; refusal = done.refusal }

-- one more refusal is met
abbrev pub refused : Pos → Cause → Done → Done
refused place cause done = record done { refusal = Some (least done.refusal (refusal place cause)) }

abbrev pub is_defined : Done → List ℕ → Bool
is_defined done name = is_some (done.macros name)

-- a token is put out, as one of 2,000,000 at most; one past them is dropped (rule of this project)
abbrev pub put : Done → Token → Done
put done t = if nat_lt (length done.output) 2000000 then put_out done t else refused t.pos cause.TooManyTokens done

-- the conditionals that are open at the end of a text have no partners
abbrev pub all_refused : List Open → Done → Done
all_refused [] done = done
all_refused (o ∷ os) done = all_refused os (refused o.place cause.UnbalancedIf done)

abbrev pub with_done : Stand → Done → Stand
with_done s done = record { done = done; opens = s.opens; reading = Plain }

abbrev pub with_opens : Stand → List Open → Stand
with_opens s opens = record { done = s.done; opens = opens; reading = Plain }

abbrev pub begun : Stand → Reading → Stand
begun s reading = record { done = s.done; opens = s.opens; reading = reading }

-- the text of a macro with one more token
abbrev pub body_with : Body → Token → Kind → Body
body_with b t k.Continue = record { name = b.name; pos = b.pos; line = line_behind b.line; tokens = b.tokens }
body_with b t kind = record { name = b.name; pos = b.pos; line = b.line; tokens = b.tokens ++ t ∷ [] }

abbrev pub end_of_body : Stand → Body → Stand
end_of_body s b = with_done s (redefined b.name (Some b.tokens) s.done)

-- one text: `at` is the place of the outermost use, in a macro's text
module _ (at : Option Pos) where
  -- the place that counts for a token of this text
  abbrev pub place : Pos → Pos
  place pos = unwrap_or at pos

  -- the construct at the place is passed over
  abbrev pub refused_at : Stand → Pos → Cause → Stand
  refused_at s pos cause = with_done s (refused (place pos) cause s.done)

  abbrev pub put_chosen : Stand → Token → Stand
  put_chosen s t = if are_chosen s.opens then with_done s (put s.done (moved t (place t.pos))) else begun s Plain

  -- the directives that count in chosen groups alone
  abbrev pub in_chosen : Stand → Directive → Pos → Stand
  in_chosen s Define pos = begun s (Named Define pos)
  in_chosen s Undef pos = begun s (Named Undef pos)
  in_chosen s Include pos = refused_at s pos cause.Include
  in_chosen s d pos = begun s (Dropped pos)

  abbrev pub at_directive : Stand → Directive → Pos → Stand
  at_directive s IfDef pos = begun s (Named IfDef pos)
  at_directive s IfNotDef pos = begun s (Named IfNotDef pos)
  at_directive s ElseIf pos =
      if can_turn s.opens then begun s (Named ElseIf pos) else refused_at s pos cause.UnbalancedIf
  at_directive s Else pos =
      if can_turn s.opens then with_opens s (turned true true s.opens) else refused_at s pos cause.UnbalancedIf
  at_directive s EndIf pos =
      if is_open s.opens then with_opens s (closed s.opens) else refused_at s pos cause.UnbalancedIf
  at_directive s d pos = if are_chosen s.opens then in_chosen s d pos else begun s Plain

  -- a directive at a place, its name, and the name's place
  abbrev pub named : Stand → Directive → Pos → List ℕ → Pos → Stand
  named s Define at_d name pos = begun s (InBody (record { name = name; pos = pos; line = pos.line; tokens = [] }))
  named s Undef at_d name pos = with_done s (redefined name None s.done)
  named s IfNotDef at_d name pos = with_opens s (opened (place at_d) (not (is_defined s.done name)) s.opens)
  named s ElseIf at_d name pos = with_opens s (turned false (is_defined s.done name) s.opens)
  named s d at_d name pos = with_opens s (opened (place at_d) (is_defined s.done name) s.opens)

  -- a token on the line of a macro's text. A bracket directly behind the name is refused, and is of the text
  abbrev pub in_body : Stand → Body → Token → Stand
  in_body s b t = record s {
    done = if has_bracket b t then refused (place t.pos) cause.MacroArgs s.done else s.done;
    reading = InBody (body_with b t t.kind);
  }

  -- what is begun comes to its end with the text
  abbrev pub reading_ended : Stand → Reading → Done
  reading_ended s (Named d pos) = refused (place pos) cause.NoName s.done
  reading_ended s (InBody b) = redefined b.name (Some b.tokens) s.done
  reading_ended s reading = s.done

  -- the end of the text
  abbrev pub at_end : Stand → Done
  at_end s = all_refused s.opens (reading_ended s s.reading)

-- the use of a macro: `expand` gives what its text comes to at a place
module _ (at : Option Pos) (expand : Pos → List Token → Done → Done) where
  abbrev pub use_of : Done → List ℕ → Pos → Option (List Token) → Done
  use_of done name pos None = refused (place at pos) (cause.UnknownMacro name) done
  use_of done name pos (Some text) = expand (place at pos) text done

  abbrev pub at_use : Stand → List ℕ → Pos → Stand
  at_use s name pos =
      if are_chosen s.opens then with_done s (use_of s.done name pos (s.done.macros name)) else begun s Plain

  abbrev pub at_tick : Stand → List ℕ → Pos → Option Directive → Stand
  at_tick s word pos (Some d) = at_directive at s d pos
  at_tick s word pos None = at_use s word pos

  -- a token where nothing is begun
  abbrev pub at_plain : Stand → Token → Kind → Stand
  at_plain s t (k.Tick word) = at_tick s word t.pos (directive_of word)
  at_plain s t k.Continue = begun s Plain
  at_plain s t kind = put_chosen at s t

  -- the token behind a directive that needs a name. Where it is none, the directive is passed over
  abbrev pub at_named : Stand → Directive → Pos → Token → Kind → Stand
  at_named s d pos t (k.Name name) =
      if on_line pos t.pos then named at s d pos name t.pos else at_plain (refused_at at s pos cause.NoName) t t.kind
  at_named s d pos t kind = at_plain (refused_at at s pos cause.NoName) t t.kind

  abbrev pub at_token : Stand → Token → Reading → Stand
  at_token s t Plain = at_plain s t t.kind
  at_token s t (Named d pos) = at_named s d pos t t.kind
  at_token s t (InBody b) = if goes_on b t.pos then in_body at s b t else at_plain (end_of_body s b) t t.kind
  at_token s t (Dropped pos) = if on_line pos t.pos then begun s (Dropped pos) else at_plain s t t.kind

  abbrev pub read_from : Stand → List Token → Done
  read_from s [] = at_end at s
  read_from s (t ∷ ts) = read_from (at_token s t s.reading) ts

abbrev pub started : Done → Stand
started done = record { done = done; opens = []; reading = Plain }

-- what the use of a macro comes to: its text, read where so many uses may still stand within one another. One too deep
-- comes to nothing
unfoldable pub expand : ℕ → Pos → List Token → Done → Done
expand zero pos text done = refused pos cause.MacroDepth done
expand (suc n) pos text done = read_from (Some pos) (expand n) (started done) text

-- the macros that are defined at the end, and what was put out
pub record Outcome : Type 0 where
  pub macros : Held
  pub output : List Token

abbrev pub answer_of : Done → Option Refusal → Result Outcome PrepFault
answer_of done None = Ok (record { macros = done.macros; output = done.output })
answer_of done (Some r) = Err (fault_of r)

abbrev pub answer : Done → Result Outcome PrepFault
answer done = answer_of done done.refusal

-- what comes of the tokens with these macros, or the fault that is answered. 32 uses may stand within one another
-- (rule of this project)
abbrev pub preprocessed : Held → List Token → Result Outcome PrepFault
preprocessed macros tokens = answer (read_from None (expand 32) (started (at_first macros)) tokens)
