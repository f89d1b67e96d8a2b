-- Single steps of the reading, where nothing is begun in between.
use Rattle.std.proofs.Common.{◌≡◌, ℕ, List, [], ◌∷◌, ◌++◌, ◌==◌, ◌&&◌, refl, ap, sym, ◌∙◌, append-nil, append_assoc}
use Rattle.std.proofs.Common.{true≢false}
use Rattle.std.proofs.lemmas.Option.{none-some}
use Rattle.std.specs.Prelude.{Bool, true, false, cond, not, Option, Some, None}
use Rattle.fv_text.specs.declared.kind.Kind.{Kind}
use Rattle.fv_text.specs.declared.kind.Kind.TheVariants as k
use Rattle.fv_text.specs.declared.pos.Pos.{Pos}
use Rattle.fv_text.specs.declared.token.Token.{Token}
use Rattle.vl_prep.specs.declared.directive.Directive.{Directive}
use Rattle.vl_prep.specs.declared.directive.Directive.TheVariants.{Define, Undef, IfDef, IfNotDef, ElseIf, Else}
use Rattle.vl_prep.specs.declared.directive.Directive.TheVariants.{EndIf, Include, TimeScale, DefaultNetType}
use Rattle.vl_prep.specs.declared.opens.Open.{Open}
use Rattle.vl_prep.specs.declared.reading.Reading.{Reading}
use Rattle.vl_prep.specs.declared.reading.Reading.TheVariants.{Plain, Named, Body as InBody, Dropped}
use Rattle.vl_prep.specs.declared.reading.Body.{Body}
use Rattle.vl_prep.specs.declared.refusal.Cause.TheVariants as cause
use Rattle.vl_prep.specs.Directive.{directive_at}
use Rattle.vl_prep.specs.Lines.{on_line, line_behind, begins_arguments}
use Rattle.vl_prep.specs.Opens.{are_chosen, is_open, can_turn, opened, turned}
use Rattle.vl_prep.specs.Prep.{Done, Stand, place, refused, redefined, is_defined, refused_at, named, with_opens}
use Rattle.vl_prep.specs.Prep.{body_with, end_of_body, in_body, in_chosen, at_named, at_directive, put_chosen, use_of}
use Rattle.vl_prep.specs.Prep.{with_done, begun, put, moved, at_tick, at_plain, at_token, read_from}
use Rattle.vl_prep.specs.Groups.{begins, chooses, is_conditional, drops_line, is_plain, needs_name, is_alone, is_name}
use Rattle.vl_prep.specs.Groups.{has_name, IsNamed, behind_line, next_line, with_token, text_at, behind_text}
use Rattle.vl_prep.specs.Groups.{without_arguments, defined}

abbrev pub stand : Done → List Open → Reading → Stand
stand done os reading = record { done = done; opens = os; reading = reading }

abbrev pub plain : Done → List Open → Stand
plain done os = stand done os Plain

abbrev pub body_of : List ℕ → Pos → ℕ → List Token → Body
body_of name pos line tokens = record { name = name; pos = pos; line = line; tokens = tokens }

pub body_with_other : (name : List ℕ) (pos : Pos) (line : ℕ) (tokens : List Token) (t : Token) (kind : Kind)
    → body_with (body_of name pos line tokens) t kind
    ≡ body_of name pos (next_line line kind) (tokens ++ with_token t kind [])
body_with_other name pos line tokens t k.Continue = ap (body_of name pos (line_behind line)) (sym (append-nil tokens))
body_with_other name pos line tokens t (k.Name x) = refl
body_with_other name pos line tokens t (k.Keyword x) = refl
body_with_other name pos line tokens t (k.Symbol x) = refl
body_with_other name pos line tokens t (k.Number x) = refl
body_with_other name pos line tokens t (k.System x) = refl
body_with_other name pos line tokens t (k.Tick x) = refl
body_with_other name pos line tokens t k.Quoted = refl

with_token_of : (t : Token) (kind : Kind) (ts : List Token) → with_token t kind [] ++ ts ≡ with_token t kind ts
with_token_of t k.Continue ts = refl
with_token_of t (k.Name x) ts = refl
with_token_of t (k.Keyword x) ts = refl
with_token_of t (k.Symbol x) ts = refl
with_token_of t (k.Number x) ts = refl
with_token_of t (k.System x) ts = refl
with_token_of t (k.Tick x) ts = refl
with_token_of t k.Quoted ts = refl

longer_text : (tokens : List Token) (t : Token) (kind : Kind) (ts : List Token)
    → (tokens ++ with_token t kind []) ++ ts ≡ tokens ++ with_token t kind ts
longer_text tokens t kind ts =
    append_assoc tokens (with_token t kind []) ts ∙ ap (λ z. tokens ++ z) (with_token_of t kind ts)

cond_not : {X : Type 0} (b : Bool) (x y : X) → not b ≡ true → cond b x y ≡ y
cond_not true x y e = absurd (true≢false (sym e))
cond_not false x y e = refl

pub when : {X : Type 0} (b : Bool) (x y : X) → b ≡ true → cond b x y ≡ x
when b x y e = ap (λ z. cond z x y) e

pub unless : {X : Type 0} (b : Bool) (x y : X) → b ≡ false → cond b x y ≡ y
unless b x y e = ap (λ z. cond z x y) e

module _ (at : Option Pos) (f : Pos → List Token → Done → Done) where
  abbrev pub read : Stand → List Token → Done
  read s ts = read_from at f s ts

  pub step : (s next : Stand) (t : Token) (ts : List Token) → at_token at f s t s.reading ≡ next
      → read s (t ∷ ts) ≡ read next ts
  step s next t ts e = ap (λ n. read n ts) e

  at_is : (s : Stand) (t : Token) (kind : Kind) (d : Directive) → directive_at kind ≡ Some d
      → at_plain at f s t kind ≡ at_directive at s d t.pos
  at_is s t (k.Tick word) d e = ap (at_tick at f s word t.pos) e
  at_is s t k.Continue d e = absurd (none-some d e)
  at_is s t (k.Name x) d e = absurd (none-some d e)
  at_is s t (k.Keyword x) d e = absurd (none-some d e)
  at_is s t (k.Symbol x) d e = absurd (none-some d e)
  at_is s t (k.Number x) d e = absurd (none-some d e)
  at_is s t (k.System x) d e = absurd (none-some d e)
  at_is s t k.Quoted d e = absurd (none-some d e)

  pub directive_step : (done : Done) (os : List Open) (t : Token) (ts : List Token) (d : Directive) (next : Stand)
      → directive_at t.kind ≡ Some d → at_directive at (plain done os) d t.pos ≡ next →
      read (plain done os) (t ∷ ts) ≡ read next ts
  directive_step done os t ts d next e h = step (plain done os) next t ts (at_is (plain done os) t t.kind d e ∙ h)

  -- the token behind a directive that needs a name
  pub name_step : (done : Done) (os : List Open) (d : Directive) (pos : Pos) (n : Token) (name : List ℕ)
      (ts : List Token) → n.kind ≡ k.Name name → on_line pos n.pos ≡ true →
      read (stand done os (Named d pos)) (n ∷ ts) ≡ read (named at (stand done os (Named d pos)) d pos name n.pos) ts
  name_step done os d pos n name ts e l =
      step (stand done os (Named d pos)) (named at (stand done os (Named d pos)) d pos name n.pos) n ts
      (ap (at_named at f (stand done os (Named d pos)) d pos n) e
      ∙ when (on_line pos n.pos) (named at (stand done os (Named d pos)) d pos name n.pos)
      (at_plain at f (refused_at at (stand done os (Named d pos)) pos cause.NoName) n n.kind) l)

  no_name : (s : Stand) (d : Directive) (pos : Pos) (n : Token) (kind : Kind)
      → (is_name kind && on_line pos n.pos) ≡ false
      → at_named at f s d pos n kind ≡ at_plain at f (refused_at at s pos cause.NoName) n n.kind
  no_name s d pos n (k.Name name) e = unless (on_line pos n.pos) (named at s d pos name n.pos)
      (at_plain at f (refused_at at s pos cause.NoName) n n.kind) e
  no_name s d pos n (k.Tick x) e = refl
  no_name s d pos n k.Continue e = refl
  no_name s d pos n (k.Keyword x) e = refl
  no_name s d pos n (k.Symbol x) e = refl
  no_name s d pos n (k.Number x) e = refl
  no_name s d pos n (k.System x) e = refl
  no_name s d pos n k.Quoted e = refl

  pub nameless_step : (done : Done) (os : List Open) (d : Directive) (pos : Pos) (ts : List Token)
      → has_name pos ts ≡ false →
      read (stand done os (Named d pos)) ts ≡ read (plain (refused (place at pos) cause.NoName done) os) ts
  nameless_step done os d pos [] e = refl
  nameless_step done os d pos (n ∷ ts) e = ap (λ s. read s ts) (no_name (stand done os (Named d pos)) d pos n n.kind e)

  put_is : (s : Stand) (t : Token) (kind : Kind) → is_plain kind ≡ true → at_plain at f s t kind ≡ put_chosen at s t
  put_is s t (k.Tick word) e = absurd (true≢false (sym e))
  put_is s t k.Continue e = absurd (true≢false (sym e))
  put_is s t (k.Name x) e = refl
  put_is s t (k.Keyword x) e = refl
  put_is s t (k.Symbol x) e = refl
  put_is s t (k.Number x) e = refl
  put_is s t (k.System x) e = refl
  put_is s t k.Quoted e = refl

  pub put_step : (done : Done) (os : List Open) (t : Token) (ts : List Token) → are_chosen os ≡ true
      → is_plain t.kind ≡ true → read (plain done os) (t ∷ ts)
      ≡ read (plain (put done (moved t (place at t.pos))) os) ts
  put_step done os t ts c e =
      step (plain done os) (plain (put done (moved t (place at t.pos))) os) t ts
      (put_is (plain done os) t t.kind e ∙ when (are_chosen os)
      (with_done (plain done os) (put done (moved t (place at t.pos)))) (plain done os) c)

  pub use_step : (done next : Done) (os : List Open) (t : Token) (name : List ℕ) (ts : List Token)
      → are_chosen os ≡ true → directive_at t.kind ≡ None → t.kind ≡ k.Tick name
      → use_of at f done name t.pos (done.macros name) ≡ next →
      read (plain done os) (t ∷ ts) ≡ read (plain next os) ts
  use_step done next os t name ts c d e h =
      step (plain done os) (plain next os) t ts
      (ap (at_plain at f (plain done os) t) e ∙ ap (at_tick at f (plain done os) name t.pos)
      (sym (ap directive_at e) ∙ d)
      ∙ when (are_chosen os) (plain (use_of at f done name t.pos (done.macros name)) os) (plain done os) c
      ∙ ap (λ z. plain z os) h)

  -- a directive that counts in chosen groups alone
  pub chosen_step : (done : Done) (os : List Open) (t : Token) (ts : List Token) (d : Directive)
      → are_chosen os ≡ true → directive_at t.kind ≡ Some d → is_conditional (Some d) ≡ false →
      read (plain done os) (t ∷ ts) ≡ read (in_chosen at (plain done os) d t.pos) ts
  chosen_step done os t ts d c e i = directive_step done os t ts d (in_chosen at (plain done os) d t.pos) e (of d i)
    where
      of : (d : Directive) → is_conditional (Some d) ≡ false
          → at_directive at (plain done os) d t.pos ≡ in_chosen at (plain done os) d t.pos
      of Define i = when (are_chosen os) (in_chosen at (plain done os) Define t.pos) (plain done os) c
      of Undef i = when (are_chosen os) (in_chosen at (plain done os) Undef t.pos) (plain done os) c
      of Include i = when (are_chosen os) (in_chosen at (plain done os) Include t.pos) (plain done os) c
      of TimeScale i = when (are_chosen os) (in_chosen at (plain done os) TimeScale t.pos) (plain done os) c
      of DefaultNetType i = when (are_chosen os) (in_chosen at (plain done os) DefaultNetType t.pos) (plain done os) c
      of IfDef i = absurd (true≢false i)
      of IfNotDef i = absurd (true≢false i)
      of ElseIf i = absurd (true≢false i)
      of Else i = absurd (true≢false i)
      of EndIf i = absurd (true≢false i)

  other_tick : (done : Done) (os : List Open) (pos : Pos) (word : List ℕ) (d : Option Directive)
      → are_chosen os ≡ false → is_conditional d ≡ false → at_tick at f (plain done os) word pos d ≡ plain done os
  other_tick done os pos word None c e =
      unless (are_chosen os) (plain (use_of at f done word pos (done.macros word)) os) (plain done os) c
  other_tick done os pos word (Some Define) c e =
      unless (are_chosen os) (in_chosen at (plain done os) Define pos) (plain done os) c
  other_tick done os pos word (Some Undef) c e =
      unless (are_chosen os) (in_chosen at (plain done os) Undef pos) (plain done os) c
  other_tick done os pos word (Some Include) c e =
      unless (are_chosen os) (in_chosen at (plain done os) Include pos) (plain done os) c
  other_tick done os pos word (Some TimeScale) c e =
      unless (are_chosen os) (in_chosen at (plain done os) TimeScale pos) (plain done os) c
  other_tick done os pos word (Some DefaultNetType) c e =
      unless (are_chosen os) (in_chosen at (plain done os) DefaultNetType pos) (plain done os) c
  other_tick done os pos word (Some IfDef) c e = absurd (true≢false e)
  other_tick done os pos word (Some IfNotDef) c e = absurd (true≢false e)
  other_tick done os pos word (Some ElseIf) c e = absurd (true≢false e)
  other_tick done os pos word (Some Else) c e = absurd (true≢false e)
  other_tick done os pos word (Some EndIf) c e = absurd (true≢false e)

  other_put : (done : Done) (os : List Open) (t : Token) → are_chosen os ≡ false
      → put_chosen at (plain done os) t ≡ plain done os
  other_put done os t c =
      unless (are_chosen os) (with_done (plain done os) (put done (moved t (place at t.pos)))) (plain done os) c

  -- a token in a group that isn't chosen
  pub other_step : (done : Done) (os : List Open) (t : Token) (kind : Kind) → are_chosen os ≡ false
      → is_conditional (directive_at kind) ≡ false → at_plain at f (plain done os) t kind ≡ plain done os
  other_step done os t (k.Tick word) c e = other_tick done os t.pos word (directive_at (k.Tick word)) c e
  other_step done os t k.Continue c e = refl
  other_step done os t (k.Name x) c e = other_put done os t c
  other_step done os t (k.Keyword x) c e = other_put done os t c
  other_step done os t (k.Symbol x) c e = other_put done os t c
  other_step done os t (k.Number x) c e = other_put done os t c
  other_step done os t (k.System x) c e = other_put done os t c
  other_step done os t k.Quoted c e = other_put done os t c

  -- a directive without its conditional
  pub alone_step : (done : Done) (os : List Open) (pos : Pos) (d : Directive) → is_alone os d ≡ true
      → at_directive at (plain done os) d pos ≡ plain (refused (place at pos) cause.UnbalancedIf done) os
  alone_step done os pos ElseIf e = cond_not (can_turn os) (stand done os (Named ElseIf pos))
      (plain (refused (place at pos) cause.UnbalancedIf done) os) e
  alone_step done os pos Else e = cond_not (can_turn os) (plain done (turned true true os))
      (plain (refused (place at pos) cause.UnbalancedIf done) os) e
  alone_step done os pos EndIf e = cond_not (is_open os) _ (plain (refused (place at pos) cause.UnbalancedIf done) os) e
  alone_step done os pos IfDef e = absurd (true≢false (sym e))
  alone_step done os pos IfNotDef e = absurd (true≢false (sym e))
  alone_step done os pos Define e = absurd (true≢false (sym e))
  alone_step done os pos Undef e = absurd (true≢false (sym e))
  alone_step done os pos Include e = absurd (true≢false (sym e))
  alone_step done os pos TimeScale e = absurd (true≢false (sym e))
  alone_step done os pos DefaultNetType e = absurd (true≢false (sym e))

  -- a directive that waits for its name
  pub named_step : (done : Done) (os : List Open) (pos : Pos) (d : Directive) → needs_name os d ≡ true
      → at_directive at (plain done os) d pos ≡ stand done os (Named d pos)
  named_step done os pos Define e = when (are_chosen os) (stand done os (Named Define pos)) (plain done os) e
  named_step done os pos Undef e = when (are_chosen os) (stand done os (Named Undef pos)) (plain done os) e
  named_step done os pos IfDef e = refl
  named_step done os pos IfNotDef e = refl
  named_step done os pos ElseIf e = when (can_turn os) (stand done os (Named ElseIf pos))
      (plain (refused (place at pos) cause.UnbalancedIf done) os) e
  named_step done os pos Else e = absurd (true≢false (sym e))
  named_step done os pos EndIf e = absurd (true≢false (sym e))
  named_step done os pos Include e = absurd (true≢false (sym e))
  named_step done os pos TimeScale e = absurd (true≢false (sym e))
  named_step done os pos DefaultNetType e = absurd (true≢false (sym e))

  -- a directive with its name
  pub with_name_step : (done : Done) (os : List Open) (t n : Token) (d : Directive) (name : List ℕ) (ts : List Token)
      → IsNamed d name t n → needs_name os d ≡ true →
      read (plain done os) (t ∷ n ∷ ts) ≡ read (named at (stand done os (Named d t.pos)) d t.pos name n.pos) ts
  with_name_step done os t n d name ts i e =
      directive_step done os t (n ∷ ts) d (stand done os (Named d t.pos)) i.directive (named_step done os t.pos d e)
      ∙ name_step done os d t.pos n name ts i.word i.line

  pub begin_step : (done : Done) (os : List Open) (t n : Token) (d : Directive) (name : List ℕ) (ts : List Token)
      → IsNamed d name t n → begins d ≡ true →
      read (plain done os) (t ∷ n ∷ ts) ≡ read
      (plain done (opened (place at t.pos) (chooses d (is_defined done name)) os)) ts
  begin_step done os t n IfDef name ts i b = with_name_step done os t n IfDef name ts i refl
  begin_step done os t n IfNotDef name ts i b = with_name_step done os t n IfNotDef name ts i refl
  begin_step done os t n Define name ts i b = absurd (true≢false (sym b))
  begin_step done os t n Undef name ts i b = absurd (true≢false (sym b))
  begin_step done os t n ElseIf name ts i b = absurd (true≢false (sym b))
  begin_step done os t n Else name ts i b = absurd (true≢false (sym b))
  begin_step done os t n EndIf name ts i b = absurd (true≢false (sym b))
  begin_step done os t n Include name ts i b = absurd (true≢false (sym b))
  begin_step done os t n TimeScale name ts i b = absurd (true≢false (sym b))
  begin_step done os t n DefaultNetType name ts i b = absurd (true≢false (sym b))

  -- what was begun is no matter where the next token is read as such
  whatever_directive : (done : Done) (os : List Open) (r : Reading) (pos : Pos) (d : Directive)
      → at_directive at (stand done os r) d pos ≡ at_directive at (plain done os) d pos
  whatever_directive done os r pos IfDef = refl
  whatever_directive done os r pos IfNotDef = refl
  whatever_directive done os r pos ElseIf = refl
  whatever_directive done os r pos Else = refl
  whatever_directive done os r pos EndIf = refl
  whatever_directive done os r pos Define = refl
  whatever_directive done os r pos Undef = refl
  whatever_directive done os r pos Include = refl
  whatever_directive done os r pos TimeScale = refl
  whatever_directive done os r pos DefaultNetType = refl

  whatever_tick : (done : Done) (os : List Open) (r : Reading) (pos : Pos) (word : List ℕ) (d : Option Directive)
      → at_tick at f (stand done os r) word pos d ≡ at_tick at f (plain done os) word pos d
  whatever_tick done os r pos word None = refl
  whatever_tick done os r pos word (Some d) = whatever_directive done os r pos d

  whatever_begun : (done : Done) (os : List Open) (r : Reading) (t : Token) (kind : Kind)
      → at_plain at f (stand done os r) t kind ≡ at_plain at f (plain done os) t kind
  whatever_begun done os r t (k.Tick word) = whatever_tick done os r t.pos word (directive_at (k.Tick word))
  whatever_begun done os r t k.Continue = refl
  whatever_begun done os r t (k.Name x) = refl
  whatever_begun done os r t (k.Keyword x) = refl
  whatever_begun done os r t (k.Symbol x) = refl
  whatever_begun done os r t (k.Number x) = refl
  whatever_begun done os r t (k.System x) = refl
  whatever_begun done os r t k.Quoted = refl

  -- a line whose rest is dropped
  line_step : (done : Done) (os : List Open) (pos : Pos) (ts : List Token)
      → read (stand done os (Dropped pos)) ts ≡ read (plain done os) (behind_line pos ts)
  line_step done os pos [] = refl
  line_step done os pos (t ∷ ts) = by (on_line pos t.pos) refl (line_step done os pos ts)
    where
      by : (b : Bool) → on_line pos t.pos ≡ b → read (stand done os (Dropped pos)) ts
          ≡ read (plain done os) (behind_line pos ts) →
          read (stand done os (Dropped pos)) (t ∷ ts)
          ≡ read (plain done os) (cond (on_line pos t.pos) (behind_line pos ts) (t ∷ ts))
      by true e more =
          ap (λ b. read (cond b (stand done os (Dropped pos))
          (at_plain at f (stand done os (Dropped pos)) t t.kind)) ts) e
          ∙ more ∙ ap (λ b. read (plain done os) (cond b (behind_line pos ts) (t ∷ ts))) (sym e)
      by false e more =
          ap (λ b. read (cond b (stand done os (Dropped pos))
          (at_plain at f (stand done os (Dropped pos)) t t.kind)) ts) e
          ∙ at_either t.kind
          ∙ ap (λ b. read (plain done os) (cond b (behind_line pos ts) (t ∷ ts))) (sym e)
        where
          at_either : (kind : Kind) → read (at_plain at f (stand done os (Dropped pos)) t kind) ts
              ≡ read (at_plain at f (plain done os) t kind) ts
          at_either kind = ap (λ s. read s ts) (whatever_begun done os (Dropped pos) t kind)

  pub drop_step : (done : Done) (os : List Open) (t : Token) (ts : List Token) (d : Directive) → are_chosen os ≡ true
      → directive_at t.kind ≡ Some d → drops_line d ≡ true →
      read (plain done os) (t ∷ ts) ≡ read (plain done os) (behind_line t.pos ts)
  drop_step done os t ts TimeScale c e h = chosen_step done os t ts TimeScale c e refl ∙ line_step done os t.pos ts
  drop_step done os t ts DefaultNetType c e h =
      chosen_step done os t ts DefaultNetType c e refl ∙ line_step done os t.pos ts
  drop_step done os t ts Define c e h = absurd (true≢false (sym h))
  drop_step done os t ts Undef c e h = absurd (true≢false (sym h))
  drop_step done os t ts Include c e h = absurd (true≢false (sym h))
  drop_step done os t ts IfDef c e h = absurd (true≢false (sym h))
  drop_step done os t ts IfNotDef c e h = absurd (true≢false (sym h))
  drop_step done os t ts ElseIf c e h = absurd (true≢false (sym h))
  drop_step done os t ts Else c e h = absurd (true≢false (sym h))
  drop_step done os t ts EndIf c e h = absurd (true≢false (sym h))

  -- the text of a macro
  abbrev in_text : Done → List Open → List ℕ → Pos → ℕ → List Token → Stand
  in_text done os name pos line tokens = stand done os (InBody (body_of name pos line tokens))

  abbrev behind : Done → List Open → List ℕ → Pos → ℕ → List Token → List Token → Done
  behind done os name pos line tokens ts =
      read (plain (redefined name (Some (tokens ++ text_at pos.file line ts))
      (without_arguments at name pos line ts done)) os) (behind_text pos.file line ts)

  abbrev judged : Done → List ℕ → Pos → Token → Done
  judged done name pos t = cond (begins_arguments name pos t) (refused (place at t.pos) cause.MacroArgs done) done

  pub body_step : (done : Done) (os : List Open) (name : List ℕ) (pos : Pos) (line : ℕ) (tokens ts : List Token)
      → read (in_text done os name pos line tokens) ts ≡ behind done os name pos line tokens ts
  body_step done os name pos line tokens [] =
      ap (λ z. read (plain (redefined name (Some z) done) os) []) (sym (append-nil tokens))
  body_step done os name pos line tokens (t ∷ ts) =
      by (t.pos.file == pos.file && t.pos.line == line) refl
      (body_step (judged done name pos t) os name pos (next_line line t.kind) (tokens ++ with_token t t.kind []) ts)
    where
      by : (b : Bool) → (t.pos.file == pos.file && t.pos.line == line) ≡ b →
          read (in_text (judged done name pos t) os name pos (next_line line t.kind)
          (tokens ++ with_token t t.kind [])) ts
          ≡ behind (judged done name pos t) os name pos (next_line line t.kind) (tokens ++ with_token t t.kind []) ts →
          read (in_text done os name pos line tokens) (t ∷ ts) ≡ behind done os name pos line tokens (t ∷ ts)
      by true e more =
          ap (λ b. read (cond b (in_body at (in_text done os name pos line tokens) (body_of name pos line tokens) t)
          (at_plain at f (end_of_body (in_text done os name pos line tokens)
          (body_of name pos line tokens)) t t.kind)) ts) e
          ∙ ap (λ b. read (stand (judged done name pos t) os (InBody b)) ts)
          (body_with_other name pos line tokens t t.kind)
          ∙ more
          ∙ ap (λ z. read (plain (redefined name (Some z)
          (without_arguments at name pos (next_line line t.kind) ts (judged done name pos t))) os)
          (behind_text pos.file (next_line line t.kind) ts))
          (longer_text tokens t t.kind (text_at pos.file (next_line line t.kind) ts))
          ∙ ap (λ b. read (plain (redefined name (Some
          (tokens ++ cond b (with_token t t.kind (text_at pos.file (next_line line t.kind) ts)) []))
          (cond b (without_arguments at name pos (next_line line t.kind) ts (judged done name pos t)) done)) os)
          (cond b (behind_text pos.file (next_line line t.kind) ts) (t ∷ ts))) (sym e)
      by false e more =
          ap (λ b. read (cond b (in_body at (in_text done os name pos line tokens) (body_of name pos line tokens) t)
          (at_plain at f (end_of_body (in_text done os name pos line tokens)
          (body_of name pos line tokens)) t t.kind)) ts) e
          ∙ ap (λ z. read (plain (redefined name (Some z) done) os) (t ∷ ts)) (sym (append-nil tokens))
          ∙ ap (λ b. read (plain (redefined name (Some
          (tokens ++ cond b (with_token t t.kind (text_at pos.file (next_line line t.kind) ts)) []))
          (cond b (without_arguments at name pos (next_line line t.kind) ts (judged done name pos t)) done)) os)
          (cond b (behind_text pos.file (next_line line t.kind) ts) (t ∷ ts))) (sym e)
