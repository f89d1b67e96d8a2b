-- Between functions: What the public calls promise. Tokens as nested groups, and what comes of them (IEEE 1364-2005,
-- clause 19). A text is read from its front: each rule below takes one construct there, and leads from the tokens and
-- what was read before it to those behind it. A conditional is `ifdef or `ifndef with a name and a group, then `elsif
-- groups with a name each, perhaps an `else group, and `endif (section 19.4). A group is again tokens and
-- conditionals. At most one group of a conditional is chosen.
--
-- Reading goes on behind what is refused (rule of this project): of an unknown macro, a macro too deep and an `include
-- nothing comes, a directive without its name or without its conditional is passed over, a token past the limit is
-- dropped, a macro with arguments has the text that is written, and a conditional without its `endif ends with the
-- text. So a text has all refusals that these rules meet, and the least of them is answered.
use Rattle.std.specs.Prelude.{
  ◌≡◌,
  ℕ,
  zero,
  suc,
  Bool,
  true,
  false,
  if◌then◌else◌,
  ◌&&◌,
  ◌==◌,
  not,
  List,
  [],
  ◌∷◌,
  Option,
}
use Rattle.std.specs.Prelude.{None, Some}
use Rattle.fv_text.specs.declared.kind.Kind.{Kind}
use Rattle.fv_text.specs.declared.kind.Kind.TheVariants as k
use Rattle.fv_text.specs.declared.pos.Pos.{Pos}
use Rattle.fv_text.specs.declared.token.Token.{Token}
use Rattle.vl_prep.specs.declared.directive.Directive.{Directive}
use Rattle.vl_prep.specs.declared.directive.Directive.TheVariants.{Define, Undef, IfDef, IfNotDef, ElseIf, Else}
use Rattle.vl_prep.specs.declared.directive.Directive.TheVariants.{EndIf, Include, TimeScale, DefaultNetType}
use Rattle.vl_prep.specs.declared.fault.PrepFault.{PrepFault}
use Rattle.vl_prep.specs.declared.opens.Open.{Open}
use Rattle.vl_prep.specs.declared.refusal.Cause.TheVariants as cause
use Rattle.vl_prep.specs.declared.refusal.Refusal.{Refusal}
use Rattle.vl_prep.specs.Directive.{directive_of, directive_at}
use Rattle.vl_prep.specs.Lines.{on_line, line_behind, begins_arguments}
use Rattle.vl_prep.specs.Macros.{Held}
use Rattle.vl_prep.specs.Opens.{are_chosen, opened, is_open, can_turn, turned, closed}
use Rattle.vl_prep.specs.Refusals.{fault_of}
use Rattle.vl_prep.specs.Prep.{Done, Outcome, at_first, moved, put, refused, redefined, is_defined, place}

-- the directive begins a conditional
abbrev pub begins : Directive → Bool
begins IfDef = true
begins IfNotDef = true
begins d = false

-- the directive is read in groups that aren't chosen too
abbrev pub is_conditional : Option Directive → Bool
is_conditional (Some IfDef) = true
is_conditional (Some IfNotDef) = true
is_conditional (Some ElseIf) = true
is_conditional (Some Else) = true
is_conditional (Some EndIf) = true
is_conditional d = false

-- behind the directive the rest of its line is dropped
abbrev pub drops_line : Directive → Bool
drops_line TimeScale = true
drops_line DefaultNetType = true
drops_line d = false

-- the first group is chosen: behind `ifdef where the name is defined, behind `ifndef where it isn't
abbrev pub chooses : Directive → Bool → Bool
chooses IfNotDef defined = not defined
chooses d defined = defined

-- the token is put out as it is
abbrev pub is_plain : Kind → Bool
is_plain (k.Tick word) = false
is_plain k.Continue = false
is_plain kind = true

-- the directive counts among these conditionals and needs a name
abbrev pub needs_name : List Open → Directive → Bool
needs_name os Define = are_chosen os
needs_name os Undef = are_chosen os
needs_name os IfDef = true
needs_name os IfNotDef = true
needs_name os ElseIf = can_turn os
needs_name os d = false

-- the directive has no conditional whose next group or end it could be
abbrev pub is_alone : List Open → Directive → Bool
is_alone os ElseIf = not (can_turn os)
is_alone os Else = not (can_turn os)
is_alone os EndIf = not (is_open os)
is_alone os d = false

-- the directive, and behind it on its line a name
pub record IsNamed (d : Directive) (name : List ℕ) (t n : Token) : Type 0 where
  pub directive : directive_at t.kind ≡ Some d
  pub word : n.kind ≡ k.Name name
  pub line : on_line t.pos n.pos ≡ true

abbrev pub is_name : Kind → Bool
is_name (k.Name name) = true
is_name kind = false

-- a name stands next on the line of the place
abbrev pub has_name : Pos → List Token → Bool
has_name pos [] = false
has_name pos (n ∷ ts) = is_name n.kind && on_line pos n.pos

-- what stands behind the line of a place
abbrev pub behind_line : Pos → List Token → List Token
behind_line pos [] = []
behind_line pos (t ∷ ts) = if on_line pos t.pos then behind_line pos ts else t ∷ ts

-- the line that a macro's text goes on with behind a token
abbrev pub next_line : ℕ → Kind → ℕ
next_line line k.Continue = line_behind line
next_line line kind = line

-- a joining backslash is no part of the text
abbrev pub with_token : Token → Kind → List Token → List Token
with_token t k.Continue ts = ts
with_token t kind ts = t ∷ ts

-- a macro's text, from a line of a file on: the tokens there, and those of the next line behind each joining backslash
abbrev pub text_at : ℕ → ℕ → List Token → List Token
text_at file line [] = []
text_at file line (t ∷ ts) =
    if t.pos.file == file && t.pos.line == line then with_token t t.kind (text_at file (next_line line t.kind) ts)
    else []

-- what stands behind it
abbrev pub behind_text : ℕ → ℕ → List Token → List Token
behind_text file line [] = []
behind_text file line (t ∷ ts) =
    if t.pos.file == file && t.pos.line == line then behind_text file (next_line line t.kind) ts else t ∷ ts

-- a bracket directly behind the name, among the tokens of the text, is refused
abbrev pub without_arguments : Option Pos → List ℕ → Pos → ℕ → List Token → Done → Done
without_arguments at name pos line [] done = done
without_arguments at name pos line (t ∷ ts) done =
    if t.pos.file == pos.file && t.pos.line == line then without_arguments at name pos (next_line line t.kind) ts
    (if begins_arguments name pos t then refused (place at t.pos) cause.MacroArgs done else done) else done

-- a macro has the text behind its name
abbrev pub defined : Option Pos → List ℕ → Pos → List Token → Done → Done
defined at name pos ts done =
    redefined name (Some (text_at pos.file pos.line ts)) (without_arguments at name pos pos.line ts done)

-- one text: `at` is the place of the outermost use, in a macro's text. `Use` says what the use of a macro comes to: the
-- place of the outermost use, the macro's text, and what was before and is behind it
mutual
  -- a group within the conditionals of this text, of which the innermost stands first, from some tokens up to others
  pub data Reads (at : Option Pos) (Use : Pos → List Token → Done → Done → Type 0) : List Open → List Token
      → Done
      → List Token → Done → Type 0 where
    -- the group, or what is told of it, ends anywhere. What must stand there the rules of conditionals say
    reads_none : (os : List Open) (ts : List Token) (done : Done) → Reads at Use os ts done ts done
    -- of a group that isn't chosen only the conditionals are read
    reads_passed : (os : List Open) (t : Token) (ts rest : List Token) (old new : Done) → are_chosen os ≡ false
        → is_conditional (directive_at t.kind) ≡ false → Reads at Use os ts old rest new
        → Reads at Use os (t ∷ ts) old rest new
    -- a token of no meaning here is put out
    reads_token : (os : List Open) (t : Token) (ts rest : List Token) (old new : Done) → are_chosen os ≡ true
        → is_plain t.kind ≡ true → Reads at Use os ts (put old (moved t (place at t.pos))) rest new
        → Reads at Use os (t ∷ ts) old rest new
    -- a joining backslash in no macro's text is dropped
    reads_joined : (os : List Open) (t : Token) (ts rest : List Token) (old new : Done) → are_chosen os ≡ true
        → t.kind ≡ k.Continue → Reads at Use os ts old rest new → Reads at Use os (t ∷ ts) old rest new
    -- a macro's use is replaced by what comes of the text that the macro has there (section 19.3.1)
    reads_use : (os : List Open) (t : Token) (name : List ℕ) (text ts rest : List Token) (old mid new : Done)
        → are_chosen os ≡ true → t.kind ≡ k.Tick name → directive_of name ≡ None
        → old.macros name ≡ Some text →
        Use (place at t.pos) text old mid → Reads at Use os ts mid rest new
        → Reads at Use os (t ∷ ts) old rest new
    -- of a macro that isn't defined nothing comes
    reads_unknown : (os : List Open) (t : Token) (name : List ℕ) (ts rest : List Token) (old new : Done)
        → are_chosen os ≡ true → t.kind ≡ k.Tick name → directive_of name ≡ None
        → old.macros name ≡ None →
        Reads at Use os ts (refused (place at t.pos) (cause.UnknownMacro name) old) rest new
        → Reads at Use os (t ∷ ts) old rest new
    -- the text of a macro is kept as it is written (section 19.3.1)
    reads_define : (os : List Open) (t n : Token) (name : List ℕ) (ts rest : List Token) (old new : Done)
        → are_chosen os ≡ true → IsNamed Define name t n →
        Reads at Use os (behind_text n.pos.file n.pos.line ts) (defined at name n.pos ts old) rest new
        → Reads at Use os (t ∷ n ∷ ts) old rest new
    -- a macro's definition is taken back, if there is one (section 19.3.2)
    reads_undef : (os : List Open) (t n : Token) (name : List ℕ) (ts rest : List Token) (old new : Done)
        → are_chosen os ≡ true → IsNamed Undef name t n → Reads at Use os ts (redefined name None old) rest new
        → Reads at Use os (t ∷ n ∷ ts) old rest new
    -- the rest of the line is dropped (rule of this project)
    reads_line : (os : List Open) (t : Token) (d : Directive) (ts rest : List Token) (old new : Done)
        → are_chosen os ≡ true → directive_at t.kind ≡ Some d → drops_line d ≡ true
        → Reads at Use os (behind_line t.pos ts) old rest new → Reads at Use os (t ∷ ts) old rest new
    -- no text is included (rule of this project)
    reads_include : (os : List Open) (t : Token) (ts rest : List Token) (old new : Done) → are_chosen os ≡ true
        → directive_at t.kind ≡ Some Include → Reads at Use os ts
        (refused (place at t.pos) cause.Include old) rest new → Reads at Use os (t ∷ ts) old rest new
    -- a directive without its name is passed over
    reads_nameless : (os : List Open) (t : Token) (d : Directive) (ts rest : List Token) (old new : Done)
        → directive_at t.kind ≡ Some d → needs_name os d ≡ true → has_name t.pos ts ≡ false →
        Reads at Use os ts (refused (place at t.pos) cause.NoName old) rest new
        → Reads at Use os (t ∷ ts) old rest new
    -- and so is one without its conditional
    reads_alone : (os : List Open) (t : Token) (d : Directive) (ts rest : List Token) (old new : Done)
        → directive_at t.kind ≡ Some d → is_alone os d ≡ true →
        Reads at Use os ts (refused (place at t.pos) cause.UnbalancedIf old) rest new
        → Reads at Use os (t ∷ ts) old rest new
    -- a conditional: its first group, and the rest of it
    reads_conditional : (os : List Open) (t n : Token) (d : Directive) (name : List ℕ)
        (ts group behind rest : List Token) (old mid further new : Done) → IsNamed d name t n
        → begins d ≡ true →
        Reads at Use (opened (place at t.pos) (chooses d (is_defined old name)) os) ts old group mid
        → Ends at Use (opened (place at t.pos) (chooses d (is_defined old name)) os) group mid behind further →
        Reads at Use os behind further rest new → Reads at Use os (t ∷ n ∷ ts) old rest new

  -- the rest of the innermost conditional from the end of a group on
  pub data Ends (at : Option Pos) (Use : Pos → List Token → Done → Done → Type 0) : List Open → List Token
      → Done
      → List Token → Done → Type 0 where
    -- `endif
    ends_here : (o : Open) (os : List Open) (t : Token) (ts : List Token) (done : Done)
        → directive_at t.kind ≡ Some EndIf → Ends at Use (o ∷ os) (t ∷ ts) done ts done
    -- the text ends before it
    ends_open : (o : Open) (os : List Open) (done : Done)
        → Ends at Use (o ∷ os) [] done [] (refused o.place cause.UnbalancedIf done)
    -- `else with the last group, and the rest
    ends_else : (os : List Open) (t : Token) (ts group rest : List Token) (old mid new : Done)
        → directive_at t.kind ≡ Some Else → can_turn os ≡ true →
        Reads at Use (turned true true os) ts old group mid → Ends at Use (turned true true os) group mid rest new
        → Ends at Use os (t ∷ ts) old rest new
    -- `elsif with a name and a group, and the rest
    ends_else_if : (os : List Open) (t n : Token) (name : List ℕ) (ts group rest : List Token) (old mid new : Done)
        → IsNamed ElseIf name t n → can_turn os ≡ true →
        Reads at Use (turned false (is_defined old name) os) ts old group mid
        → Ends at Use (turned false (is_defined old name) os) group mid rest new
        → Ends at Use os (t ∷ n ∷ ts) old rest new

-- what the use of a macro comes to: its text, read to its end, where so many uses may still stand within one another.
-- Of one too deep nothing comes
abbrev pub Expands : ℕ → Pos → List Token → Done → Done → Type 0
Expands zero pos text old new = new ≡ refused pos cause.MacroDepth old
Expands (suc n) pos text old new = Reads (Some pos) (Expands n) [] text old [] new

-- what comes of the tokens with these macros, each use of a macro replaced by what comes of the text that it has there,
-- with 32 uses at most within one another (rule of this project)
abbrev pub IsRead : Held → List Token → Done → Type 0
IsRead macros tokens done = Reads None (Expands 32) [] tokens (at_first macros) [] done

-- the tokens of the chosen groups, where nothing is refused
abbrev pub IsPreprocessed : Held → List Token → Outcome → Type 0
IsPreprocessed macros tokens r = IsRead macros tokens (record { macros = r.macros; output = r.output; refusal = None })

-- of all refusals that the text has, the one that is answered
pub record IsRefused (macros : Held) (tokens : List Token) (f : PrepFault) : Type 0 where
  pub done : Done
  pub reads : IsRead macros tokens done
  pub refusal : Refusal
  pub met : done.refusal ≡ Some refusal
  pub answered : f ≡ fault_of refusal
