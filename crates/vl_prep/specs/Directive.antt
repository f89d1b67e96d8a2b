-- Meaning: The compiler directives of IEEE 1364-2005, clause 19, that count here, and their words.
use Rattle.std.specs.Prelude.{ℕ, List, [], ◌∷◌, Option, None, find, codes}
use Rattle.std.specs.Str.{bytes_eq}
use Rattle.fv_text.specs.declared.kind.Kind.{Kind}
use Rattle.fv_text.specs.declared.kind.Kind.TheVariants as k
use Rattle.vl_prep.specs.declared.directive.Directive.{Directive}
use Rattle.vl_prep.specs.declared.directive.Directive.TheVariants.{
  Define,
  Undef,
  IfDef,
  IfNotDef,
  ElseIf,
  Else,
  EndIf,
  Include,
  TimeScale,
  DefaultNetType,
}

-- the word behind the backquote
unfoldable pub directive_text : Directive → List ℕ
directive_text Define = codes "define"
directive_text Undef = codes "undef"
directive_text IfDef = codes "ifdef"
directive_text IfNotDef = codes "ifndef"
directive_text ElseIf = codes "elsif"
directive_text Else = codes "else"
directive_text EndIf = codes "endif"
directive_text Include = codes "include"
directive_text TimeScale = codes "timescale"
directive_text DefaultNetType = codes "default_nettype"

abbrev pub directives : List Directive
directives = Define ∷ Undef ∷ IfDef ∷ IfNotDef ∷ ElseIf ∷ Else ∷ EndIf ∷ Include ∷ TimeScale ∷ DefaultNetType ∷ []

-- the directive with this word. Any other word is a macro's name
unfoldable pub directive_of : List ℕ → Option Directive
directive_of text = find (λ d. bytes_eq (directive_text d) text) directives

-- the directive that a token is
abbrev pub directive_at : Kind → Option Directive
directive_at (k.Tick word) = directive_of word
directive_at kind = None
