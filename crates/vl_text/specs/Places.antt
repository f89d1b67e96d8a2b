-- Between functions: Where texts are refused, and where the nodes of their tree stand: at places of the texts. Rule of
-- this project.
use Rattle.std.specs.Prelude.{◌≡◌, ℕ, List, [], ◌∷◌, ◌++◌, map, Ok, Option, Some, None, IfSome}
use Rattle.std.specs.List.{All, Contains}
use Rattle.fv_text.specs.declared.pos.Pos.{Pos}
use Rattle.fv_text.specs.declared.token.Token.{Token}
use Rattle.vl_token.specs.FaultPlace.{fault_place as lex_place}
use Rattle.vl_token.specs.Place.{place_after, start_of}
use Rattle.vl_prep.specs.Places.{fault_place, places}
use Rattle.vl_tree.specs.ItemSpelling.{spell_source}
use Rattle.vl_tree.specs.Phrase.{Phrase, nothing, token, operator, ◌▸◌, at, within, level}
use Rattle.vl_tree.specs.declared.source.Source.{Source}
use Rattle.vl_parse.specs.declared.fault.ParseFault.{ParseFault}
use Rattle.vl_parse.specs.declared.fault.ParseFault.TheVariants as parse
use Rattle.vl_text.specs.Assumptions.{line_start}
use Rattle.vl_text.specs.SourceText.{AreLaid}
use Rattle.vl_text.specs.Texts.{Text, lexed_bytes}
use Rattle.vl_text.specs.declared.fault.TextFault.{TextFault}
use Rattle.vl_text.specs.declared.fault.TextFault.TheVariants.{Lex, Prep, Parse, Memory}

-- the place behind a front of one of the texts: that of the byte there, or of its end
pub record IsPlaceIn (texts : List Text) (place : Pos) : Type 0 where
  pub text : Text
  pub among : Contains texts text
  pub front : List ℕ
  pub rest : List ℕ
  pub same : lexed_bytes text ≡ front ++ rest
  pub place_is : place ≡ place_after (start_of text.file text.line) front

abbrev pub parse_place : ParseFault → Option Pos
parse_place (parse.Syntax place) = Some place
parse_place (parse.TooDeep place) = Some place
parse_place (parse.Outside place word) = Some place
parse_place parse.Memory = None

-- the place that a fault names; want of memory has none
abbrev pub place_of : TextFault → Option Pos
place_of (Lex fault) = lex_place fault
place_of (Prep fault) = fault_place fault
place_of (Parse fault) = parse_place fault
place_of Memory = None

-- the fault is at a place in one of the texts
abbrev pub IsPlacedIn : List Text → TextFault → Type 0
IsPlacedIn texts fault = IfSome (place_of fault) (λ place. IsPlaceIn texts place)

-- the fault is at one of the places
abbrev pub IsAtPlace : List Pos → TextFault → Type 0
IsAtPlace spots fault = IfSome (place_of fault) (λ place. Contains spots place)

-- at that of one of the tokens
abbrev pub IsAtToken : List Token → TextFault → Type 0
IsAtToken tokens fault = IsAtPlace (places tokens) fault

-- where the nodes of a text begin
abbrev pub node_places : Phrase → List Pos
node_places nothing = []
node_places (token kind) = []
node_places (operator kind) = []
node_places (a ▸ b) = node_places a ++ node_places b
node_places (at place a) = place ∷ node_places a
node_places (within a) = node_places a
node_places (level a) = node_places a

-- each node of the tree has one of the places
abbrev pub AreAtPlaces : List Pos → Source → Type 0
AreAtPlaces spots tree = All (λ place. Contains spots place) (node_places (spell_source tree))

-- that of one of the tokens
abbrev pub AreAtTokens : List Token → Source → Type 0
AreAtTokens tokens tree = AreAtPlaces (places tokens) tree

-- where lines of assumptions begin
abbrev pub line_starts : List Text → List Pos
line_starts lines = map line_start lines

-- where tokens stand, and what is put round those of a line of assumptions
abbrev pub with_starts : List Text → List Token → List Pos
with_starts lines tokens = places tokens ++ line_starts lines

-- each node has the place of a token of the texts and lines of assumptions, or stands at the beginning of such a line
pub record HasTokenPlaces (texts lines : List Text) (tree : Source) : Type 0 where
  pub tokens : List Token
  pub laid : AreLaid texts lines (Ok tokens)
  pub nodes : AreAtPlaces (with_starts lines tokens) tree
