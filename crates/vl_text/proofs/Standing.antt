-- Nodes and faults stand at places of tokens.
use Rattle.std.proofs.Common.{◌≡◌, ℕ, List, [], ◌∷◌, ◌++◌, take}
use Rattle.std.proofs.Common.{drop, sym, subst}
use Rattle.std.proofs.lemmas.List.Elements.{All-nil, All-cons, All-head, All-tail, All-append, All-take, All-drop}
use Rattle.std.proofs.lemmas.List.Elements.{All-filter, All-from_recursion, Contains-append_left, Contains-append_right}
use Rattle.std.proofs.lemmas.List.Elements.{All-weaker, All-map, All-contains, All-contains_itself}
use Rattle.std.specs.List.{All, Contains, filter}
use Rattle.std.specs.Prelude.{Option, Some, None, IfSome, Result, Ok, Err, MatchResult}
use Rattle.fv_text.specs.declared.kind.Kind.{Kind}
use Rattle.fv_text.specs.declared.pos.Pos.{Pos}
use Rattle.fv_text.specs.declared.token.Token.{Token}
use Rattle.vl_prep.specs.Places.{places, IsPlaced}
use Rattle.vl_prep.specs.declared.macros.Macros.{Macros}
use Rattle.vl_tree.specs.ItemSpelling.{spell_source}
use Rattle.vl_tree.specs.Phrase.{Phrase, nothing, token, operator, ◌▸◌, at, within, level, Spells}
use Rattle.vl_tree.specs.declared.source.Source.{Source}
use Rattle.vl_text.specs.Assumptions.{put_in, placed, with_assumptions, end_of_top, section_of, is_assumed}
use Rattle.vl_text.specs.Assumptions.{end_at, front_at, is_not_assumed, item, items, line_start, many_on}
use Rattle.vl_text.specs.Places.{place_of, node_places, AreAtPlaces, AreAtTokens, IsAtPlace, IsAtToken}
use Rattle.vl_text.specs.Places.{line_starts, with_starts}
use Rattle.vl_text.specs.SourceText.{tree_seen}
use Rattle.vl_text.specs.Texts.{Text}
use Rattle.vl_text.specs.declared.assumptions.Section.{Section}
use Rattle.vl_text.specs.declared.fault.TextFault.{TextFault}

module _ (P : Pos → Type 0) where
  abbrev AreAt : List Token → Type 0
  AreAt ts = All (λ t. P t.pos) ts

  record Behind (a : Phrase) (rest : List Token) : Type 0 where
    nodes : All P (node_places a)
    left : AreAt rest

  next : (kind : Kind) (ts rest : List Token) → Spells (token kind) ts rest → AreAt ts → AreAt rest
  next kind [] rest h i = absurd h
  next kind (t ∷ ts) rest h i = subst AreAt h.1 (All-tail (λ u. P u.pos) t ts i)

  begins : (place : Pos) (a : Phrase) (ts rest : List Token) → Spells (at place a) ts rest → AreAt ts → P place
  begins place a [] rest h i = absurd h.0
  begins place a (t ∷ ts) rest h i = subst P h.0 (All-head (λ u. P u.pos) t ts i)

  -- where nodes begin, as the spelling says
  nodes_at : (a : Phrase) (ts rest : List Token) → Spells a ts rest → AreAt ts → Behind a rest
  nodes_at nothing ts rest h i = record { nodes = All-nil P; left = subst AreAt h i }
  nodes_at (token kind) ts rest h i = record { nodes = All-nil P; left = next kind ts rest h i }
  nodes_at (operator kind) ts rest h i = record { nodes = All-nil P; left = next kind ts rest h i }
  nodes_at (a ▸ b) ts rest h i =
      let first : Behind a h.0 = nodes_at a ts h.0 h.1 i in
      let second : Behind b rest = nodes_at b h.0 rest h.2 first.left in
      record { nodes = All-append P (node_places a) (node_places b) first.nodes second.nodes; left = second.left }
  nodes_at (at place a) ts rest h i =
      let inner : Behind a rest = nodes_at a ts rest h.1 i in
      record { nodes = All-cons P place (node_places a) (begins place a ts rest h i) inner.nodes; left = inner.left }
  nodes_at (within a) ts rest h i =
      let inner : Behind a rest = nodes_at a ts rest h i in record { nodes = inner.nodes; left = inner.left }
  nodes_at (level a) ts rest h i =
      let inner : Behind a rest = nodes_at a ts rest h i in record { nodes = inner.nodes; left = inner.left }

  unmapped : (ts : List Token) → All P (places ts) → AreAt ts
  unmapped [] h = All-nil (λ t. P t.pos)
  unmapped (t ∷ ts) h =
      All-cons (λ u. P u.pos) t ts (All-head P t.pos (places ts) h) (unmapped ts (All-tail P t.pos (places ts) h))

  mapped : (ts : List Token) → AreAt ts → All P (places ts)
  mapped ts h = All-map P (λ (t : Token). t.pos) ts h

  put_at : (o : Option ℕ) (items ts : List Token) → AreAt items → AreAt ts → AreAt (put_in o items ts)
  put_at None items ts h i = i
  put_at (Some n) items ts h i =
      All-append (λ t. P t.pos) (take n ts) (items ++ drop n ts) (All-take (λ t. P t.pos) n ts i)
      (All-append (λ t. P t.pos) items (drop n ts) h (All-drop (λ t. P t.pos) n ts i))

  -- an item's own tokens stand at the beginning of its line
  item_at : (place : Pos) (ts : List Token) → P place → AreAt ts → AreAt (item place ts)
  item_at place ts here h =
      All-append (λ t. P t.pos) (front_at place) (ts ++ end_at place)
      (All-from_recursion (λ t. P t.pos) (front_at place) (here, (here, (here, (here, (here, tt))))))
      (All-append (λ t. P t.pos) ts (end_at place) h
      (All-from_recursion (λ t. P t.pos) (end_at place) (here, (here, tt))))

  items_at : (lines : List Text) (ts : List Token) → All P (line_starts lines) → AreAt ts → AreAt (items lines ts)
  items_at [] ts h i = All-nil (λ t. P t.pos)
  items_at (x ∷ xs) ts h i =
      All-append (λ t. P t.pos) (item (line_start x) (take (many_on x ts) ts)) (items xs (drop (many_on x ts) ts))
      (item_at (line_start x) (take (many_on x ts) ts) (All-head P (line_start x) (line_starts xs) h)
      (All-take (λ t. P t.pos) (many_on x ts) ts i))
      (items_at xs (drop (many_on x ts) ts) (All-tail P (line_start x) (line_starts xs) h)
      (All-drop (λ t. P t.pos) (many_on x ts) ts i))

  placed_at : (o : Option Section) (lines : List Text) (ts : List Token) → All P (line_starts lines) → AreAt ts
      → AreAt (placed o lines ts)
  placed_at None lines ts h i = i
  placed_at (Some section) lines ts h i =
      put_at (end_of_top 0 (filter (is_not_assumed section) ts)) (items lines (filter (is_assumed section) ts))
      (filter (is_not_assumed section) ts)
      (items_at lines (filter (is_assumed section) ts) h (All-filter (is_assumed section) (λ t. P t.pos) ts i))
      (All-filter (is_not_assumed section) (λ t. P t.pos) ts i)

-- each token is at its own place
pub own_places : (ts : List Token) → All (λ t. Contains (places ts) t.pos) ts
own_places ts = unmapped (Contains (places ts)) ts (All-contains_itself (places ts))

pub tree_at : (ts : List Token) (tree : Source) → Spells (spell_source tree) ts [] → AreAtTokens ts tree
tree_at ts tree h = (nodes_at (Contains (places ts)) (spell_source tree) ts [] h (own_places ts)).nodes

-- what is parsed stands where the preprocessed tokens do, or where a line of assumptions begins
pub with_assumptions_at : (lines : List Text) (ts : List Token)
    → All (Contains (with_starts lines ts)) (places (with_assumptions lines ts))
with_assumptions_at lines ts =
    mapped Here (with_assumptions lines ts)
    (placed_at Here (section_of lines) lines ts
    (All-weaker (Contains (line_starts lines)) Here (λ place c. Contains-append_right (places ts) (line_starts lines) place c)
    (line_starts lines) (All-contains_itself (line_starts lines)))
    (unmapped Here ts
    (All-weaker (Contains (places ts)) Here (λ place c. Contains-append_left (places ts) (line_starts lines) place c)
    (places ts) (All-contains_itself (places ts)))))
  where
    Here : Pos → Type 0
    Here place = Contains (with_starts lines ts) place

-- what stands at places that are all among others stands at one of the others
pub tree_among : (spots others : List Pos) (tree : Source) → All (Contains others) spots → AreAtPlaces spots tree
    → AreAtPlaces others tree
tree_among spots others tree h i =
    All-weaker (Contains spots) (Contains others) (λ place c. All-contains (Contains others) spots place h c)
    (node_places (spell_source tree)) i

pub fault_among : (spots others : List Pos) (fault : TextFault) → All (Contains others) spots → IsAtPlace spots fault
    → IsAtPlace others fault
fault_among spots others fault h i = some (place_of fault) i
  where
    some : (o : Option Pos) → IfSome o (λ place. Contains spots place) → IfSome o (λ place. Contains others place)
    some None c = tt
    some (Some place) c = All-contains (Contains others) spots place h c

-- a tree is at places, or a fault
abbrev pub IsAt : List Pos → Result Source TextFault → Type 0
IsAt spots tree = MatchResult tree (λ t. AreAtPlaces spots t) (λ fault. IsAtPlace spots fault)

pub answer_among : (spots others : List Pos) (r : Result Source TextFault) → All (Contains others) spots → IsAt spots r
    → IsAt others r
answer_among spots others (Ok tree) h i = tree_among spots others tree h i
answer_among spots others (Err fault) h i = fault_among spots others fault h i

-- with the beginnings of lines, what the preprocessor puts out is where its tokens are
pub output_among : (lines : List Text) (ts output : List Token) → IsPlaced ts output
    → All (Contains (with_starts lines ts)) (with_starts lines output)
output_among lines ts output h =
    All-append Here (places output) (line_starts lines)
    (mapped Here output
    (All-weaker (λ (t : Token). Contains (places ts) t.pos) (λ t. Here t.pos)
    (λ t c. Contains-append_left (places ts) (line_starts lines) t.pos c) output h))
    (All-weaker (Contains (line_starts lines)) Here (λ place c. Contains-append_right (places ts) (line_starts lines) place c)
    (line_starts lines) (All-contains_itself (line_starts lines)))
  where
    Here : Pos → Type 0
    Here place = Contains (with_starts lines ts) place

with_macros_at : (spots : List Pos) (r : Result (Source × Macros) TextFault) → IsAt spots (tree_seen r)
    → MatchResult r (λ s. AreAtPlaces spots s.0) (λ fault. IsAtPlace spots fault)
with_macros_at spots (Ok u) g = g
with_macros_at spots (Err fault) g = g

-- the same of a tree with macros beside it
pub pair_at : (spots : List Pos) (r : Result (Source × Macros) TextFault) (tree : Result Source TextFault)
    → tree_seen r ≡ tree → IsAt spots tree → MatchResult r (λ s. AreAtPlaces spots s.0) (λ fault. IsAtPlace spots fault)
pair_at spots r tree e h = with_macros_at spots r (subst (λ t. IsAt spots t) (sym e) h)

-- and of a part that comes before
pub stopped_at : (lines : List Text) (ts : List Token) (fault : TextFault) → IsAtToken ts fault
    → IsAtPlace (with_starts lines ts) fault
stopped_at lines ts fault h =
    fault_among (places ts) (with_starts lines ts) fault
    (All-weaker (Contains (places ts)) (Contains (with_starts lines ts))
    (λ place c. Contains-append_left (places ts) (line_starts lines) place c) (places ts)
    (All-contains_itself (places ts))) h
