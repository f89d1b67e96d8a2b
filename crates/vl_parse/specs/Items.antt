-- Between functions: What functions promise each other, and what they stand on. What lists of items end with, what an
-- item leaves behind it, and lists in which regions are still open. IEEE 1364-2005, sections 12.4 and A.1.4.
use Rattle.std.specs.Prelude.{◌≡◌, ℕ, zero, suc, Bool, true, List, [], ◌∷◌, Ok, Option, Some, None}
use Rattle.fv_text.specs.declared.kind.Kind.{Kind}
use Rattle.fv_text.specs.declared.kind.Kind.TheVariants as k
use Rattle.fv_text.specs.declared.keyword.Keyword.{Keyword}
use Rattle.fv_text.specs.declared.keyword.Keyword.TheVariants as w
use Rattle.fv_text.specs.declared.pos.Pos.{Pos}
use Rattle.vl_tree.specs.Attributes.{Attributes}
use Rattle.vl_tree.specs.Phrase.{Phrase, ◌▸◌, at, word}
use Rattle.vl_tree.specs.DeclarationSpelling.{spell_attributes}
use Rattle.vl_tree.specs.DeclarationWellFormed.{AreAttributes}
use Rattle.vl_tree.specs.ItemSpelling.{spell, spell_all}
use Rattle.vl_tree.specs.WellFormed.{mark_of, open_behind, IsWellFormed, AreWellFormed}
use Rattle.vl_tree.specs.Item.{Item, items, declaration, integer, genvar, parameter, assign, always, initial}
use Rattle.vl_tree.specs.Item.{instance, generate, for_loop, if_only, if_else}
use Rattle.vl_parse_grammar.specs.Machine.{then}
use Rattle.vl_parse_grammar.specs.Grammar as grammar
use Rattle.vl_parse.specs.declared.reading.Ending.{Ending}
use Rattle.vl_parse.specs.declared.reading.Ending.TheVariants as e
use Rattle.vl_parse.specs.declared.reading.Front.{Front}
use Rattle.vl_parse.specs.declared.reading.Front.TheVariants as f
use Rattle.vl_parse.specs.declared.reading.Reading.{Reading}
use Rattle.vl_parse_cursor.specs.Next.{IsOther}

abbrev pub word_of : Ending → Keyword
word_of e.Endmodule = w.Endmodule
word_of e.Endgenerate = w.Endgenerate
word_of e.End = w.End

abbrev pub ending_of : Ending → grammar.Ending
ending_of e.Endmodule = grammar.endmodule
ending_of e.Endgenerate = grammar.endgenerate
ending_of e.End = grammar.end

-- no `else` comes next that would belong to an `if` in it
abbrev pub LeavesElse : Bool → List Kind → Type 0
LeavesElse ends_open ts = ends_open ≡ true → IsOther (k.Keyword w.Else) ts

-- the item with other attributes before it
abbrev pub with_attributes : Attributes → Item → Item
with_attributes attrs (declaration old p d) = declaration attrs p d
with_attributes attrs (integer old p xs) = integer attrs p xs
with_attributes attrs (genvar old p xs) = genvar attrs p xs
with_attributes attrs (parameter old p kind xs) = parameter attrs p kind xs
with_attributes attrs (assign old p xs) = assign attrs p xs
with_attributes attrs (always old p event x) = always attrs p event x
with_attributes attrs (initial old p x) = initial attrs p x
with_attributes attrs (instance old p x) = instance attrs p x
with_attributes attrs (generate old p mark) = generate attrs p mark
with_attributes attrs (for_loop old p head b) = for_loop attrs p head b
with_attributes attrs (if_only old p c b) = if_only attrs p c b
with_attributes attrs (if_else old p c b d) = if_else attrs p c b d

-- what a list goes on to, where so many of its regions are open
abbrev pub innermost : ℕ → Ending → Ending
innermost zero outer = outer
innermost (suc n) outer = e.Endgenerate

-- what is behind the whole list: it goes on behind each region that is open
abbrev pub still : ℕ → Ending → ℕ → List Kind → grammar.Outcome
still zero outer room ts = grammar.read (grammar.items (ending_of outer)) room ts
still (suc n) outer room ts =
    then (grammar.read (grammar.items grammar.endgenerate) room ts) (λ r. still n outer room r)

abbrev pub spell_reading : Reading → Phrase
spell_reading x = spell_all (items x.all)

-- so many regions are open behind well formed items
abbrev pub AreOpen : List Item → ℕ → Type 0
AreOpen xs n = (open_behind (items xs) (Some 0) ≡ Some n) × AreWellFormed (items xs)

abbrev pub IsReading : Reading → Type 0
IsReading x = AreOpen x.all x.regions

abbrev pub spell_front : Front → Phrase
spell_front (f.Item x) = spell x
spell_front (f.Generate attrs p) = spell_attributes attrs ▸ at p (word w.Generate)

abbrev pub IsFront : Front → Type 0
IsFront (f.Item x) = (mark_of x ≡ None) × IsWellFormed x
IsFront (f.Generate attrs p) = AreAttributes attrs

abbrev pub behind_front : Front → ℕ → List Kind → grammar.Outcome
behind_front (f.Item x) room ts = Ok ts
behind_front (f.Generate attrs p) room ts = grammar.read (grammar.items grammar.endgenerate) room ts
