-- What lists of items spell in which regions are open, and what is read of them.
use Rattle.std.proofs.Common.{◌≡◌, ℕ, zero, suc, ◌+◌, ◌-◌, ◌<◌, List, [], ◌∷◌, ◌++◌, refl, sym, ap, ◌∙◌, subst, arith}
use Rattle.std.specs.Prelude.{Ok, Err, Option, Some, None}
use Rattle.std.proofs.lemmas.List.Elements.{All-nil}
use Rattle.fv_text.specs.declared.kind.Kind.{Kind}
use Rattle.fv_text.specs.declared.kind.Kind.TheVariants as k
use Rattle.fv_text.specs.declared.keyword.Keyword.TheVariants as w
use Rattle.fv_text.specs.declared.pos.Pos.{Pos}
use Rattle.fv_text.specs.declared.token.Token.{Token}
use Rattle.vl_tree.specs.Attributes.{Attributes}
use Rattle.vl_tree.specs.Phrase.{Phrase, Spells, BeginsAt, word, ◌▸◌}
use Rattle.vl_tree.specs.DeclarationSpelling.{spell_attributes}
use Rattle.vl_tree.specs.DeclarationWellFormed.{AreAttributes, IsInstance}
use Rattle.vl_tree.specs.ItemSpelling.{spell, spell_all}
use Rattle.vl_tree.specs.WellFormed.{mark_of, open_behind_mark, open_behind, AreBalanced, IsWellFormed, AreWellFormed}
use Rattle.vl_tree.specs.WellFormed.{attributes_of}
use Rattle.vl_tree.specs.Item.{Item, items, declaration, integer, genvar, parameter, assign, always, initial}
use Rattle.vl_tree.specs.Item.{instance, generate, for_loop, if_only, if_else}
use Rattle.vl_tree.specs.declared.item.RegionMark.TheVariants as mark
use Rattle.vl_tree.specs.declared.item.ItemKind.{ItemKind}
use Rattle.vl_tree.specs.declared.item.ItemKind.TheVariants as kind
use Rattle.vl_tree.specs.ItemView.{shown}
use Rattle.vl_parse_grammar.proofs.Regions.{some_none}
use Rattle.vl_parse_grammar.specs.Machine.{then}
use Rattle.vl_parse_grammar.specs.Grammar as grammar
use Rattle.vl_parse_grammar.specs.Grammar.{Outcome, read}
use Rattle.vl_parse.specs.declared.reading.Ending.{Ending}
use Rattle.vl_parse.specs.declared.reading.Ending.TheVariants as e
use Rattle.vl_parse.specs.Items.{word_of, ending_of, innermost, still, AreOpen, LeavesElse, with_attributes}
use Rattle.vl_parse_cursor.specs.Next.{IsOther}
use Rattle.vl_parse.proofs.ItemsRows.{items_end, items_more}

-- trees

pub items_pushed : (xs : List Item) (x : Item) (start middle rest : List Token)
    → Spells (spell_all (items xs)) start middle
    → Spells (spell x) middle rest → Spells (spell_all (items (xs ++ x ∷ []))) start rest
items_pushed [] x start middle rest h i = (rest, subst (λ ts. Spells (spell x) ts rest) (sym h) i, refl)
items_pushed (y ∷ xs) x start middle rest (m, h, j) i = (m, h, items_pushed xs x m middle rest j i)

pub items_formed : (xs : List Item) (x : Item) → AreWellFormed (items xs) → IsWellFormed x
    → AreWellFormed (items (xs ++ x ∷ []))
items_formed [] x h i = (i, tt)
items_formed (y ∷ xs) x h i = (h.0, items_formed xs x h.1 i)

behind_pushed : (xs : List Item) (x : Item) (n : Option ℕ)
    → open_behind (items (xs ++ x ∷ [])) n ≡ open_behind_mark (mark_of x) (open_behind (items xs) n)
behind_pushed [] x n = refl
behind_pushed (y ∷ xs) x n = behind_pushed xs x (open_behind_mark (mark_of y) n)

-- an item more, by which the number of open regions changes like this
are_open : (xs : List Item) (x : Item) (n m : ℕ) → open_behind_mark (mark_of x) (Some n) ≡ Some m → AreOpen xs n
    → IsWellFormed x → AreOpen (xs ++ x ∷ []) m
are_open xs x n m e h i =
    (behind_pushed xs x (Some 0) ∙ ap (open_behind_mark (mark_of x)) h.0 ∙ e, items_formed xs x h.1 i)

pub with_item_open : (xs : List Item) (x : Item) (n : ℕ) → AreOpen xs n → mark_of x ≡ None → IsWellFormed x
    → AreOpen (xs ++ x ∷ []) n
with_item_open xs x n h e i = are_open xs x n n (ap (λ m. open_behind_mark m (Some n)) e) h i

pub with_generate_open : (xs : List Item) (attrs : Attributes) (p : Pos) (n : ℕ) → AreOpen xs n → AreAttributes attrs
    → AreOpen (xs ++ generate attrs p mark.Open ∷ []) (n + 1)
with_generate_open xs attrs p n h i =
    are_open xs (generate attrs p mark.Open) n (n + 1) (ap Some (omega arith)) h (i, tt)

pub closed_open : (xs : List Item) (p : Pos) (n : ℕ) → AreOpen xs n → 0 < n
    → AreOpen (xs ++ generate [] p mark.Close ∷ []) (n - 1)
closed_open xs p zero h l = absurd (omega (arith, l))
closed_open xs p (suc n) h l =
    are_open xs (generate [] p mark.Close) (suc n) (suc n - 1) (ap Some (omega arith)) h (All-nil IsInstance, refl)

-- the end of a region behind items
pub closed_found : (xs : List Item) (p : Pos) (start middle rest : List Token)
    → Spells (spell_all (items xs)) start middle → BeginsAt p middle
    → Spells (word w.Endgenerate) middle rest
    → Spells (spell_all (items (xs ++ generate [] p mark.Close ∷ []))) start rest
closed_found xs p start middle rest h here i =
    items_pushed xs (generate [] p mark.Close) start middle rest h (middle, refl, (here, i))

pub whole_found : (xs : List Item) (n : ℕ) (outer : Ending) (start middle rest : List Token) → n ≡ 0
    → Spells (spell_all (items xs)) start middle
    → Spells (word (word_of (innermost n outer))) middle rest
    → Spells (spell_all (items xs) ▸ word (word_of outer)) start rest
whole_found xs zero outer start middle rest e h j = (middle, h, j)
whole_found xs (suc n) outer start middle rest e h j = absurd (omega (arith, e))

pub whole_balanced : (xs : List Item) (n : ℕ) → AreOpen xs n → n ≡ 0 → AreBalanced (items xs)
whole_balanced xs n h e = h.0 ∙ ap Some e

-- readings

then_then : (a : Outcome) (f g : List Kind → Outcome) → then (then a f) g ≡ then a (λ r. then (f r) g)
then_then (Ok r) f g = refl
then_then (Err e) f g = refl

pub still_more : (m : ℕ) (outer : Ending) (n : ℕ) (ts : List Kind)
    → IsOther (k.Keyword (word_of (innermost m outer))) ts
    → still m outer n ts ≡ then (read grammar.item n ts) (λ r. still m outer n r)
still_more zero outer n ts h = items_more outer n ts h
still_more (suc m) outer n ts h =
    ap (λ a. then a (λ r. still m outer n r)) (items_more e.Endgenerate n ts h)
    ∙ then_then (read grammar.item n ts) (λ r. read (grammar.items grammar.endgenerate) n r) (λ r. still m outer n r)

-- a region more, and one that ends
pub still_opened : (m l : ℕ) (outer : Ending) (n : ℕ) (ts : List Kind) → l ≡ m + 1
    → then (read (grammar.items grammar.endgenerate) n ts) (λ r. still m outer n r) ≡ still l outer n ts
still_opened m l outer n ts h = ap (λ l. still l outer n ts) (sym (h ∙ plus_one m))
  where
    plus_one : (m : ℕ) → m + 1 ≡ suc m
    plus_one m = omega arith

pub still_closed : (m l : ℕ) (outer : Ending) (n : ℕ) (ts : List Kind) → l ≡ m + 1
    → still l outer n (k.Keyword w.Endgenerate ∷ ts) ≡ still m outer n ts
still_closed m l outer n ts h =
    sym (still_opened m l outer n (k.Keyword w.Endgenerate ∷ ts) h)
    ∙ ap (λ a. then a (λ r. still m outer n r)) (items_end e.Endgenerate n ts)

pub still_whole : (m : ℕ) (outer : Ending) (n : ℕ) (ts : List Kind) → m ≡ 0
    → still m outer n (k.Keyword (word_of (innermost m outer)) ∷ ts) ≡ Ok ts
still_whole zero outer n ts e = items_end outer n ts
still_whole (suc m) outer n ts e = absurd (omega (arith, e))

pub inner_word : (m : ℕ) (outer : Ending) → 0 < m → word_of (innermost m outer) ≡ w.Endgenerate
inner_word zero outer h = absurd (omega (arith, h))
inner_word (suc m) outer h = refl

pub innermost_outer : (m : ℕ) (outer : Ending) → m ≡ 0 → innermost m outer ≡ outer
innermost_outer zero outer h = refl
innermost_outer (suc m) outer h = absurd (omega (arith, h))

pub innermost_inner : (m : ℕ) (outer : Ending) → (m ≡ 0 → ⊥) → innermost m outer ≡ e.Endgenerate
innermost_inner zero outer h = absurd (h refl)
innermost_inner (suc m) outer h = refl

-- attributes

abbrev behind : Phrase → Phrase
behind (a ▸ b) = b
behind q = q

has_body : (x : Item) → spell x ≡ spell_attributes (attributes_of x) ▸ behind (spell x)
has_body (declaration attrs p d) = refl
has_body x = refl

with_body : (attrs : Attributes) (x : Item)
    → spell (with_attributes attrs x) ≡ spell_attributes attrs ▸ behind (spell x)
with_body attrs (declaration old p d) = refl
with_body attrs x = refl

without : (old : Attributes) (b : Phrase) (start rest : List Token) → old ≡ []
    → Spells (spell_attributes old ▸ b) start rest → Spells b start rest
without [] b start rest e (m, h, i) = subst (λ ts. Spells b ts rest) (sym h) i
without (o ∷ os) b start rest e h = absurd (no e)
  where
    no : o ∷ os ≡ [] → ⊥
    no h = cc

pub with_attributes_found : (attrs : Attributes) (x : Item) (start middle rest : List Token) → attributes_of x ≡ []
    → Spells (spell_attributes attrs) start middle
    → Spells (spell x) middle rest → Spells (spell (with_attributes attrs x)) start rest
with_attributes_found attrs x start middle rest e h i =
    subst (λ q. Spells q start rest) (sym (with_body attrs x)) (
      middle,
      h,
      without (attributes_of x) (behind (spell x)) middle rest e
          (subst (λ q. Spells q middle rest) (has_body x) i),
    )

pub with_attributes_formed : (attrs : Attributes) (x : Item) → AreAttributes attrs → mark_of x ≡ None
    → IsWellFormed x → IsWellFormed (with_attributes attrs x)
with_attributes_formed attrs (declaration old p d) h n g = (h, g.1)
with_attributes_formed attrs (integer old p xs) h n g = (h, g.1)
with_attributes_formed attrs (genvar old p xs) h n g = (h, g.1)
with_attributes_formed attrs (parameter old p kind xs) h n g = (h, g.1)
with_attributes_formed attrs (assign old p xs) h n g = (h, g.1)
with_attributes_formed attrs (always old p event x) h n (g, i, j) = (h, i, j)
with_attributes_formed attrs (initial old p x) h n (g, i, j) = (h, i, j)
with_attributes_formed attrs (instance old p x) h n g = (h, g.1)
with_attributes_formed attrs (generate old p m) h n g = some_none m n
with_attributes_formed attrs (for_loop old p head b) h n (g, i, j) = (h, i, j)
with_attributes_formed attrs (if_only old p c b) h n (g, i, j) = (h, i, j)
with_attributes_formed attrs (if_else old p c b d) h n (g, i, j, l, m) = (h, i, j, l, m)

pub with_attributes_mark : (attrs : Attributes) (x : Item) → mark_of x ≡ None → mark_of (with_attributes attrs x) ≡ None
with_attributes_mark attrs (declaration old p d) h = refl
with_attributes_mark attrs x h = h

pub shown_with : (attrs old : Attributes) (p : Pos) (kind : ItemKind)
    → with_attributes attrs (shown old p kind) ≡ shown attrs p kind
shown_with attrs old p (kind.If c first None) = refl
shown_with attrs old p (kind.If c first (Some second)) = refl
shown_with attrs old p x = refl

pub ruleset innermost_read = (innermost_outer, innermost_inner)

pub ruleset with_found = (with_attributes_found, with_attributes_mark, with_attributes_formed)

pub ruleset still_read = (still_more, still_whole, inner_word, whole_balanced)

pub ruleset whole_read = (whole_found)

pub ruleset items_spelled =
    (with_item_open, with_generate_open, closed_open, closed_found, items_pushed, still_opened, still_closed)
