-- No bracket stands in the names of well formed items and ports.
use Rattle.std.specs.Prelude.{◌≡◌, refl, ℕ, suc, ◌==◌, List, [], ◌∷◌, ◌++◌, map, Bool, true, false, ◌&&◌, not, All}
use Rattle.std.specs.Prelude.{Option, Some, None, is_none, option_to_list}
use Rattle.std.specs.List.{list_all}
use Rattle.std.proofs.Common.{ap, sym, ◌∙◌, arith, true≢false}
use Rattle.std.proofs.lemmas.Bool.Decides.{nat_tests}
use Rattle.fv_text.specs.Keyword.{keyword_of}
use Rattle.fv_text.specs.Name.{is_name, is_word, begins_word, continues_word}
use Rattle.vl_tree.specs.declared.declaration.FullPort.{FullPort}
use Rattle.vl_tree.specs.declared.declaration.Port.{Port}
use Rattle.vl_tree.specs.declared.declaration.PortKind.{PortKind}
use Rattle.vl_tree.specs.declared.declaration.PortKind.TheVariants as port
use Rattle.vl_tree.specs.declared.source.Module.{Module}
use Rattle.vl_tree.specs.DeclarationWellFormed.{IsDeclaredName, IsParameter, IsPort, IsPortKind}
use Rattle.vl_tree.specs.ExprWellFormed.{IsName}
use Rattle.vl_tree.specs.Item.{
  Item,
  Items,
  declaration,
  integer,
  genvar,
  parameter,
  assign,
  always,
  initial,
  instance,
  generate,
  for_loop,
  if_only,
  if_else,
  no_items,
  more_items,
  items,
}
use Rattle.vl_tree.specs.WellFormed.{IsWellFormed, AreWellFormed, IsModule, AreOptionalPorts}
use Rattle.vl_size.specs.Table.{is_plain}
use Rattle.vl_mean.specs.Declarations.{full_port, full_ports, ports_of}
use Rattle.vl_mean.specs.Walk.{port_names}
use Rattle.vl_elab_spec.specs.Meanings.{item_names, items_names}
use Rattle.vl_elab_decls.specs.Shaped.{ArePlain}

-- ---- a name

and_first : (a b : Bool) → (a && b) ≡ true → a ≡ true
and_first true b h = refl
and_first false b h = h

and_second : (a b : Bool) → (a && b) ≡ true → b ≡ true
and_second true b h = h
and_second false b h = absurd (true≢false (sym h))

is_bracket : (c : ℕ) → (c == 91) ≡ true → c ≡ 91
is_bracket c h = grind (arith, nat_tests)

module _ (p : ℕ → Bool) (none : p 91 ≡ false) where
  one_plain : (c : ℕ) → p c ≡ true → not (c == 91) ≡ true
  one_plain c h = by (c == 91) refl
    where
      by : (b : Bool) → (c == 91) ≡ b → not b ≡ true
      by true e = absurd (true≢false (sym h ∙ ap p (is_bracket c e) ∙ none))
      by false e = refl

  all_plain : (cs : List ℕ) → list_all p cs ≡ true → is_plain cs ≡ true
  all_plain [] h = refl
  all_plain (c ∷ cs) h =
      (λ i. one_plain c (and_first (p c) (list_all p cs) h) i && is_plain cs)
      ∙ all_plain cs (and_second (p c) (list_all p cs) h)

word_plain : (text : List ℕ) → is_word text ≡ true → is_plain text ≡ true
word_plain [] h = refl
word_plain (c ∷ cs) h =
    (λ i. one_plain begins_word refl c (and_first (begins_word c) (list_all continues_word cs) h) i && is_plain cs)
    ∙ all_plain continues_word refl cs (and_second (begins_word c) (list_all continues_word cs) h)

name_plain : (text : List ℕ) → IsName text → is_plain text ≡ true
unfolding is_name
name_plain text h = word_plain text (and_first (is_word text) (is_none (keyword_of text)) h)

-- ---- names of a scope

plain_append : (xs ys : List (List ℕ)) → ArePlain xs → ArePlain ys → ArePlain (xs ++ ys)
plain_append [] ys h k = k
plain_append (x ∷ xs) ys h k = (h.0, plain_append xs ys h.1 k)

module _ {A : Type 0} (P : A → Type 0) (text : A → List ℕ) (named : (x : A) → P x → IsName (text x)) where
  each_plain : (xs : List A) → All P xs → ArePlain (map text xs)
  each_plain [] h = tt
  each_plain (x ∷ xs) h =
      (name_plain (text x) (named x (h 0 x (omega arith))), each_plain xs (λ k d l. h (suc k) d (omega arith)))

texts_plain : (xs : List (List ℕ)) → All IsName xs → ArePlain xs
texts_plain [] h = tt
texts_plain (x ∷ xs) h = (name_plain x (h 0 x (omega arith)), texts_plain xs (λ k d l. h (suc k) d (omega arith)))

item_plain : (x : Item) → IsWellFormed x → ArePlain (item_names x)
item_plain (declaration attrs p d) w = each_plain IsDeclaredName (λ x. x.name) (λ x h. h.0) d.names w.1.1.1
item_plain (integer attrs p xs) w = each_plain IsDeclaredName (λ x. x.name) (λ x h. h.0) xs w.1.1
item_plain (genvar attrs p xs) w = texts_plain xs w.1.1
item_plain (parameter attrs p kind xs) w = each_plain IsParameter (λ x. x.name) (λ x h. h.1) xs w.1.1
item_plain (assign attrs p xs) w = tt
item_plain (always attrs p event s) w = tt
item_plain (initial attrs p s) w = tt
item_plain (instance attrs p x) w = tt
item_plain (generate attrs p mark) w = tt
item_plain (for_loop attrs p head b) w = tt
item_plain (if_only attrs p c b) w = tt
item_plain (if_else attrs p c b d) w = tt

pub items_plain : (xs : Items) → AreWellFormed xs → ArePlain (items_names xs)
items_plain no_items w = tt
items_plain (more_items x xs) w = plain_append (item_names x) (items_names xs) (item_plain x w.0) (items_plain xs w.1)

-- ---- ports

IsNamedPort : Option FullPort → Type 0
IsNamedPort None = Unit {0}
IsNamedPort (Some p) = IsName p.name

kind_named : (last : Option FullPort) (kind : PortKind) → IsPortKind kind → IsNamedPort (full_port last kind)
unfolding IsNamedPort
kind_named last (port.Full p) w = w.2
kind_named None (port.Short text value) w = tt
kind_named (Some p) (port.Short text value) w = w.0

port_plain : (q : Option FullPort) (qs : List FullPort) → IsNamedPort q → ArePlain (port_names qs)
    → ArePlain (port_names (option_to_list q ++ qs))
unfolding IsNamedPort
port_plain None qs h k = k
port_plain (Some q) qs h k = (name_plain q.name h, k)

full_plain : (last : Option FullPort) (ps : List Port) → All IsPort ps → ArePlain (port_names (full_ports last ps))
full_plain last [] h = tt
full_plain last (p ∷ ps) h =
    let q : Option FullPort = full_port last p.kind in
    port_plain q (full_ports q ps) (kind_named last p.kind (h 0 p (omega arith)))
    (full_plain q ps (λ k d l. h (suc k) d (omega arith)))

ports_plain : (ps : Option (List Port)) → AreOptionalPorts ps → ArePlain (port_names (ports_of ps))
ports_plain None w = tt
ports_plain (Some ps) w = full_plain None ps w.1

pub module_plain : (m : Module) → IsModule m → ArePlain (port_names (ports_of m.ports) ++ items_names (items m.items))
module_plain m w =
    plain_append (port_names (ports_of m.ports)) (items_names (items m.items)) (ports_plain m.ports w.2)
    (items_plain (items m.items) w.4)
