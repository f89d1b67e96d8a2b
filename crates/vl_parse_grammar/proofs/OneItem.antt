-- No two well formed items are spelled by one list of tokens.
use Rattle.std.proofs.Common.{◌≡◌, ℕ, zero, suc, Bool, true, false, ◌==◌, List, [], ◌∷◌, Option, Some, None, refl}
use Rattle.std.proofs.Common.{sym, ap, ◌∙◌, subst, arith, eq-eqb}
use Rattle.fv_text.specs.declared.keyword.Keyword.{Keyword}
use Rattle.fv_text.specs.declared.keyword.Keyword.TheVariants as word
use Rattle.fv_text.specs.declared.kind.Kind.{Kind}
use Rattle.fv_text.specs.declared.kind.Kind.TheVariants as k
use Rattle.fv_text.specs.declared.symbol.Symbol.TheVariants as s
use Rattle.fv_text.specs.declared.token.Token.{Token}
use Rattle.vl_tree.specs.declared.declaration.DeclaredName.{DeclaredName}
use Rattle.vl_tree.specs.declared.declaration.NetKind.{NetKind}
use Rattle.vl_tree.specs.declared.declaration.NetKind.TheVariants as n
use Rattle.vl_tree.specs.declared.declaration.ParameterKind.{ParameterKind}
use Rattle.vl_tree.specs.declared.declaration.ParameterKind.TheVariants as q
use Rattle.vl_tree.specs.declared.item.RegionMark.{RegionMark}
use Rattle.vl_tree.specs.declared.item.RegionMark.TheVariants as mark
use Rattle.vl_tree.specs.Attributes.{Attributes}
use Rattle.vl_tree.specs.DeclarationSpelling.{spell_attributes, spell_declared_name, spell_parameter, net_word}
use Rattle.vl_tree.specs.DeclarationSpelling.{parameter_word}
use Rattle.vl_tree.specs.DeclarationWellFormed.{AreAttributes, AreSome, IsDeclaredName, IsParameter}
use Rattle.vl_tree.specs.ExprWellFormed.{IsName}
use Rattle.vl_tree.specs.Item.{
  Item,
  Items,
  Block,
  declaration,
  integer,
  genvar,
  parameter,
  assign,
  always,
  initial,
  instance,
  generate,
  for_loop,
  if_only,
  if_else,
  no_items,
  more_items,
  begin,
  region,
  single,
}
use Rattle.vl_tree.specs.ItemSpelling.{spell, spell_all, spell_block, spell_assignment, mark_word}
use Rattle.vl_tree.specs.Phrase.{a_name, between_commas, IsNext, Spells}
use Rattle.vl_tree.specs.Stmt as stmt_tree
use Rattle.vl_tree.specs.Stmt.{Stmt}
use Rattle.vl_tree.specs.StmtWellFormed as stmt_well
use Rattle.vl_tree.specs.WellFormed.{IsAssignment, attributes_of, mark_of, ends_open, block_ends_open}
use Rattle.vl_tree.specs.WellFormed.{open_behind_mark, open_behind, IsWellFormed, AreWellFormed, IsBlock}
use Rattle.vl_parse_grammar.specs.Grammar as grammar
use Rattle.vl_parse_grammar.specs.Grammar.{Ending, endmodule, endgenerate}
use Rattle.vl_parse_grammar.proofs.Regions.{NoClose, some_none, no_mark, first_opens}
use Rattle.vl_parse_grammar.proofs.Steps.{apart}
use Rattle.vl_parse_grammar.proofs.Words.{ending_word}
use Rattle.vl_parse_grammar.proofs.OneToken.{first, next_first, one_rest, one_kind, one_place, name_same}
use Rattle.vl_parse_grammar.proofs.OneExpr.{by_first}
use Rattle.vl_parse_grammar.proofs.OneDeclaration.{After, after_by, clash_next, some_one, shape_one, declared_one}
use Rattle.vl_parse_grammar.proofs.OneDeclaration.{parameter_one, is_no_attribute, attributes_one}
use Rattle.vl_parse_grammar.proofs.OnePort.{net_word_one}
use Rattle.vl_parse_grammar.proofs.OneStmt.{NoElse, is_no_else, is_colon, parens_one, label_name_one, no_open, one_stmt}
use Rattle.vl_parse_grammar.proofs.OnePart.{assignment_one, event_one, instance_one, head_one}

-- what an item is by its first token behind its attributes
abbrev class : Kind → ℕ
class (k.Keyword word.Wire) = 0
class (k.Keyword word.Reg) = 0
class (k.Keyword word.Integer) = 1
class (k.Keyword word.Genvar) = 2
class (k.Keyword word.Parameter) = 3
class (k.Keyword word.Localparam) = 3
class (k.Keyword word.Assign) = 4
class (k.Keyword word.Always) = 5
class (k.Keyword word.Initial) = 6
class (k.Name text) = 7
class (k.Keyword word.Generate) = 8
class (k.Keyword word.For) = 9
class (k.Keyword word.If) = 10
class (k.Keyword word.Endgenerate) = 11
class t = 12

abbrev which : Item → ℕ
which (declaration attrs p d) = 0
which (integer attrs p xs) = 1
which (genvar attrs p xs) = 2
which (parameter attrs p kind xs) = 3
which (assign attrs p xs) = 4
which (always attrs p event x) = 5
which (initial attrs p x) = 6
which (instance attrs p x) = 7
which (generate attrs p mark.Open) = 8
which (generate attrs p mark.Close) = 11
which (for_loop attrs p head b) = 9
which (if_only attrs p c b) = 10
which (if_else attrs p c b d) = 10

-- the same without telling one mark from the other
abbrev kind_of : Item → ℕ
kind_of (generate attrs p m) = 8
kind_of x = which x

abbrev coarse : ℕ → ℕ
coarse (suc (suc (suc (suc (suc (suc (suc (suc (suc (suc (suc n))))))))))) = 8
coarse n = n

coarse_which : (x : Item) → coarse (which x) ≡ kind_of x
coarse_which (generate attrs p mark.Open) = refl
coarse_which (generate attrs p mark.Close) = refl
coarse_which x = refl

attributes_formed : (x : Item) → IsWellFormed x → AreAttributes (attributes_of x)
attributes_formed (declaration attrs p d) w = w.0
attributes_formed (integer attrs p xs) w = w.0
attributes_formed (genvar attrs p xs) w = w.0
attributes_formed (parameter attrs p kind xs) w = w.0
attributes_formed (assign attrs p xs) w = w.0
attributes_formed (always attrs p event x) w = w.0
attributes_formed (initial attrs p x) w = w.0
attributes_formed (instance attrs p x) w = w.0
attributes_formed (generate attrs p m) w = w.0
attributes_formed (for_loop attrs p head b) w = w.0
attributes_formed (if_only attrs p c b) w = w.0
attributes_formed (if_else attrs p c b d) w = w.0

class_net : (x : NetKind) → class (k.Keyword (net_word x)) ≡ 0
class_net n.Wire = refl
class_net n.Reg = refl

class_parameter : (x : ParameterKind) → class (k.Keyword (parameter_word x)) ≡ 3
class_parameter q.Parameter = refl
class_parameter q.Localparam = refl

record Behind (x : Item) (ts : List Token) : Type 0 where
  middle : List Token
  attributes : Spells (spell_attributes (attributes_of x)) ts middle
  kind : class (first middle) ≡ which x

behind_word : (x : Item) (y : Keyword) (ts m o : List Token) → Spells (spell_attributes (attributes_of x)) ts m
    → IsNext (k.Keyword y) m o
    → class (k.Keyword y) ≡ which x → Behind x ts
behind_word x y ts m o h i e =
    record { middle = m; attributes = h; kind = ap class (next_first (k.Keyword y) m o i) ∙ e }

behind : (x : Item) (ts r : List Token) → Spells (spell x) ts r → Behind x ts
behind (declaration attrs p d) ts r (m, h, (g, (m2, i, j))) =
    behind_word (declaration attrs p d) (net_word d.net) ts m m2 h i (class_net d.net)
behind (integer attrs p xs) ts r (m, h, (g, (m2, i, j))) =
    behind_word (integer attrs p xs) word.Integer ts m m2 h i refl
behind (genvar attrs p xs) ts r (m, h, (g, (m2, i, j))) = behind_word (genvar attrs p xs) word.Genvar ts m m2 h i refl
behind (parameter attrs p kind xs) ts r (m, h, (g, (m2, i, j))) =
    behind_word (parameter attrs p kind xs) (parameter_word kind) ts m m2 h i (class_parameter kind)
behind (assign attrs p xs) ts r (m, h, (g, (m2, i, j))) = behind_word (assign attrs p xs) word.Assign ts m m2 h i refl
behind (always attrs p event x) ts r (m, h, (g, (m2, i, j))) =
    behind_word (always attrs p event x) word.Always ts m m2 h i refl
behind (initial attrs p x) ts r (m, h, (g, (m2, i, j))) = behind_word (initial attrs p x) word.Initial ts m m2 h i refl
behind (instance attrs p x) ts r (m, h, (g, (m2, i, j))) =
    record { middle = m; attributes = h; kind = ap class (next_first (k.Name x.definition) m m2 i) }
behind (generate attrs p mark.Open) ts r (m, h, (g, i)) =
    behind_word (generate attrs p mark.Open) word.Generate ts m r h i refl
behind (generate attrs p mark.Close) ts r (m, h, (g, i)) =
    behind_word (generate attrs p mark.Close) word.Endgenerate ts m r h i refl
behind (for_loop attrs p head b) ts r (m, h, (g, (m2, i, j))) =
    behind_word (for_loop attrs p head b) word.For ts m m2 h i refl
behind (if_only attrs p c b) ts r (m, h, (g, (m2, i, j))) = behind_word (if_only attrs p c b) word.If ts m m2 h i refl
behind (if_else attrs p c b d) ts r (m, h, (g, (m2, i, j))) =
    behind_word (if_else attrs p c b d) word.If ts m m2 h i refl

abbrev below : ℕ → Bool
below (suc (suc (suc (suc (suc (suc (suc (suc (suc (suc (suc (suc n)))))))))))) = false
below n = true

class_no_attribute : (t : Kind) → below (class t) ≡ true → is_no_attribute t ≡ true
class_no_attribute (k.Symbol s.OpenAttribute) h = apart h
class_no_attribute (k.Symbol x) h = refl
class_no_attribute t h = refl

which_below : (x : Item) → below (which x) ≡ true
which_below (declaration attrs p d) = refl
which_below (integer attrs p xs) = refl
which_below (genvar attrs p xs) = refl
which_below (parameter attrs p kind xs) = refl
which_below (assign attrs p xs) = refl
which_below (always attrs p event x) = refl
which_below (initial attrs p x) = refl
which_below (instance attrs p x) = refl
which_below (generate attrs p mark.Open) = refl
which_below (generate attrs p mark.Close) = refl
which_below (for_loop attrs p head b) = refl
which_below (if_only attrs p c b) = refl
which_below (if_else attrs p c b d) = refl

no_attribute : (x : Item) (ts : List Token) (f : Behind x ts) → is_no_attribute (first f.middle) ≡ true
no_attribute x ts f = class_no_attribute (first f.middle) (ap below f.kind ∙ which_below x)

which_same : (x y : Item) (ts us r q : List Token) → ts ≡ us → IsWellFormed x → IsWellFormed y
    → Spells (spell x) ts r → Spells (spell y) us q
    → (kind_of x == kind_of y) ≡ true
which_same x y ts us r q e w v h i =
    let f = behind x ts r h in
    let g = behind y us q i in
    let (attrs, same) = attributes_one (attributes_of x) (attributes_of y) ts us f.middle g.middle e
    (attributes_formed x w) (attributes_formed y v)
    f.attributes g.attributes (no_attribute x ts f) (no_attribute y us g) in
    eq-eqb (kind_of x) (kind_of y)
    (sym (coarse_which x) ∙ ap coarse (sym f.kind ∙ ap (λ vs. class (first vs)) same ∙ g.kind) ∙ coarse_which y)

-- a token that no item begins with, nor its attributes; the end of a region is one
abbrev is_none : Kind → Bool
is_none (k.Symbol s.OpenAttribute) = false
is_none (k.Keyword word.Wire) = false
is_none (k.Keyword word.Reg) = false
is_none (k.Keyword word.Integer) = false
is_none (k.Keyword word.Genvar) = false
is_none (k.Keyword word.Parameter) = false
is_none (k.Keyword word.Localparam) = false
is_none (k.Keyword word.Assign) = false
is_none (k.Keyword word.Always) = false
is_none (k.Keyword word.Initial) = false
is_none (k.Name text) = false
is_none (k.Keyword word.Generate) = false
is_none (k.Keyword word.For) = false
is_none (k.Keyword word.If) = false
is_none t = true

-- nor is it the end of a region
abbrev is_nowhere : Kind → Bool
is_nowhere (k.Keyword word.Endgenerate) = false
is_nowhere t = is_none t

abbrev starts : ℕ → Bool
starts (suc (suc (suc (suc (suc (suc (suc (suc (suc (suc (suc n))))))))))) = false
starts n = true

which_starts : (x : Item) → NoClose x → starts (which x) ≡ true
which_starts (declaration attrs p d) c = refl
which_starts (integer attrs p xs) c = refl
which_starts (genvar attrs p xs) c = refl
which_starts (parameter attrs p kind xs) c = refl
which_starts (assign attrs p xs) c = refl
which_starts (always attrs p event x) c = refl
which_starts (initial attrs p x) c = refl
which_starts (instance attrs p x) c = refl
which_starts (generate attrs p mark.Open) c = refl
which_starts (generate attrs p mark.Close) c = absurd c
which_starts (for_loop attrs p head b) c = refl
which_starts (if_only attrs p x b) c = refl
which_starts (if_else attrs p x b d) c = refl

class_some : (t : Kind) → starts (class t) ≡ true → is_none t ≡ false
class_some (k.Symbol s.OpenAttribute) h = refl
class_some (k.Symbol x) h = apart h
class_some (k.Name text) h = refl
class_some (k.Keyword word.Wire) h = refl
class_some (k.Keyword word.Reg) h = refl
class_some (k.Keyword word.Integer) h = refl
class_some (k.Keyword word.Genvar) h = refl
class_some (k.Keyword word.Parameter) h = refl
class_some (k.Keyword word.Localparam) h = refl
class_some (k.Keyword word.Assign) h = refl
class_some (k.Keyword word.Always) h = refl
class_some (k.Keyword word.Initial) h = refl
class_some (k.Keyword word.Generate) h = refl
class_some (k.Keyword word.For) h = refl
class_some (k.Keyword word.If) h = refl
class_some (k.Keyword x) h = apart h
class_some t h = apart h

class_known : (t : Kind) → below (class t) ≡ true → is_nowhere t ≡ false
class_known (k.Symbol s.OpenAttribute) h = refl
class_known (k.Symbol x) h = apart h
class_known (k.Name text) h = refl
class_known (k.Keyword word.Wire) h = refl
class_known (k.Keyword word.Reg) h = refl
class_known (k.Keyword word.Integer) h = refl
class_known (k.Keyword word.Genvar) h = refl
class_known (k.Keyword word.Parameter) h = refl
class_known (k.Keyword word.Localparam) h = refl
class_known (k.Keyword word.Assign) h = refl
class_known (k.Keyword word.Always) h = refl
class_known (k.Keyword word.Initial) h = refl
class_known (k.Keyword word.Generate) h = refl
class_known (k.Keyword word.For) h = refl
class_known (k.Keyword word.If) h = refl
class_known (k.Keyword word.Endgenerate) h = refl
class_known (k.Keyword x) h = apart h
class_known t h = apart h

-- what holds of a bracket before attributes, and of the token behind them, holds of the first
behind_first : (is : Kind → Bool) (vs : Attributes) (ts m : List Token) → Spells (spell_attributes vs) ts m
    → is (k.Symbol s.OpenAttribute) ≡ false → is (first m) ≡ false → is (first ts) ≡ false
behind_first is [] ts m h o e = ap (λ us. is (first us)) h ∙ e
behind_first is (v ∷ vs) ts m (m3, (g, (m4, (m5, h2, i2), c)), l) o e =
    ap is (next_first (k.Symbol s.OpenAttribute) ts m5 h2) ∙ o

item_some : (x : Item) (ts r : List Token) → NoClose x → Spells (spell x) ts r → is_none (first ts) ≡ false
item_some x ts r c h =
    (let f = behind x ts r h in
    behind_first is_none (attributes_of x) ts f.middle f.attributes refl
    (class_some (first f.middle) (ap starts f.kind ∙ which_starts x c)))

item_known : (x : Item) (ts r : List Token) → Spells (spell x) ts r → is_nowhere (first ts) ≡ false
item_known x ts r h =
    (let f = behind x ts r h in
    behind_first is_nowhere (attributes_of x) ts f.middle f.attributes refl
    (class_known (first f.middle) (ap below f.kind ∙ which_below x)))

none_else : (t : Kind) → is_nowhere t ≡ false → is_no_else t ≡ true
none_else (k.Keyword word.Else) h = apart (sym h)
none_else (k.Keyword x) h = refl
none_else t h = refl

none_colon : (t : Kind) → is_nowhere t ≡ false → is_colon t ≡ false
none_colon (k.Symbol s.Colon) h = apart (sym h)
none_colon (k.Symbol x) h = refl
none_colon t h = refl

ending_none : (ending : Ending) → is_none (k.Keyword (ending_word ending)) ≡ true
ending_none endmodule = refl
ending_none endgenerate = refl
ending_none grammar.end = refl

ending_else : (ending : Ending) → is_no_else (k.Keyword (ending_word ending)) ≡ true
ending_else endmodule = refl
ending_else endgenerate = refl
ending_else grammar.end = refl

items_no_else : (x : Items) (ending : Ending) (ts m r : List Token) → Spells (spell_all x) ts m
    → IsNext (k.Keyword (ending_word ending)) m r → NoElse ts
items_no_else no_items ending ts m r h i =
    ap (λ us. is_no_else (first us)) h ∙ by_first is_no_else _ m r i (ending_else ending)
items_no_else (more_items x xs) ending ts m r (m2, h, j) i = none_else (first ts) (item_known x ts m2 h)

items_no_colon : (x : Items) (ts m r : List Token) → Spells (spell_all x) ts m → IsNext (k.Keyword word.End) m r
    → is_colon (first ts) ≡ false
items_no_colon no_items ts m r h i = ap (λ us. is_colon (first us)) h ∙ ap is_colon (next_first _ m r i)
items_no_colon (more_items x xs) ts m r (m2, h, j) i = none_colon (first ts) (item_known x ts m2 h)

-- an item without attributes that is no mark doesn't begin as a region
unmarked_which : (x : Item) → mark_of x ≡ None → (which x == 8) ≡ false
unmarked_which (generate attrs p m) h = some_none m h
unmarked_which x h = refl

single_class : (x : Item) (ts r : List Token) → attributes_of x ≡ [] → mark_of x ≡ None → Spells (spell x) ts r
    → (class (first ts) == 8) ≡ false
single_class x ts r b n h =
    let f = behind x ts r h in
    let here : ts ≡ f.middle = subst (λ vs. Spells (spell_attributes vs) ts f.middle) b f.attributes in
    ap (λ us. class (first us) == 8) here ∙ ap (λ c. c == 8) f.kind ∙ unmarked_which x n

-- parts
record FirstName (ts : List Token) : Type 0 where
  text : List ℕ
  rest : List Token
  next : IsNext (k.Name text) ts rest

first_name : (es : List DeclaredName) (ts m : List Token) → AreSome IsDeclaredName es
    → Spells (between_commas spell_declared_name es) ts m → FirstName ts
first_name [] ts m w h = absurd (omega (arith, w.0))
first_name (x ∷ es) ts m w (m2, (g, (m3, h, i)), j) = record { text = x.name; rest = m3; next = h }

semicolon : (ts m : List Token) → IsNext (k.Symbol s.Semicolon) ts m → After ts
semicolon ts m h = after_by (k.Symbol s.Semicolon) ts m h refl refl refl refl

names_one : (vs ws : List DeclaredName) (ts us m o r q : List Token) → ts ≡ us → AreSome IsDeclaredName vs
    → AreSome IsDeclaredName ws
    → Spells (between_commas spell_declared_name vs) ts m → Spells (between_commas spell_declared_name ws) us o
    → IsNext (k.Symbol s.Semicolon) m r → IsNext (k.Symbol s.Semicolon) o q → (vs ≡ ws) × (r ≡ q)
names_one vs ws ts us m o r q e w v h i a b =
    some_one spell_declared_name IsDeclaredName
    (k.Symbol s.Semicolon) refl semicolon declared_one vs ws ts us m o r q e w v h i a b

name_one : (x y : List ℕ) (ts us r q : List Token) → ts ≡ us → IsName x → IsName y → Spells (a_name x) ts r
    → Spells (a_name y) us q → After r → After q
    → (x ≡ y) × (r ≡ q)
name_one x y ts us r q e w v h i a b = (name_same x y (one_kind _ _ ts us r q e h i), one_rest _ _ ts us r q e h i)

parameter_of : Kind → ParameterKind
parameter_of (k.Keyword word.Parameter) = q.Parameter
parameter_of t = q.Localparam

parameter_back : (x : ParameterKind) → parameter_of (k.Keyword (parameter_word x)) ≡ x
unfolding parameter_of
parameter_back q.Parameter = refl
parameter_back q.Localparam = refl

mark_by : Kind → RegionMark
mark_by (k.Keyword word.Generate) = mark.Open
mark_by t = mark.Close

mark_back : (x : RegionMark) → mark_by (k.Keyword (mark_word x)) ≡ x
unfolding mark_by
mark_back mark.Open = refl
mark_back mark.Close = refl

no_attribute_mark : (x : RegionMark) → is_no_attribute (k.Keyword (mark_word x)) ≡ true
no_attribute_mark mark.Open = refl
no_attribute_mark mark.Close = refl

no_attribute_net : (x : NetKind) → is_no_attribute (k.Keyword (net_word x)) ≡ true
no_attribute_net n.Wire = refl
no_attribute_net n.Reg = refl

no_attribute_parameter : (x : ParameterKind) → is_no_attribute (k.Keyword (parameter_word x)) ≡ true
no_attribute_parameter q.Parameter = refl
no_attribute_parameter q.Localparam = refl

initial_closed : (x : Stmt) → stmt_well.IsInitial x → stmt_well.ends_open x ≡ false
initial_closed (stmt_tree.begin attrs p name x) i = refl
initial_closed (stmt_tree.assign attrs p l kind x) i = refl
initial_closed (stmt_tree.if_only attrs p x y) i = absurd i
initial_closed (stmt_tree.if_else attrs p x y z) i = absurd i
initial_closed (stmt_tree.case attrs p kind x zs) i = absurd i
initial_closed (stmt_tree.assume attrs p x) i = absurd i
initial_closed (stmt_tree.empty attrs p) i = absurd i

mutual
  pub one_item : (x y : Item) (ts us r q : List Token) → ts ≡ us → IsWellFormed x → IsWellFormed y
      → Spells (spell x) ts r → Spells (spell y) us q
      → (ends_open x ≡ true → NoElse r) → (ends_open y ≡ true → NoElse q) → (x ≡ y) × (r ≡ q)
  one_item (declaration vs p d) (declaration ws p2 d2) ts us r q e w v
      (m, h, (g, (m2, i, (m3, j, (m4, l, c))))) (o, h2, (g2, (o2, i2, (o3, j2, (o4, l2, c2))))) f f2 =
      let (attrs, start) = attributes_one vs ws ts us m o e w.0 v.0 h h2
      (by_first is_no_attribute _ m m2 i (no_attribute_net d.net))
      (by_first is_no_attribute _ o o2 i2 (no_attribute_net d2.net)) in
      let n1 = first_name d.names m3 m4 w.1.1 l in
      let n2 = first_name d2.names o3 o4 v.1.1 l2 in
      let (shape, middle) = shape_one d.shape d2.shape m2 o2 m3 o3 n1.rest n2.rest n1.text n2.text
      (one_rest _ _ m o m2 o2 start i i2) w.1.0 v.1.0 j j2 n1.next n2.next in
      let (names, end) = names_one d.names d2.names m3 o3 m4 o4 r q middle w.1.1 v.1.1 l l2 c c2 in (
        (λ z. declaration (attrs z) (one_place p p2 m o start g g2 z)
            (record { net = net_word_one d.net d2.net m o m2 o2 start i i2 z; shape = shape z; names = names z })),
        end,
      )
  one_item (integer vs p xs) (integer ws p2 ys) ts us r q e w v (m, h, (g, (m2, i, (m3, j, c))))
      (o, h2, (g2, (o2, i2, (o3, j2, c2)))) f f2 =
      let (attrs, start) = attributes_one vs ws ts us m o e w.0 v.0 h h2 (by_first is_no_attribute _ m m2 i refl)
      (by_first is_no_attribute _ o o2 i2 refl) in
      let (names, end) = names_one xs ys m2 o2 m3 o3 r q (one_rest _ _ m o m2 o2 start i i2) w.1 v.1 j j2 c c2 in
      ((λ z. integer (attrs z) (one_place p p2 m o start g g2 z) (names z)), end)
  one_item (genvar vs p xs) (genvar ws p2 ys) ts us r q e w v (m, h, (g, (m2, i, (m3, j, c))))
      (o, h2, (g2, (o2, i2, (o3, j2, c2)))) f f2 =
      let (attrs, start) = attributes_one vs ws ts us m o e w.0 v.0 h h2 (by_first is_no_attribute _ m m2 i refl)
      (by_first is_no_attribute _ o o2 i2 refl) in
      let (names, end) = some_one a_name IsName (k.Symbol s.Semicolon) refl semicolon name_one xs ys m2 o2 m3 o3 r q
      (one_rest _ _ m o m2 o2 start i i2) w.1 v.1 j j2 c c2 in
      ((λ z. genvar (attrs z) (one_place p p2 m o start g g2 z) (names z)), end)
  one_item (parameter vs p kind xs) (parameter ws p2 kind2 ys) ts us r q e w v (m, h, (g, (m2, i, (m3, j, c))))
      (o, h2, (g2, (o2, i2, (o3, j2, c2)))) f f2 =
      let (attrs, start) = attributes_one vs ws ts us m o e w.0 v.0 h h2
      (by_first is_no_attribute _ m m2 i (no_attribute_parameter kind))
      (by_first is_no_attribute _ o o2 i2 (no_attribute_parameter kind2)) in
      let kind_same : kind ≡ kind2 = sym (parameter_back kind) ∙ ap parameter_of (one_kind _ _ m o m2 o2 start i i2)
      ∙ parameter_back kind2 in
      let (all, end) = some_one spell_parameter IsParameter
      (k.Symbol s.Semicolon) refl semicolon parameter_one xs ys m2 o2 m3 o3 r q
      (one_rest _ _ m o m2 o2 start i i2) w.1 v.1 j j2 c c2 in
      ((λ z. parameter (attrs z) (one_place p p2 m o start g g2 z) (kind_same z) (all z)), end)
  one_item (assign vs p xs) (assign ws p2 ys) ts us r q e w v (m, h, (g, (m2, i, (m3, j, c))))
      (o, h2, (g2, (o2, i2, (o3, j2, c2)))) f f2 =
      let (attrs, start) = attributes_one vs ws ts us m o e w.0 v.0 h h2 (by_first is_no_attribute _ m m2 i refl)
      (by_first is_no_attribute _ o o2 i2 refl) in
      let (all, end) = some_one spell_assignment IsAssignment
      (k.Symbol s.Semicolon) refl semicolon assignment_one xs ys m2 o2 m3 o3 r q
      (one_rest _ _ m o m2 o2 start i i2) w.1 v.1 j j2 c c2 in
      ((λ z. assign (attrs z) (one_place p p2 m o start g g2 z) (all z)), end)
  one_item (always vs p event x) (always ws p2 event2 y) ts us r q e w v
      (m, h, (g, (m2, i, (m3, t, (m4, j, l))))) (o, h2, (g2, (o2, i2, (o3, t2, (o4, j2, l2))))) f f2 =
      let (attrs, start) = attributes_one vs ws ts us m o e w.0 v.0 h h2 (by_first is_no_attribute _ m m2 i refl)
      (by_first is_no_attribute _ o o2 i2 refl) in
      let (events, middle) = event_one event event2 m3 o3 m4 o4
      (one_rest _ _ m2 o2 m3 o3 (one_rest _ _ m o m2 o2 start i i2) t t2) j j2 in
      let (same, end) = one_stmt x y m4 o4 r q middle w.2 v.2 l l2 f f2 in
      ((λ z. always (attrs z) (one_place p p2 m o start g g2 z) (events z) (same z)), end)
  one_item (initial vs p x) (initial ws p2 y) ts us r q e w v (m, h, (g, (m2, i, j))) (o, h2, (g2, (o2, i2, j2))) f f2 =
      let (attrs, start) = attributes_one vs ws ts us m o e w.0 v.0 h h2 (by_first is_no_attribute _ m m2 i refl)
      (by_first is_no_attribute _ o o2 i2 refl) in
      let (same, end) = one_stmt x y m2 o2 r q (one_rest _ _ m o m2 o2 start i i2) w.2 v.2 j j2
      (λ z. no_open (stmt_well.ends_open x) (initial_closed x w.1) z)
      (λ z. no_open (stmt_well.ends_open y) (initial_closed y v.1) z) in
      ((λ z. initial (attrs z) (one_place p p2 m o start g g2 z) (same z)), end)
  one_item (instance vs p x) (instance ws p2 y) ts us r q e w v (m, h, (g, (m2, i, j)))
      (o, h2, (g2, (o2, i2, j2))) f f2 =
      let (attrs, start) = attributes_one vs ws ts us m o e w.0 v.0 h h2 (by_first is_no_attribute _ m m2 i refl)
      (by_first is_no_attribute _ o o2 i2 refl) in
      let (same, end) = instance_one x y m o r q start w.1 v.1 (m2, i, j) (o2, i2, j2) in
      ((λ z. instance (attrs z) (one_place p p2 m o start g g2 z) (same z)), end)
  one_item (generate vs p x) (generate ws p2 y) ts us r q e w v (m, h, (g, i)) (o, h2, (g2, i2)) f f2 =
      let (attrs, start) = attributes_one vs ws ts us m o e w.0 v.0 h h2
      (by_first is_no_attribute _ m r i (no_attribute_mark x))
      (by_first is_no_attribute _ o q i2 (no_attribute_mark y)) in
      let same : x ≡ y = sym (mark_back x) ∙ ap mark_by (one_kind _ _ m o r q start i i2) ∙ mark_back y in
      ((λ z. generate (attrs z) (one_place p p2 m o start g g2 z) (same z)), one_rest _ _ m o r q start i i2)
  one_item (for_loop vs p x b) (for_loop ws p2 y d) ts us r q e w v (m, h, (g, (m2, i, (m3, j, l))))
      (o, h2, (g2, (o2, i2, (o3, j2, l2)))) f f2 =
      let (attrs, start) = attributes_one vs ws ts us m o e w.0 v.0 h h2 (by_first is_no_attribute _ m m2 i refl)
      (by_first is_no_attribute _ o o2 i2 refl) in
      let (head, middle) = head_one x y m2 o2 m3 o3 (one_rest _ _ m o m2 o2 start i i2) w.1 v.1 j j2 in
      let (same, end) = one_block b d m3 o3 r q middle w.2 v.2 l l2 f f2 in
      ((λ z. for_loop (attrs z) (one_place p p2 m o start g g2 z) (head z) (same z)), end)
  one_item (if_only vs p x b) (if_only ws p2 y d) ts us r q e w v (m, h, (g, (m2, i, (m3, j, l))))
      (o, h2, (g2, (o2, i2, (o3, j2, l2)))) f f2 =
      let (attrs, start) = attributes_one vs ws ts us m o e w.0 v.0 h h2 (by_first is_no_attribute _ m m2 i refl)
      (by_first is_no_attribute _ o o2 i2 refl) in
      let (condition, middle) = parens_one x y m2 o2 m3 o3 (one_rest _ _ m o m2 o2 start i i2) w.1 v.1 j j2 in
      let (same, end) = one_block b d m3 o3 r q middle w.2 v.2 l l2 (λ z. f refl) (λ z. f2 refl) in
      ((λ z. if_only (attrs z) (one_place p p2 m o start g g2 z) (condition z) (same z)), end)
  one_item (if_else vs p x b b3) (if_else ws p2 y d d3) ts us r q e w v
      (m, h, (g, (m2, i, (m3, j, (m4, l, (m5, c, t))))))
      (o, h2, (g2, (o2, i2, (o3, j2, (o4, l2, (o5, c2, t2)))))) f f2 =
      let (attrs, start) = attributes_one vs ws ts us m o e w.0 v.0 h h2 (by_first is_no_attribute _ m m2 i refl)
      (by_first is_no_attribute _ o o2 i2 refl) in
      let (condition, inner) = parens_one x y m2 o2 m3 o3 (one_rest _ _ m o m2 o2 start i i2) w.1 v.1 j j2 in
      let (same, middle) = one_block b d m3 o3 m4 o4 inner w.3 v.3 l l2 (λ z. no_open (block_ends_open b) w.2 z)
      (λ z. no_open (block_ends_open d) v.2 z) in
      let (other, end) = one_block b3 d3 m5 o5 r q (one_rest _ _ m4 o4 m5 o5 middle c c2) w.4 v.4 t t2 f f2 in
      ((λ z. if_else (attrs z) (one_place p p2 m o start g g2 z) (condition z) (same z) (other z)), end)
  one_item (if_only vs p x b) (if_else ws p2 y d d3) ts us r q e w v
      (m, h, (g, (m2, i, (m3, j, l)))) (o, h2, (g2, (o2, i2, (o3, j2, (o4, l2, (o5, c2, t2)))))) f f2 =
      let (attrs, start) = attributes_one vs ws ts us m o e w.0 v.0 h h2 (by_first is_no_attribute _ m m2 i refl)
      (by_first is_no_attribute _ o o2 i2 refl) in
      let (condition, inner) = parens_one x y m2 o2 m3 o3 (one_rest _ _ m o m2 o2 start i i2) w.1 v.1 j j2 in
      let (same, end) = one_block b d m3 o3 r o4 inner w.2 v.3 l l2 (λ z. f refl)
      (λ z. no_open (block_ends_open d) v.2 z) in
      clash_next is_no_else (k.Keyword word.Else) o4 o5 r c2 (sym end) refl (f refl)
  one_item (if_else ws p2 y d d3) (if_only vs p x b) ts us r q e w v
      (o, h2, (g2, (o2, i2, (o3, j2, (o4, l2, (o5, c2, t2)))))) (m, h, (g, (m2, i, (m3, j, l)))) f f2 =
      let (attrs, start) = attributes_one ws vs ts us o m e w.0 v.0 h2 h (by_first is_no_attribute _ o o2 i2 refl)
      (by_first is_no_attribute _ m m2 i refl) in
      let (condition, inner) = parens_one y x o2 m2 o3 m3 (one_rest _ _ o m o2 m2 start i2 i) w.1 v.1 j2 j in
      let (same, end) = one_block d b o3 m3 o4 q inner w.3 v.2 l2 l (λ z. no_open (block_ends_open d) w.2 z)
      (λ z. f2 refl) in
      clash_next is_no_else (k.Keyword word.Else) o4 o5 q c2 end refl (f2 refl)
  one_item x y ts us r q e w v h i f f2 = apart (which_same x y ts us r q e w v h i)

  -- two lists in which equally many regions are open
  pub one_items : (x y : Items) (n : Option ℕ) (ending : Ending) (ts us m o r q : List Token) → ts ≡ us
      → open_behind x n ≡ Some 0 → open_behind y n ≡ Some 0
      → AreWellFormed x → AreWellFormed y → Spells (spell_all x) ts m
      → Spells (spell_all y) us o → IsNext (k.Keyword (ending_word ending)) m r
      → IsNext (k.Keyword (ending_word ending)) o q → (x ≡ y) × (r ≡ q)
  one_items no_items no_items n ending ts us m o r q e d c w v h i a b =
      (refl, one_rest _ _ m o r q (sym h ∙ e ∙ i) a b)
  one_items (more_items x xs) (more_items y ys) n ending ts us m o r q e d c w v (m2, h, j) (o2, i, l) a b =
      let (same, middle) = one_item x y ts us m2 o2 e w.0 v.0 h i (λ z. items_no_else xs ending m2 m r j a)
      (λ z. items_no_else ys ending o2 o q l b) in
      let (others, end) = one_items xs ys (open_behind_mark (mark_of x) n) ending m2 o2 m o r q middle d
      (ap (λ z. open_behind ys (open_behind_mark (mark_of z) n)) same ∙ c) w.1 v.1 j l a b in
      ((λ z. more_items (same z) (others z)), end)
  one_items no_items (more_items y ys) n ending ts us m o r q e d c w v h (o2, i, l) a b =
      apart (sym (item_some y us o2 (first_opens y ys (subst (λ u. open_behind (more_items y ys) u ≡ Some 0) d c)) i)
      ∙ ap (λ vs. is_none (first vs)) (sym e ∙ h) ∙ ap is_none (next_first _ m r a) ∙ ending_none ending)
  one_items (more_items x xs) no_items n ending ts us m o r q e d c w v (m2, h, j) i a b =
      apart (sym (item_some x ts m2 (first_opens x xs (subst (λ u. open_behind (more_items x xs) u ≡ Some 0) c d)) h)
      ∙ ap (λ vs. is_none (first vs)) (e ∙ i) ∙ ap is_none (next_first _ o q b) ∙ ending_none ending)

  one_block : (x y : Block) (ts us r q : List Token) → ts ≡ us → IsBlock x → IsBlock y → Spells (spell_block x) ts r
      → Spells (spell_block y) us q
      → (block_ends_open x ≡ true → NoElse r) → (block_ends_open y ≡ true → NoElse q) → (x ≡ y) × (r ≡ q)
  one_block (begin p name x) (begin p2 name2 y) ts us r q e w v (g, (m2, (m3, i, (m4, j, l)), c))
      (g2, (o2, (o3, i2, (o4, j2, l2)), c2)) f f2 =
      let (names, inner) = label_name_one name name2 m3 o3 m4 o4 (one_rest _ _ ts us m3 o3 e i i2) j j2
      (items_no_colon x m4 m2 r l c) (items_no_colon y o4 o2 q l2 c2) in
      let (same, end) = one_items x y (Some 0) grammar.end m4 o4 m2 o2 r q inner w.1 v.1 w.2 v.2 l l2 c c2 in
      ((λ z. begin (one_place p p2 ts us e g g2 z) (names z) (same z)), end)
  one_block (region p x) (region p2 y) ts us r q e w v (g, (m2, i, (m3, j, c))) (g2, (o2, i2, (o3, j2, c2))) f f2 =
      let (same, end) = one_items x y (Some 0) endgenerate m2 o2 m3 o3 r q
      (one_rest _ _ ts us m2 o2 e i i2) w.0 v.0 w.1 v.1 j j2 c c2 in
      ((λ z. region (one_place p p2 ts us e g g2 z) (same z)), end)
  one_block (single x) (single y) ts us r q e w v h i f f2 =
      let (same, end) = one_item x y ts us r q e w.2 v.2 h i f f2 in (ap single same, end)
  one_block (begin p name x) (region p2 y) ts us r q e w v (g, (m2, (m3, i, j), c)) (g2, (o2, i2, j2)) f f2 =
      apart (sym (ap is_none (next_first (k.Keyword word.Generate) us o2 i2)) ∙ ap (λ vs. is_none (first vs)) (sym e)
      ∙ ap is_none (next_first (k.Keyword word.Begin) ts m3 i))
  one_block (region p2 y) (begin p name x) ts us r q e w v (g2, (o2, i2, j2)) (g, (m2, (m3, i, j), c)) f f2 =
      apart (sym (ap is_none (next_first (k.Keyword word.Generate) ts o2 i2)) ∙ ap (λ vs. is_none (first vs)) e
      ∙ ap is_none (next_first (k.Keyword word.Begin) us m3 i))
  one_block (region p x) (single y) ts us r q e w v (g, (m2, i, j)) h f f2 =
      apart (sym (single_class y us q v.0 v.1 h) ∙ ap (λ vs. class (first vs) == 8) (sym e)
      ∙ ap (λ t. class t == 8) (next_first (k.Keyword word.Generate) ts m2 i))
  one_block (single y) (region p x) ts us r q e w v h (g, (m2, i, j)) f f2 =
      apart (sym (single_class y ts r w.0 w.1 h) ∙ ap (λ vs. class (first vs) == 8) e
      ∙ ap (λ t. class t == 8) (next_first (k.Keyword word.Generate) us m2 i))
  one_block (begin p name x) (single y) ts us r q e w v (g, (m2, (m3, i, j), c)) h f f2 =
      apart (sym (item_some y us q (no_mark y v.1) h) ∙ ap (λ vs. is_none (first vs)) (sym e)
      ∙ ap is_none (next_first (k.Keyword word.Begin) ts m3 i))
  one_block (single y) (begin p name x) ts us r q e w v h (g, (m2, (m3, i, j), c)) f f2 =
      apart (sym (item_some y ts r (no_mark y w.1) h) ∙ ap (λ vs. is_none (first vs)) e
      ∙ ap is_none (next_first (k.Keyword word.Begin) us m3 i))
