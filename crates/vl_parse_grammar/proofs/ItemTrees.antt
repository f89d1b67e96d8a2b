-- What the machine reads as an item is spelled by a well formed tree; an `else` goes to the nearest `if`.
use Rattle.std.proofs.Common.{◌≡◌, ℕ, zero, suc, true, List, [], ◌∷◌, Option, Some, None, refl, sym, ap, ◌∙◌, subst}
use Rattle.std.proofs.lemmas.List.Elements.{All-cons}
use Rattle.fv_text.specs.declared.keyword.Keyword.{Keyword}
use Rattle.fv_text.specs.declared.keyword.Keyword.TheVariants as word
use Rattle.fv_text.specs.declared.kind.Kind.{Kind}
use Rattle.fv_text.specs.declared.kind.Kind.TheVariants as k
use Rattle.fv_text.specs.declared.symbol.Symbol.TheVariants as s
use Rattle.vl_tree.specs.declared.attribute.AttributeInstance.{AttributeInstance}
use Rattle.vl_tree.specs.declared.declaration.NetKind.{NetKind}
use Rattle.vl_tree.specs.declared.declaration.NetKind.TheVariants as n
use Rattle.vl_tree.specs.declared.declaration.ParameterKind.{ParameterKind}
use Rattle.vl_tree.specs.declared.declaration.ParameterKind.TheVariants as q
use Rattle.vl_tree.specs.declared.item.RegionMark.TheVariants as mark
use Rattle.vl_tree.specs.Attributes.{Attributes}
use Rattle.vl_tree.specs.DeclarationSpelling.{spell_attributes, spell_instance, spell_shape, spell_parameter}
use Rattle.vl_tree.specs.DeclarationSpelling.{net_word, parameter_word}
use Rattle.vl_tree.specs.DeclarationWellFormed.{AreAttributes, IsInstance, IsParameter}
use Rattle.vl_tree.specs.Expr.{Expr}
use Rattle.vl_tree.specs.ExprSpelling as expr
use Rattle.vl_tree.specs.ExprWellFormed as expr_well
use Rattle.vl_tree.specs.Item.{
  Item,
  Items,
  Block,
  declaration,
  integer,
  genvar,
  parameter,
  assign,
  always,
  initial,
  instance,
  generate,
  for_loop,
  if_only,
  if_else,
  no_items,
  more_items,
  begin,
  region,
  single,
}
use Rattle.vl_tree.specs.ItemSpelling.{spell, spell_all, spell_block, spell_head, spell_event_kind}
use Rattle.vl_tree.specs.StmtSpelling as stmt_spelling
use Rattle.vl_tree.specs.StmtSpelling.{spell_label}
use Rattle.vl_tree.specs.StmtWellFormed.{IsOptionalName}
use Rattle.vl_tree.specs.WellFormed.{attributes_of, mark_of, ends_open, block_ends_open, AreBalanced, IsWellFormed}
use Rattle.vl_tree.specs.WellFormed.{AreWellFormed, IsBlock}
use Rattle.vl_parse_grammar.specs.Grammar as g
use Rattle.vl_parse_grammar.specs.Grammar.{
  Rule,
  Moves,
  Ending,
  endmodule,
  endgenerate,
  end,
  sign,
  stmt,
  otherwise,
  item,
  items,
  generate_block,
  generate_block_label,
  generate_otherwise,
  on_item,
  on_item_word,
  on_bare_item,
}
use Rattle.vl_parse_grammar.proofs.Named.{Named, Derives, plain}
use Rattle.vl_parse_grammar.proofs.Onto.{onto}
use Rattle.vl_parse_grammar.proofs.Regions.{some_none, joined, joined_spelled, joined_formed, region_behind}
use Rattle.vl_parse_grammar.proofs.Regions.{unmarked_behind}
use Rattle.vl_parse_grammar.proofs.Steps.{apart}
use Rattle.vl_parse_grammar.proofs.Words.{ending_word}
use Rattle.vl_parse_grammar.proofs.ExprReads.{Leaves}
use Rattle.vl_parse_grammar.proofs.ItemReads.{NoElse}
use Rattle.vl_parse_grammar.proofs.Spine.{nowhere}
use Rattle.vl_parse_grammar.proofs.TokenTrees.{Moved, sign_tree, name_tree}
use Rattle.vl_parse_grammar.proofs.ExprTrees.{parens_tree}
use Rattle.vl_parse_grammar.proofs.DeclarationTrees.{Turn, Split, many_split, last_of, attributed_tree, FoundList}
use Rattle.vl_parse_grammar.proofs.DeclarationTrees.{shape_tree, declared_names_tree, names_tree, parameters_tree}
use Rattle.vl_parse_grammar.proofs.StmtTrees.{no_attributes, not_open, stmt_tree}
use Rattle.vl_parse_grammar.proofs.PartTrees.{initial_tree, assignments_tree, event_tree, overrides_tree, head_tree}

-- an item without attributes
pub record FoundBare (ts ks : List Kind) : Type 0 where
  pub tree : Item
  pub same : ts ≡ onto (spell tree) ks
  pub bare : attributes_of tree ≡ []
  pub unmarked : mark_of tree ≡ None
  pub formed : IsWellFormed tree
  pub closed : ends_open tree ≡ true → NoElse ks

pub record FoundItem (ts ks : List Kind) : Type 0 where
  pub tree : Item
  pub same : ts ≡ onto (spell tree) ks
  pub unmarked : mark_of tree ≡ None
  pub formed : IsWellFormed tree
  pub closed : ends_open tree ≡ true → NoElse ks

pub record FoundItems (ending : Ending) (ts ks : List Kind) : Type 0 where
  pub trees : Items
  pub same : ts ≡ onto (spell_all trees) (k.Keyword (ending_word ending) ∷ ks)
  pub balanced : AreBalanced trees
  pub formed : AreWellFormed trees

-- a region behind attributes
record FoundRegion (attrs : Attributes) (ts ks : List Kind) : Type 0 where
  trees : Items
  same : ts ≡ onto (spell_attributes attrs)
      (k.Keyword word.Generate ∷ onto (spell_all trees) (k.Keyword word.Endgenerate ∷ ks))
  balanced : AreBalanced trees
  formed : AreWellFormed trees

-- what the grammar has as one item, without attributes
data FoundOne (ts ks : List Kind) : Type 0 where
  an_item : FoundBare ts ks → FoundOne ts ks
  a_region : FoundRegion [] ts ks → FoundOne ts ks

data FoundNext (ts ks : List Kind) : Type 0 where
  an_item : FoundItem ts ks → FoundNext ts ks
  a_region : (attrs : Attributes) → AreAttributes attrs → FoundRegion attrs ts ks → FoundNext ts ks

record FoundBlock (ts ks : List Kind) : Type 0 where
  tree : Block
  same : ts ≡ onto (spell_block tree) ks
  formed : IsBlock tree
  closed : block_ends_open tree ≡ true → NoElse ks

record FoundNamed (ts ks : List Kind) : Type 0 where
  name : Option (List ℕ)
  trees : Items
  same : ts ≡ onto (spell_label name) (onto (spell_all trees) (k.Keyword word.End ∷ ks))
  named : IsOptionalName name
  balanced : AreBalanced trees
  formed : AreWellFormed trees

data Otherwise (ts ks : List Kind) : Type 0 where
  no_else : ts ≡ ks → NoElse ks → Otherwise ts ks
  an_else : (b : Block) → ts ≡ k.Keyword word.Else ∷ onto (spell_block b) ks → IsBlock b
      → (block_ends_open b ≡ true → NoElse ks)
      → Otherwise ts ks

abbrev ItemAt : ℕ → Type 0
ItemAt d = (ts rest : List Named) → Derives d item ts rest → FoundNext (plain ts) (plain rest)

abbrev ItemsAt : ℕ → Type 0
ItemsAt d = (ending : Ending) (ts rest : List Named) → Derives d (items ending) ts rest
    → FoundItems ending (plain ts) (plain rest)

abbrev BlockAt : ℕ → Type 0
BlockAt d = (ts rest : List Named) → Derives d generate_block ts rest → FoundBlock (plain ts) (plain rest)

abbrev LabelAt : ℕ → Type 0
LabelAt d = (ts rest : List Named) → Derives d generate_block_label ts rest → FoundNamed (plain ts) (plain rest)

abbrev OtherwiseAt : ℕ → Type 0
OtherwiseAt d = (ts rest : List Named) → Derives d generate_otherwise ts rest → Otherwise (plain ts) (plain rest)

-- attributes before an item
abbrev with_instance : AttributeInstance → Item → Item
with_instance i (declaration attrs p d) = declaration (i ∷ attrs) p d
with_instance i (integer attrs p xs) = integer (i ∷ attrs) p xs
with_instance i (genvar attrs p xs) = genvar (i ∷ attrs) p xs
with_instance i (parameter attrs p kind xs) = parameter (i ∷ attrs) p kind xs
with_instance i (assign attrs p xs) = assign (i ∷ attrs) p xs
with_instance i (always attrs p e x) = always (i ∷ attrs) p e x
with_instance i (initial attrs p x) = initial (i ∷ attrs) p x
with_instance i (instance attrs p x) = instance (i ∷ attrs) p x
with_instance i (generate attrs p m) = generate (i ∷ attrs) p m
with_instance i (for_loop attrs p head b) = for_loop (i ∷ attrs) p head b
with_instance i (if_only attrs p x b) = if_only (i ∷ attrs) p x b
with_instance i (if_else attrs p x b d) = if_else (i ∷ attrs) p x b d

instance_spelled : (i : AttributeInstance) (x : Item) (ks : List Kind)
    → onto (spell_instance i) (onto (spell x) ks) ≡ onto (spell (with_instance i x)) ks
instance_spelled i (declaration attrs p d) ks = refl
instance_spelled i (integer attrs p xs) ks = refl
instance_spelled i (genvar attrs p xs) ks = refl
instance_spelled i (parameter attrs p kind xs) ks = refl
instance_spelled i (assign attrs p xs) ks = refl
instance_spelled i (always attrs p e x) ks = refl
instance_spelled i (initial attrs p x) ks = refl
instance_spelled i (instance attrs p x) ks = refl
instance_spelled i (generate attrs p m) ks = refl
instance_spelled i (for_loop attrs p head b) ks = refl
instance_spelled i (if_only attrs p x b) ks = refl
instance_spelled i (if_else attrs p x b d) ks = refl

instance_formed : (i : AttributeInstance) (x : Item) → mark_of x ≡ None → IsInstance i → IsWellFormed x
    → IsWellFormed (with_instance i x)
instance_formed i (declaration attrs p d) n h w = (All-cons IsInstance i attrs h w.0, w.1)
instance_formed i (integer attrs p xs) n h w = (All-cons IsInstance i attrs h w.0, w.1)
instance_formed i (genvar attrs p xs) n h w = (All-cons IsInstance i attrs h w.0, w.1)
instance_formed i (parameter attrs p kind xs) n h w = (All-cons IsInstance i attrs h w.0, w.1)
instance_formed i (assign attrs p xs) n h w = (All-cons IsInstance i attrs h w.0, w.1)
instance_formed i (always attrs p e x) n h w = (All-cons IsInstance i attrs h w.0, w.1, w.2)
instance_formed i (initial attrs p x) n h w = (All-cons IsInstance i attrs h w.0, w.1, w.2)
instance_formed i (instance attrs p x) n h w = (All-cons IsInstance i attrs h w.0, w.1)
instance_formed i (generate attrs p m) n h w = some_none m n
instance_formed i (for_loop attrs p head b) n h w = (All-cons IsInstance i attrs h w.0, w.1, w.2)
instance_formed i (if_only attrs p x b) n h w = (All-cons IsInstance i attrs h w.0, w.1, w.2)
instance_formed i (if_else attrs p x b d) n h w = (All-cons IsInstance i attrs h w.0, w.1, w.2, w.3, w.4)

instance_open : (i : AttributeInstance) (x : Item) → ends_open (with_instance i x) ≡ ends_open x
instance_open i (declaration attrs p d) = refl
instance_open i (integer attrs p xs) = refl
instance_open i (genvar attrs p xs) = refl
instance_open i (parameter attrs p kind xs) = refl
instance_open i (assign attrs p xs) = refl
instance_open i (always attrs p e x) = refl
instance_open i (initial attrs p x) = refl
instance_open i (instance attrs p x) = refl
instance_open i (generate attrs p m) = refl
instance_open i (for_loop attrs p head b) = refl
instance_open i (if_only attrs p x b) = refl
instance_open i (if_else attrs p x b d) = refl

instance_mark : (i : AttributeInstance) (x : Item) → mark_of (with_instance i x) ≡ mark_of x
instance_mark i (generate attrs p m) = refl
instance_mark i x = refl

-- both rules for `else` are left out at the same tokens
both_leave : (ks : List Kind) → Leaves otherwise ks → NoElse ks
both_leave [] h = (refl, refl)
both_leave (k.Keyword word.Else ∷ ks) h = apart h
both_leave (k.Keyword y ∷ ks) h = (refl, refl)
both_leave (t ∷ ks) h = (refl, refl)

declared_by : (d : ℕ) (kind : NetKind) (ts rest : List Named)
    → Turn d (g.shape ∷ g.declared_name ∷ g.declared_names ∷ []) ts rest
    → FoundBare (k.Keyword (net_word kind) ∷ plain ts) (plain rest)
declared_by d kind ts rest (m, h, others) =
    let x = shape_tree d ts m h in
    let xs = declared_names_tree d m rest others in
    record {
      tree = declaration [] nowhere (record { net = kind; shape = x.tree; names = xs.trees });
      same = ap (λ u. k.Keyword (net_word kind) ∷ u) (x.same ∙ ap (onto (spell_shape x.tree)) xs.same);
      bare = refl;
      unmarked = refl;
      formed = (no_attributes, (x.formed, xs.formed));
      closed = λ r. apart r;
    }

parameter_by : (d : ℕ) (kind : ParameterKind) (ts rest : List Named)
    → FoundList spell_parameter IsParameter (k.Symbol s.Semicolon) (plain ts) (plain rest)
    → FoundBare (k.Keyword (parameter_word kind) ∷ plain ts) (plain rest)
parameter_by d kind ts rest xs = record {
  tree = parameter [] nowhere kind xs.trees;
  same = ap (λ u. k.Keyword (parameter_word kind) ∷ u) xs.same;
  bare = refl;
  unmarked = refl;
  formed = (no_attributes, xs.formed);
  closed = λ r. apart r;
}

-- an `if`, where what is behind its block is known
if_by : (ts m m2 ks : List Kind) (x : Expr) (b : Block)
    → ts ≡ k.Symbol s.OpenParen ∷ onto (expr.spell x) (k.Symbol s.CloseParen ∷ m)
    → expr_well.IsWellFormed x → m ≡ onto (spell_block b) m2 → IsBlock b → (block_ends_open b ≡ true → NoElse m2)
    → Otherwise m2 ks → FoundBare (k.Keyword word.If ∷ ts) ks
if_by ts m m2 ks x b e w f v o (no_else i n) = record {
  tree = if_only [] nowhere x b;
  same = ap (λ u. k.Keyword word.If ∷ u) (e
      ∙ ap (λ u. k.Symbol s.OpenParen ∷ onto (expr.spell x) (k.Symbol s.CloseParen ∷ u))
      (f ∙ ap (onto (spell_block b)) i));
  bare = refl;
  unmarked = refl;
  formed = (no_attributes, w, v);
  closed = λ r. n;
}
if_by ts m m2 ks x b e w f v o (an_else z i u n) = record {
  tree = if_else [] nowhere x b z;
  same = ap (λ u. k.Keyword word.If ∷ u) (e
      ∙ ap (λ u. k.Symbol s.OpenParen ∷ onto (expr.spell x) (k.Symbol s.CloseParen ∷ u))
      (f ∙ ap (onto (spell_block b)) i));
  bare = refl;
  unmarked = refl;
  formed = (no_attributes, w, not_open (block_ends_open b) (λ r. subst (λ us. Leaves otherwise us) i (o r).0), v, u);
  closed = n;
}

word_by : (d : ℕ) → ItemsAt d → BlockAt d → OtherwiseAt d → (y : Keyword) (t : Named) (ts rest : List Named)
    → Moved d t ts rest (on_item_word y)
    → FoundOne (k.Keyword y ∷ plain ts) (plain rest)
word_by d all blocks others word.Wire t ts rest h = an_item (declared_by d n.Wire ts rest h)
word_by d all blocks others word.Reg t ts rest h = an_item (declared_by d n.Reg ts rest h)
word_by d all blocks others word.Integer t ts rest h =
    let xs = declared_names_tree d ts rest h in
    an_item (record {
      tree = integer [] nowhere xs.trees;
      same = ap (λ u. k.Keyword word.Integer ∷ u) xs.same;
      bare = refl;
      unmarked = refl;
      formed = (no_attributes, xs.formed);
      closed = λ r. apart r;
    })
word_by d all blocks others word.Genvar t ts rest h =
    let xs = names_tree d ts rest h in
    an_item (record {
      tree = genvar [] nowhere xs.trees;
      same = ap (λ u. k.Keyword word.Genvar ∷ u) xs.same;
      bare = refl;
      unmarked = refl;
      formed = (no_attributes, xs.formed);
      closed = λ r. apart r;
    })
word_by d all blocks others word.Parameter t ts rest h =
    an_item (parameter_by d q.Parameter ts rest (parameters_tree d ts rest h))
word_by d all blocks others word.Localparam t ts rest h =
    an_item (parameter_by d q.Localparam ts rest (parameters_tree d ts rest h))
word_by d all blocks others word.Assign t ts rest h =
    let xs = assignments_tree d ts rest h in
    an_item (record {
      tree = assign [] nowhere xs.trees;
      same = ap (λ u. k.Keyword word.Assign ∷ u) xs.same;
      bare = refl;
      unmarked = refl;
      formed = (no_attributes, xs.formed);
      closed = λ r. apart r;
    })
word_by d all blocks others word.Always t ts rest (m, h, (m2, i, (m3, j, l))) =
    let e = event_tree d m m2 i in
    let x = stmt_tree d m2 m3 j in
    an_item (record {
      tree = always [] nowhere (record { pos = nowhere; kind = e.kind }) x.tree;
      same = ap (λ u. k.Keyword word.Always ∷ u) (sign_tree d s.At ts m h ∙ ap (λ u. k.Symbol s.At ∷ u)
          (e.same ∙ ap (onto (spell_event_kind e.kind))
          (x.same ∙ ap (λ r. onto (stmt_spelling.spell x.tree) (plain r)) l)));
      bare = refl;
      unmarked = refl;
      formed = (no_attributes, e.formed, x.formed);
      closed = λ r. subst (λ us. NoElse (plain us)) l (both_leave (plain m3) (x.closed r));
    })
word_by d all blocks others word.Initial t ts rest (m, h, j) =
    let x = initial_tree d ts m h in
    an_item (record {
      tree = initial [] nowhere x.tree;
      same = ap (λ u. k.Keyword word.Initial ∷ u) (x.same ∙ ap (λ r. onto (stmt_spelling.spell x.tree) (plain r)) j);
      bare = refl;
      unmarked = refl;
      formed = (no_attributes, x.initial, x.formed);
      closed = λ r. apart r;
    })
word_by d all blocks others word.Generate t ts rest (m, h, j) =
    let xs = all endgenerate ts m h in
    a_region (record {
      trees = xs.trees;
      same = ap (λ u. k.Keyword word.Generate ∷ u)
          (xs.same ∙ ap (λ r. onto (spell_all xs.trees) (k.Keyword word.Endgenerate ∷ plain r)) j);
      balanced = xs.balanced;
      formed = xs.formed;
    })
word_by d all blocks others word.For t ts rest (m, h, (m2, i, j)) =
    let x = head_tree d ts m h in
    let b = blocks m m2 i in
    an_item (record {
      tree = for_loop [] nowhere x.tree b.tree;
      same = ap (λ u. k.Keyword word.For ∷ u) (x.same
          ∙ ap (onto (spell_head x.tree)) (b.same ∙ ap (λ r. onto (spell_block b.tree) (plain r)) j));
      bare = refl;
      unmarked = refl;
      formed = (no_attributes, x.formed, b.formed);
      closed = λ r. subst (λ us. NoElse (plain us)) j (b.closed r);
    })
word_by d all blocks others word.If t ts rest (m, h, (m2, i, (m3, j, l))) =
    let x = parens_tree d ts m h in
    let b = blocks m m2 i in
    an_item (subst (λ r. FoundBare (k.Keyword word.If ∷ plain ts) (plain r)) l
    (if_by (plain ts) (plain m) (plain m2) (plain m3) x.tree b.tree x.same x.formed b.same b.formed b.closed
    (others m2 m3 j)))
word_by d all blocks others y t ts rest h = absurd h

bare_by : (d : ℕ) → ItemsAt d → BlockAt d → OtherwiseAt d → (t : Named) (ts rest : List Named)
    → Moved d t ts rest (on_bare_item t.0)
    → FoundOne (plain (t ∷ ts)) (plain rest)
bare_by d all blocks others (k.Keyword y, w) ts rest h = word_by d all blocks others y (k.Keyword y, w) ts rest h
bare_by d all blocks others (k.Name text, w) ts rest (m, h, j) =
    let x = overrides_tree d ts m h in
    an_item (subst (λ r. FoundBare (k.Name text ∷ plain ts) (plain r)) j
    (record {
      tree = instance [] nowhere (record {
        definition = text;
        overrides = x.overrides;
        name = x.name;
        connections = x.connections;
      });
      same = ap (λ u. k.Name text ∷ u) x.same;
      bare = refl;
      unmarked = refl;
      formed = (no_attributes, (w, x.formed.0, x.formed.1, x.formed.2));
      closed = λ r. apart r;
    }))
bare_by d all blocks others t ts rest h = absurd h

as_item : (ts ks : List Kind) → FoundOne ts ks → FoundNext ts ks
as_item ts ks (an_item x) =
    an_item (record { tree = x.tree; same = x.same; unmarked = x.unmarked; formed = x.formed; closed = x.closed })
as_item ts ks (a_region x) = a_region [] no_attributes x

-- attributes before what the grammar has as one item
attributed_by : (i : AttributeInstance) (ts us ks : List Kind) → ts ≡ onto (spell_instance i) us → IsInstance i
    → FoundNext us ks → FoundNext ts ks
attributed_by i ts us ks e h (an_item x) = an_item (record {
  tree = with_instance i x.tree;
  same = e ∙ ap (onto (spell_instance i)) x.same ∙ instance_spelled i x.tree ks;
  unmarked = instance_mark i x.tree ∙ x.unmarked;
  formed = instance_formed i x.tree x.unmarked h x.formed;
  closed = λ r. x.closed (sym (instance_open i x.tree) ∙ r);
})
attributed_by i ts us ks e h (a_region attrs w x) = a_region (i ∷ attrs) (All-cons IsInstance i attrs h w) (record {
  trees = x.trees;
  same = e ∙ ap (onto (spell_instance i)) x.same;
  balanced = x.balanced;
  formed = x.formed;
})

item_by : (d : ℕ) → ItemAt d → ItemsAt d → BlockAt d → OtherwiseAt d → ItemAt (suc d)
item_by d one all blocks others ((k.Symbol s.OpenAttribute, w) ∷ ts) rest h =
    let i = attributed_tree d item ts rest h in
    attributed_by i.instance (plain ((k.Symbol s.OpenAttribute, w) ∷ ts)) (plain i.middle)
    (plain rest) i.same i.formed (one i.middle rest i.others)
item_by d one all blocks others [] rest h = apart h.0
item_by d one all blocks others ((k.Symbol y, w) ∷ ts) rest h = absurd h
item_by d one all blocks others (t ∷ ts) rest h =
    as_item (plain (t ∷ ts)) (plain rest) (bare_by d all blocks others t ts rest h)

-- an item, or a region as two marks with its items between, before the others of a list
before_items : (ending : Ending) (ts us ks : List Kind) → FoundNext ts us → FoundItems ending us ks
    → FoundItems ending ts ks
before_items ending ts us ks (an_item x) xs = record {
  trees = more_items x.tree xs.trees;
  same = x.same ∙ ap (onto (spell x.tree)) xs.same;
  balanced = unmarked_behind x.tree xs.trees (Some 0) x.unmarked ∙ xs.balanced;
  formed = (x.formed, xs.formed);
}
before_items ending ts us ks (a_region attrs w x) xs =
    let behind = more_items (generate [] nowhere mark.Close) xs.trees in
    record {
      trees = more_items (generate attrs nowhere mark.Open) (joined x.trees behind);
      same = x.same ∙ ap (λ u. onto (spell_attributes attrs) (k.Keyword word.Generate ∷ u))
          (ap (λ u. onto (spell_all x.trees) (k.Keyword word.Endgenerate ∷ u)) xs.same
          ∙ sym (joined_spelled x.trees behind (k.Keyword (ending_word ending) ∷ ks)));
      balanced = region_behind x.trees behind x.balanced ∙ xs.balanced;
      formed = ((w, tt), joined_formed x.trees behind x.formed ((no_attributes, refl), xs.formed));
    }

one_more : (d : ℕ) → ItemAt (suc d) → ItemsAt d → (ending : Ending) (t : Named) (ts rest : List Named)
    → Split d (items ending) t ts rest (on_item t.0)
    → FoundItems ending (plain (t ∷ ts)) (plain rest)
one_more d one all ending t ts rest f =
    before_items ending (plain (t ∷ ts)) (plain f.middle) (plain rest) (one (t ∷ ts) f.middle f.first)
    (all ending f.middle rest f.others)

at_ending : (ending : Ending) (ts rest : List Named) → ts ≡ rest
    → FoundItems ending (k.Keyword (ending_word ending) ∷ plain ts) (plain rest)
at_ending ending ts rest h = record {
  trees = no_items;
  same = ap (λ r. k.Keyword (ending_word ending) ∷ plain r) h;
  balanced = refl;
  formed = tt;
}

items_by : (d : ℕ) → ItemAt (suc d) → ItemsAt d → ItemsAt (suc d)
items_by d one all endmodule ((k.Keyword word.Endmodule, w) ∷ ts) rest h = at_ending endmodule ts rest h
items_by d one all endgenerate ((k.Keyword word.Endgenerate, w) ∷ ts) rest h = at_ending endgenerate ts rest h
items_by d one all end ((k.Keyword word.End, w) ∷ ts) rest h = at_ending end ts rest h
items_by d one all ending [] rest h = apart h.0
items_by d one all ending ((k.Keyword y, w) ∷ ts) rest h =
    one_more d one all ending (k.Keyword y, w) ts rest
    (many_split d (items ending) (k.Keyword y, w) ts rest (on_item (k.Keyword y)) h)
items_by d one all ending (t ∷ ts) rest h =
    one_more d one all ending t ts rest (many_split d (items ending) t ts rest (on_item t.0) h)

unnamed : (ts ks : List Kind) → FoundItems end ts ks → FoundNamed ts ks
unnamed ts ks b =
    record { name = None; trees = b.trees; same = b.same; named = tt; balanced = b.balanced; formed = b.formed }

label_by : (d : ℕ) → ItemsAt d → ItemsAt (suc d) → LabelAt (suc d)
label_by d all same_level ((k.Symbol s.Colon, w) ∷ ts) rest (m, h, others) =
    let x = name_tree d ts m h in
    let xs = all end m rest (last_of d (items end) m rest others) in
    record {
      name = Some x.text;
      trees = xs.trees;
      same = ap (λ u. k.Symbol s.Colon ∷ u) (x.same ∙ ap (λ u. k.Name x.text ∷ u) xs.same);
      named = x.fine;
      balanced = xs.balanced;
      formed = xs.formed;
    }
label_by d all same_level [] rest h = apart h.0
label_by d all same_level ((k.Symbol y, w) ∷ ts) rest h =
    unnamed (plain ((k.Symbol y, w) ∷ ts)) (plain rest) (same_level end ((k.Symbol y, w) ∷ ts) rest h)
label_by d all same_level (t ∷ ts) rest h = unnamed (plain (t ∷ ts)) (plain rest) (same_level end (t ∷ ts) rest h)

as_block : (ts ks : List Kind) → FoundOne ts ks → FoundBlock ts ks
as_block ts ks (an_item x) =
    record { tree = single x.tree; same = x.same; formed = (x.bare, x.unmarked, x.formed); closed = x.closed }
as_block ts ks (a_region x) =
    record { tree = region nowhere x.trees; same = x.same; formed = (x.balanced, x.formed); closed = λ r. apart r }

block_by : (d : ℕ) → ItemsAt d → BlockAt d → OtherwiseAt d → LabelAt d → BlockAt (suc d)
block_by d all blocks others labelled ((k.Keyword word.Begin, w) ∷ ts) rest (m, h, j) =
    let b = labelled ts m h in
    record {
      tree = begin nowhere b.name b.trees;
      same = ap (λ u. k.Keyword word.Begin ∷ u)
          (b.same ∙ ap (λ r. onto (spell_label b.name) (onto (spell_all b.trees) (k.Keyword word.End ∷ plain r))) j);
      formed = (b.named, b.balanced, b.formed);
      closed = λ r. apart r;
    }
block_by d all blocks others labelled [] rest h = apart h.0
block_by d all blocks others labelled ((k.Keyword y, w) ∷ ts) rest h =
    as_block (plain ((k.Keyword y, w) ∷ ts)) (plain rest) (bare_by d all blocks others (k.Keyword y, w) ts rest h)
block_by d all blocks others labelled (t ∷ ts) rest h =
    as_block (plain (t ∷ ts)) (plain rest) (bare_by d all blocks others t ts rest h)

otherwise_by : (d : ℕ) → BlockAt d → OtherwiseAt (suc d)
otherwise_by d one ((k.Keyword word.Else, w) ∷ ts) rest (m, h, j) =
    let b = one ts m h in
    an_else b.tree (ap (λ u. k.Keyword word.Else ∷ u)
    (b.same ∙ ap (λ r. onto (spell_block b.tree) (plain r)) j)) b.formed
    (λ r. subst (λ us. NoElse (plain us)) j (b.closed r))
otherwise_by d one [] rest h = no_else (ap plain (sym h.1)) (subst (λ us. NoElse (plain us)) (sym h.1) (refl, refl))
otherwise_by d one ((k.Keyword y, w) ∷ ts) rest h =
    no_else (ap plain (sym h)) (subst (λ us. NoElse (plain us)) (sym h) (refl, refl))
otherwise_by d one (t ∷ ts) rest h = no_else (ap plain (sym h)) (subst (λ us. NoElse (plain us)) (sym h) (refl, refl))

mutual
  item_tree : (d : ℕ) → ItemAt d
  item_tree zero ts rest h = absurd h
  item_tree (suc d) ts rest h = item_by d (item_tree d) (items_tree d) (block_tree d) (otherwise_tree d) ts rest h

  pub items_tree : (d : ℕ) → ItemsAt d
  items_tree zero ending ts rest h = absurd h
  items_tree (suc d) ending ts rest h =
      items_by d (item_by d (item_tree d) (items_tree d) (block_tree d) (otherwise_tree d))
      (items_tree d) ending ts rest h

  block_tree : (d : ℕ) → BlockAt d
  block_tree zero ts rest h = absurd h
  block_tree (suc d) ts rest h = block_by d (items_tree d) (block_tree d) (otherwise_tree d) (label_tree d) ts rest h

  label_tree : (d : ℕ) → LabelAt d
  label_tree zero ts rest h = absurd h
  label_tree (suc d) ts rest h =
      label_by d (items_tree d)
      (items_by d (item_by d (item_tree d) (items_tree d) (block_tree d) (otherwise_tree d)) (items_tree d)) ts rest h

  otherwise_tree : (d : ℕ) → OtherwiseAt d
  otherwise_tree zero ts rest h = absurd h
  otherwise_tree (suc d) ts rest h = otherwise_by d (block_tree d) ts rest h
