-- Runs over well formed targets, attributes, declarations and ports are cut off where a construct too many opens.
use Rattle.std.proofs.Common.{◌≡◌, ℕ, Bool, true, false, List, [], ◌∷◌, Option, Some, None, refl, sym, ap, ◌∙◌, arith}
use Rattle.std.specs.Prelude.{All}
use Rattle.std.proofs.lemmas.List.Elements.{All-head, All-tail}
use Rattle.fv_text.specs.declared.keyword.Keyword.TheVariants as word
use Rattle.fv_text.specs.declared.kind.Kind.{Kind}
use Rattle.fv_text.specs.declared.kind.Kind.TheVariants as k
use Rattle.fv_text.specs.declared.symbol.Symbol.TheVariants as s
use Rattle.vl_tree.specs.declared.attribute.Attribute.{Attribute}
use Rattle.vl_tree.specs.declared.declaration.Range.{Range}
use Rattle.vl_tree.specs.declared.declaration.Shape.{Shape}
use Rattle.vl_tree.specs.declared.declaration.NetKind.{NetKind}
use Rattle.vl_tree.specs.declared.declaration.NetKind.TheVariants as net_kind
use Rattle.vl_tree.specs.declared.declaration.Direction.{Direction}
use Rattle.vl_tree.specs.declared.declaration.Direction.TheVariants as d
use Rattle.vl_tree.specs.declared.declaration.DeclaredName.{DeclaredName}
use Rattle.vl_tree.specs.declared.declaration.Parameter.{Parameter}
use Rattle.vl_tree.specs.declared.declaration.HeaderParameter.{HeaderParameter}
use Rattle.vl_tree.specs.declared.declaration.Port.{Port}
use Rattle.vl_tree.specs.declared.declaration.PortKind.{PortKind}
use Rattle.vl_tree.specs.declared.declaration.PortKind.TheVariants as p
use Rattle.vl_tree.specs.declared.declaration.FullPort.{FullPort}
use Rattle.fv_text.specs.declared.pos.Pos.{Pos}
use Rattle.vl_tree.specs.Attributes.{Attributes}
use Rattle.vl_tree.specs.Expr.{Expr}
use Rattle.vl_tree.specs.ExprSpelling as expr
use Rattle.vl_tree.specs.ExprSpelling.{spell_value}
use Rattle.vl_tree.specs.ExprWellFormed as well
use Rattle.vl_tree.specs.Lval.{Lval, Lvals, named, joined, no_lvals, more_lvals}
use Rattle.vl_tree.specs.LvalSpelling as lval
use Rattle.vl_tree.specs.LvalWellFormed as target_well
use Rattle.vl_tree.specs.Phrase.{Phrase, nothing, token, ◌▸◌, at, level, within, between_commas, with_commas, each}
use Rattle.vl_tree.specs.Phrase.{square}
use Rattle.vl_tree.specs.Phrase as phrase
use Rattle.vl_tree.specs.DeclarationSpelling.{spell_attribute, spell_attributes, spell_optional_range, spell_if}
use Rattle.vl_tree.specs.DeclarationSpelling.{spell_shape, spell_net, direction_word, spell_declared_name}
use Rattle.vl_tree.specs.DeclarationSpelling.{spell_parameter, spell_header_parameter, spell_full_port}
use Rattle.vl_tree.specs.DeclarationSpelling.{spell_port_kind, spell_port}
use Rattle.vl_tree.specs.DeclarationWellFormed.{
  AreSome,
  IsAttribute,
  IsInstance,
  AreAttributes,
  IsOptionalRange,
  IsShape,
  IsDeclaredName,
  IsParameter,
  IsHeaderParameter,
  IsPortKind,
  IsPort,
  IsFull,
}
use Rattle.vl_parse_grammar.specs.Grammar as g
use Rattle.vl_parse_grammar.specs.Grammar.{
  Rule,
  plain,
  more,
  selects,
  value,
  target,
  targets,
  attributes,
  name,
  sign,
  range,
  shape,
  declared_name,
  optional_parameter,
  parameter,
  port,
  full_port,
  first_port,
  more_ports,
  net,
  accepts,
  expand,
  ends,
  attributed,
}
use Rattle.vl_parse_grammar.proofs.Onto.{onto}
use Rattle.vl_tree.specs.DeclarationWellFormed as well_declared
use Rattle.vl_parse_grammar.specs.Machine.{Row, fits, left}
use Rattle.vl_parse_grammar.proofs.ExprReads.{Leaves}
use Rattle.vl_parse_grammar.proofs.DeclarationReads.{Behind, behind_target, range_behind, no_keyword, no_net}
use Rattle.vl_parse_grammar.proofs.Measured.{Ran, run, open_after, measured, opened_run, took_run, leaves_run, shifted}
use Rattle.vl_parse_grammar.proofs.ExprRuns.{selects_closed, selects_run, whole_run, value_run}

-- behind a phrase that leaves nothing open
pub behind : (a b : Phrase) (room : ℕ) (rest : List Kind) (out : Ran) → open_after a 0 ≡ 0
    → measured a room 0 (onto b rest) (measured b room 0 rest out) ≡ measured (a ▸ b) room 0 rest out
behind a b room rest out h = ap (λ m. measured a room 0 (onto b rest) (measured b room m rest out)) (sym h)

-- lists with commas, whose tail rule takes the comma or what closes the list
module _ {A : Type 0} (one : A → Phrase) (Good : A → Type 0) (tail : Rule)
    (element closing : ℕ → Row Rule → Row Rule) (close : Kind)
    (at_comma : (room : ℕ) (xs : Row Rule) (ts : List Kind)
    → run ((tail, room) ∷ xs) (k.Symbol s.Comma ∷ ts) ≡ run (element room ((tail, room) ∷ xs)) ts)
    (at_close : (room : ℕ) (xs : Row Rule) (ts : List Kind)
    → run ((tail, room) ∷ xs) (close ∷ ts) ≡ run (closing room xs) ts)
    (ended : (ts : List Kind) → Behind (close ∷ ts))
    (closed : (x : A) (n : ℕ) → open_after (one x) n ≡ n)
    (element_run : (x : A) (room : ℕ) (xs : Row Rule) (ts : List Kind) → Good x → Behind ts
    → run (element room xs) (onto (one x) ts) ≡ measured (one x) room 0 ts (run xs ts)) where
  behind_one : (vs : List A) (ts : List Kind) → Behind (onto (with_commas one vs) (close ∷ ts))
  behind_one [] ts = ended ts
  behind_one (x ∷ vs) ts = (refl, refl, refl, refl)

  pub commas_closed : (vs : List A) (n : ℕ) → open_after (with_commas one vs) n ≡ n
  commas_closed [] n = refl
  commas_closed (x ∷ vs) n = ap (open_after (with_commas one vs)) (closed x n) ∙ commas_closed vs n

  pub tail_run : (vs : List A) (room : ℕ) (xs : Row Rule) (ts : List Kind) → All Good vs
      → run ((tail, room) ∷ xs) (onto (with_commas one vs) (close ∷ ts))
      ≡ measured (with_commas one vs) room 0 (close ∷ ts) (run (closing room xs) ts)
  tail_run [] room xs ts w = at_close room xs ts
  tail_run (x ∷ vs) room xs ts w =
      at_comma room xs (onto (one x) (onto (with_commas one vs) (close ∷ ts)))
      ∙ element_run x room ((tail, room) ∷ xs) (onto (with_commas one vs) (close ∷ ts)) (All-head Good x vs w)
      (behind_one vs ts)
      ∙ ap (measured (one x) room 0 (onto (with_commas one vs) (close ∷ ts)))
      (tail_run vs room xs ts (All-tail Good x vs w))
      ∙ behind (one x) (with_commas one vs) room (close ∷ ts) (run (closing room xs) ts) (closed x 0)

  pub list_run : (x : A) (vs : List A) (room : ℕ) (xs : Row Rule) (ts : List Kind) → All Good (x ∷ vs)
      → run (element room ((tail, room) ∷ xs)) (onto (between_commas one (x ∷ vs)) (close ∷ ts))
      ≡ measured (between_commas one (x ∷ vs)) room 0 (close ∷ ts) (run (closing room xs) ts)
  list_run x vs room xs ts w =
      element_run x room ((tail, room) ∷ xs) (onto (with_commas one vs) (close ∷ ts)) (All-head Good x vs w)
      (behind_one vs ts)
      ∙ ap (measured (one x) room 0 (onto (with_commas one vs) (close ∷ ts)))
      (tail_run vs room xs ts (All-tail Good x vs w))
      ∙ behind (one x) (with_commas one vs) room (close ∷ ts) (run (closing room xs) ts) (closed x 0)

-- targets
mutual
  pub target_closed : (l : Lval) (n : ℕ) → open_after (lval.spell l) n ≡ n
  target_closed (named p text ss) n = selects_closed ss n
  target_closed (joined p ls) n = refl

  pub targets_closed : (ls : Lvals) (n : ℕ) → open_after (lval.spell_more ls) n ≡ n
  targets_closed no_lvals n = refl
  targets_closed (more_lvals l ls) n = ap (open_after (lval.spell_more ls)) (target_closed l n) ∙ targets_closed ls n

mutual
  pub target_run : (l : Lval) (room : ℕ) (xs : Row Rule) (rest : List Kind) → target_well.IsWellFormed l
      → Leaves selects rest
      → run ((target, room) ∷ xs) (onto (lval.spell l) rest) ≡ measured (lval.spell l) room 0 rest (run xs rest)
  target_run (named p text ss) room xs rest w h =
      selects_run ss room xs rest w.1 ∙ ap (measured (expr.spell_selects ss) room 0 rest)
      (leaves_run selects room xs rest h)
  target_run (joined p no_lvals) room xs rest w h = absurd w.0
  target_run (joined p (more_lvals l ls)) room xs rest w h =
      opened_run 1 room ((target, left 1 room) ∷ (targets, left 1 room) ∷ xs)
      (onto (lval.spell l) (onto (lval.spell_more ls) (k.Symbol s.CloseBrace ∷ rest)))
      (measured (lval.spell_parts (more_lvals l ls)) room 1 (k.Symbol s.CloseBrace ∷ rest) (run xs rest))
      (λ e. target_run l (left 1 room) ((targets, left 1 room) ∷ xs)
      (onto (lval.spell_more ls) (k.Symbol s.CloseBrace ∷ rest)) w.1.0 (behind_target ls rest)
      ∙ ap (measured (lval.spell l) (left 1 room) 0 (onto (lval.spell_more ls) (k.Symbol s.CloseBrace ∷ rest)))
      (targets_run ls (left 1 room) xs rest w.1.1)
      ∙ behind (lval.spell l) (lval.spell_more ls) (left 1 room) (k.Symbol s.CloseBrace ∷ rest) (run xs rest)
      (target_closed l 0)
      ∙ shifted (lval.spell_parts (more_lvals l ls)) 1 room (k.Symbol s.CloseBrace ∷ rest) (run xs rest) e)

  pub targets_run : (ls : Lvals) (room : ℕ) (xs : Row Rule) (rest : List Kind) → target_well.AreWellFormed ls
      → run ((targets, room) ∷ xs) (onto (lval.spell_more ls) (k.Symbol s.CloseBrace ∷ rest))
      ≡ measured (lval.spell_more ls) room 0 (k.Symbol s.CloseBrace ∷ rest) (run xs rest)
  targets_run no_lvals room xs rest w = refl
  targets_run (more_lvals l ls) room xs rest w =
      target_run l room ((targets, room) ∷ xs) (onto (lval.spell_more ls) (k.Symbol s.CloseBrace ∷ rest)) w.0
      (behind_target ls rest)
      ∙ ap (measured (lval.spell l) room 0 (onto (lval.spell_more ls) (k.Symbol s.CloseBrace ∷ rest)))
      (targets_run ls room xs rest w.1)
      ∙ behind (lval.spell l) (lval.spell_more ls) room (k.Symbol s.CloseBrace ∷ rest) (run xs rest) (target_closed l 0)

-- attributes
value_closed : (v : Option Expr) (n : ℕ) → open_after (spell_value v) n ≡ n
value_closed None n = refl
value_closed (Some x) n = refl

attribute_run : (x : Attribute) (room : ℕ) (xs : Row Rule) (ts : List Kind) → IsAttribute x → Behind ts
    → run ((name, room) ∷ (value, room) ∷ xs) (onto (spell_attribute x) ts)
    ≡ measured (spell_attribute x) room 0 ts (run xs ts)
attribute_run x room xs ts w h = value_run x.value room xs ts w.1 (h.0, h.1) h.3

in_instance : (vs : List Attribute) (room : ℕ) (xs : Row Rule) (ts : List Kind) → AreSome IsAttribute vs
    → run ((name, room) ∷ (value, room) ∷ (attributes, room) ∷ xs)
    (onto (between_commas spell_attribute vs) (k.Symbol s.CloseAttribute ∷ ts))
    ≡ measured (between_commas spell_attribute vs) room 0 (k.Symbol s.CloseAttribute ∷ ts) (run xs ts)
in_instance [] room xs ts w = absurd (omega (arith, w.0))
in_instance (x ∷ vs) room xs ts w =
    list_run spell_attribute IsAttribute attributes (λ n ys. (name, n) ∷ (value, n) ∷ ys) (λ n ys. ys)
    (k.Symbol s.CloseAttribute)
    (λ n ys us. refl) (λ n ys us. refl) (λ us. (refl, refl, refl, refl))
    (λ y n. value_closed y.value n) attribute_run x vs room xs ts w.1

pub attributes_closed : (vs : Attributes) (n : ℕ) → open_after (spell_attributes vs) n ≡ n
attributes_closed [] n = refl
attributes_closed (i ∷ vs) n = attributes_closed vs n

attributes_run : (x : Rule) → expand x (k.Symbol s.OpenAttribute) ≡ attributed x
    → (vs : Attributes) (room : ℕ) (xs : Row Rule) (ts : List Kind)
    → AreAttributes vs
    → run ((x, room) ∷ xs) (onto (spell_attributes vs) ts)
    ≡ measured (spell_attributes vs) room 0 ts (run ((x, room) ∷ xs) ts)
attributes_run x e [] room xs ts w = refl
attributes_run x e (i ∷ vs) room xs ts w =
    took_run x room xs (k.Symbol s.OpenAttribute)
    (onto (between_commas spell_attribute i.attributes) (k.Symbol s.CloseAttribute ∷ onto (spell_attributes vs) ts))
    1 ((name, 1) ∷ (value, 1) ∷ (attributes, 1) ∷ (x, 0) ∷ [])
    (measured (between_commas spell_attribute i.attributes) room 1
    (k.Symbol s.CloseAttribute ∷ onto (spell_attributes vs) ts)
    (measured (spell_attributes vs) room 0 ts (run ((x, room) ∷ xs) ts))) e
    (λ f. in_instance i.attributes (left 1 room) ((x, room) ∷ xs) (onto (spell_attributes vs) ts)
    (All-head IsInstance i vs w)
    ∙ ap (measured (between_commas spell_attribute i.attributes) (left 1 room) 0
    (k.Symbol s.CloseAttribute ∷ onto (spell_attributes vs) ts))
    (attributes_run x e vs room xs ts (All-tail IsInstance i vs w))
    ∙ shifted (between_commas spell_attribute i.attributes) 1 room
    (k.Symbol s.CloseAttribute ∷ onto (spell_attributes vs) ts)
    (measured (spell_attributes vs) room 0 ts (run ((x, room) ∷ xs) ts)) f)

-- what is behind its attributes
pub attributed_run : (x : Rule) → expand x (k.Symbol s.OpenAttribute) ≡ attributed x
    → (vs : Attributes) (a : Phrase) (room : ℕ) (xs : Row Rule)
    (rest : List Kind) (out : Ran) → AreAttributes vs → run ((x, room) ∷ xs) (onto a rest) ≡ measured a room 0 rest out
    → run ((x, room) ∷ xs) (onto (spell_attributes vs ▸ a) rest) ≡ measured (spell_attributes vs ▸ a) room 0 rest out
attributed_run x e vs a room xs rest out w h =
    attributes_run x e vs room xs (onto a rest) w ∙ ap (measured (spell_attributes vs) room 0 (onto a rest)) h
    ∙ behind (spell_attributes vs) a room rest out (attributes_closed vs 0)

-- ranges and shapes
range_closed : (r : Option Range) (n : ℕ) → open_after (spell_optional_range r) n ≡ n
range_closed None n = refl
range_closed (Some r) n = refl

range_some : (r : Range) (room : ℕ) (xs : Row Rule) (rest : List Kind) → IsOptionalRange (Some r)
    → (f : fits 1 room ≡ true)
    → run ((g.expr, left 1 room) ∷ (sign s.Colon, left 1 room) ∷ (g.expr, left 1 room) ∷ (sign s.CloseBracket, room)
    ∷ xs)
    (onto (expr.spell r.left) (k.Symbol s.Colon ∷ onto (expr.spell r.right) (k.Symbol s.CloseBracket ∷ rest)))
    ≡ measured (level (expr.spell r.left) ▸ phrase.sign s.Colon ▸ expr.spell r.right) room 1
    (k.Symbol s.CloseBracket ∷ rest) (run xs rest)
range_some r room xs rest w f =
    whole_run r.left (left 1 room) ((sign s.Colon, left 1 room) ∷ (g.expr, left 1 room) ∷ (sign s.CloseBracket, room)
    ∷ xs)
    (k.Symbol s.Colon ∷ onto (expr.spell r.right) (k.Symbol s.CloseBracket ∷ rest)) w.0 (refl, refl)
    ∙ ap (measured (expr.spell r.left) (left 1 room) 0
    (k.Symbol s.Colon ∷ onto (expr.spell r.right) (k.Symbol s.CloseBracket ∷ rest)))
    (whole_run r.right (left 1 room) ((sign s.CloseBracket, room) ∷ xs) (k.Symbol s.CloseBracket ∷ rest) w.1
    (refl, refl))
    ∙ shifted (level (expr.spell r.left) ▸ phrase.sign s.Colon ▸ expr.spell r.right) 1 room
    (k.Symbol s.CloseBracket ∷ rest) (run xs rest) f

range_run : (r : Option Range) (room : ℕ) (xs : Row Rule) (rest : List Kind) → IsOptionalRange r → Leaves range rest
    → run ((range, room) ∷ xs) (onto (spell_optional_range r) rest)
    ≡ measured (spell_optional_range r) room 0 rest (run xs rest)
range_run None room xs rest w h = leaves_run range room xs rest h
range_run (Some r) room xs rest w h =
    opened_run 1 room ((g.expr, left 1 room) ∷ (sign s.Colon, left 1 room) ∷ (g.expr, left 1 room)
    ∷ (sign s.CloseBracket, room) ∷ xs)
    (onto (expr.spell r.left) (k.Symbol s.Colon ∷ onto (expr.spell r.right) (k.Symbol s.CloseBracket ∷ rest)))
    (measured (level (expr.spell r.left) ▸ phrase.sign s.Colon ▸ expr.spell r.right) room 1
    (k.Symbol s.CloseBracket ∷ rest) (run xs rest))
    (range_some r room xs rest w)

shape_by : (b : Bool) (r : Option Range) (text : List ℕ) (room : ℕ) (xs : Row Rule) (rest : List Kind)
    → IsOptionalRange r
    → run ((shape, room) ∷ xs) (onto (spell_if b word.Signed ▸ spell_optional_range r) (k.Name text ∷ rest))
    ≡ measured (spell_if b word.Signed ▸ spell_optional_range r) room 0 (k.Name text ∷ rest)
    (run xs (k.Name text ∷ rest))
shape_by true r text room xs rest w = range_run r room xs (k.Name text ∷ rest) w refl
shape_by false None text room xs rest w = refl
shape_by false (Some r) text room xs rest w =
    opened_run 1 room ((g.expr, left 1 room) ∷ (sign s.Colon, left 1 room) ∷ (g.expr, left 1 room)
    ∷ (sign s.CloseBracket, room) ∷ xs)
    (onto (expr.spell r.left) (k.Symbol s.Colon
    ∷ onto (expr.spell r.right) (k.Symbol s.CloseBracket ∷ k.Name text ∷ rest)))
    (measured (level (expr.spell r.left) ▸ phrase.sign s.Colon ▸ expr.spell r.right) room 1
    (k.Symbol s.CloseBracket ∷ k.Name text ∷ rest)
    (run xs (k.Name text ∷ rest)))
    (range_some r room xs (k.Name text ∷ rest) w)

shape_closed_by : (b : Bool) (r : Option Range) (n : ℕ)
    → open_after (spell_if b word.Signed ▸ spell_optional_range r) n ≡ n
shape_closed_by true r n = range_closed r n
shape_closed_by false r n = range_closed r n

pub shape_closed : (x : Shape) (n : ℕ) → open_after (spell_shape x) n ≡ n
shape_closed x n = shape_closed_by x.signed x.range n

pub shape_run : (x : Shape) (text : List ℕ) (room : ℕ) (xs : Row Rule) (rest : List Kind) → IsShape x
    → run ((shape, room) ∷ xs) (onto (spell_shape x) (k.Name text ∷ rest))
    ≡ measured (spell_shape x) room 0 (k.Name text ∷ rest) (run xs (k.Name text ∷ rest))
shape_run x text room xs rest w = shape_by x.signed x.range text room xs rest w

-- declared names
pub declared_closed : (x : DeclaredName) (n : ℕ) → open_after (spell_declared_name x) n ≡ n
declared_closed x n = ap (open_after (spell_value x.value)) (range_closed x.words n) ∙ value_closed x.value n

declared_run : (x : DeclaredName) (room : ℕ) (xs : Row Rule) (ts : List Kind) → IsDeclaredName x → Behind ts
    → run ((declared_name, room) ∷ xs) (onto (spell_declared_name x) ts)
    ≡ measured (spell_declared_name x) room 0 ts (run xs ts)
declared_run x room xs ts w h =
    range_run x.words room ((value, room) ∷ xs) (onto (spell_value x.value) ts) w.1 (range_behind x.value ts h.2)
    ∙ ap (measured (spell_optional_range x.words) room 0 (onto (spell_value x.value) ts))
    (value_run x.value room xs ts w.2 (h.0, h.1) h.3)
    ∙ behind (spell_optional_range x.words) (spell_value x.value) room ts (run xs ts) (range_closed x.words 0)

pub declared_names_run : (vs : List DeclaredName) (room : ℕ) (xs : Row Rule) (ts : List Kind)
    → AreSome IsDeclaredName vs
    → run ((declared_name, room) ∷ (g.declared_names, room) ∷ xs)
    (onto (between_commas spell_declared_name vs) (k.Symbol s.Semicolon ∷ ts))
    ≡ measured (between_commas spell_declared_name vs) room 0 (k.Symbol s.Semicolon ∷ ts) (run xs ts)
declared_names_run [] room xs ts w = absurd (omega (arith, w.0))
declared_names_run (x ∷ vs) room xs ts w =
    list_run spell_declared_name IsDeclaredName g.declared_names (λ n ys. (declared_name, n) ∷ ys) (λ n ys. ys)
    (k.Symbol s.Semicolon)
    (λ n ys us. refl) (λ n ys us. refl) (λ us.
    (refl, refl, refl, refl)) declared_closed declared_run x vs room xs ts w.1

-- parameters
abbrev pub parameter_row : ℕ → Row Rule → Row Rule
parameter_row n ys = (shape, n) ∷ (name, n) ∷ (sign s.Equal, n) ∷ (g.expr, n) ∷ ys

pub parameter_closed : (x : Parameter) (n : ℕ) → open_after (spell_parameter x) n ≡ n
parameter_closed x n = shape_closed x.shape n

pub parameter_run : (x : Parameter) (room : ℕ) (xs : Row Rule) (ts : List Kind) → IsParameter x → Behind ts
    → run (parameter_row room xs) (onto (spell_parameter x) ts) ≡ measured (spell_parameter x) room 0 ts (run xs ts)
parameter_run x room xs ts w h =
    shape_run x.shape x.name room ((name, room) ∷ (sign s.Equal, room) ∷ (g.expr, room) ∷ xs)
    (k.Symbol s.Equal ∷ onto (expr.spell x.value) ts) w.0
    ∙ ap (measured (spell_shape x.shape) room 0 (k.Name x.name ∷ k.Symbol s.Equal ∷ onto (expr.spell x.value) ts))
    (whole_run x.value room xs ts w.2 (h.0, h.1))
    ∙ behind (spell_shape x.shape) (token (k.Name x.name) ▸ phrase.sign s.Equal ▸ level (expr.spell x.value)) room ts
    (run xs ts) (shape_closed x.shape 0)

pub parameters_run : (vs : List Parameter) (room : ℕ) (xs : Row Rule) (ts : List Kind) → AreSome IsParameter vs
    → run (parameter_row room ((g.parameters, room) ∷ xs))
    (onto (between_commas spell_parameter vs) (k.Symbol s.Semicolon ∷ ts))
    ≡ measured (between_commas spell_parameter vs) room 0 (k.Symbol s.Semicolon ∷ ts) (run xs ts)
parameters_run [] room xs ts w = absurd (omega (arith, w.0))
parameters_run (x ∷ vs) room xs ts w =
    list_run spell_parameter IsParameter g.parameters parameter_row (λ n ys. ys) (k.Symbol s.Semicolon)
    (λ n ys us. refl) (λ n ys us. refl) (λ us.
    (refl, refl, refl, refl)) parameter_closed parameter_run x vs room xs ts w.1

abbrev pub header_row : ℕ → Row Rule → Row Rule
header_row n ys = (optional_parameter, n) ∷ parameter_row n ys

header_closed_by : (b : Bool) (x : Parameter) (n : ℕ) → open_after (spell_if b word.Parameter ▸ spell_parameter x) n ≡ n
header_closed_by true x n = parameter_closed x n
header_closed_by false x n = parameter_closed x n

pub header_closed : (x : HeaderParameter) (n : ℕ) → open_after (spell_header_parameter x) n ≡ n
header_closed x n = header_closed_by x.keyword x.parameter n

header_by : (b : Bool) (x : Parameter) (room : ℕ) (xs : Row Rule) (ts : List Kind) → IsParameter x → Behind ts
    → run (header_row room xs) (onto (spell_if b word.Parameter ▸ spell_parameter x) ts)
    ≡ measured (spell_if b word.Parameter ▸ spell_parameter x) room 0 ts (run xs ts)
header_by true x room xs ts w h = parameter_run x room xs ts w h
header_by false x room xs ts w h =
    leaves_run optional_parameter room (parameter_row room xs) (onto (spell_parameter x) ts)
    (no_keyword x.shape.signed x.shape.range x.name (k.Symbol s.Equal ∷ onto (expr.spell x.value) ts))
    ∙ parameter_run x room xs ts w h

pub header_run : (x : HeaderParameter) (room : ℕ) (xs : Row Rule) (ts : List Kind) → IsHeaderParameter x → Behind ts
    → run (header_row room xs) (onto (spell_header_parameter x) ts)
    ≡ measured (spell_header_parameter x) room 0 ts (run xs ts)
header_run x room xs ts w h = header_by x.keyword x.parameter room xs ts w h

-- ports
net_run : (o : Option NetKind) (room : ℕ) (xs : Row Rule) (rest : List Kind) → Leaves net rest
    → run ((net, room) ∷ xs) (onto (spell_net o) rest) ≡ measured (spell_net o) room 0 rest (run xs rest)
net_run None room xs rest h = leaves_run net room xs rest h
net_run (Some net_kind.Wire) room xs rest h = refl
net_run (Some net_kind.Reg) room xs rest h = refl

net_closed : (o : Option NetKind) (m : ℕ) → open_after (spell_net o) m ≡ m
net_closed None m = refl
net_closed (Some net_kind.Wire) m = refl
net_closed (Some net_kind.Reg) m = refl

abbrev behind_net : FullPort → Phrase
behind_net x = spell_shape x.shape ▸ token (k.Name x.name) ▸ spell_value x.value

behind_direction : (x : FullPort) (room : ℕ) (xs : Row Rule) (ts : List Kind) → IsShape x.shape
    → well.IsValue x.value → Behind ts
    → run ((net, room) ∷ (shape, room) ∷ (name, room) ∷ (value, room) ∷ xs) (onto (spell_net x.net ▸ behind_net x) ts)
    ≡ measured (spell_net x.net ▸ behind_net x) room 0 ts (run xs ts)
behind_direction x room xs ts w v h =
    net_run x.net room ((shape, room) ∷ (name, room) ∷ (value, room) ∷ xs) (onto (behind_net x) ts)
    (no_net x.shape.signed x.shape.range x.name (onto (spell_value x.value) ts))
    ∙ ap (measured (spell_net x.net) room 0 (onto (behind_net x) ts))
    (shape_run x.shape x.name room ((name, room) ∷ (value, room) ∷ xs) (onto (spell_value x.value) ts) w
    ∙ ap (measured (spell_shape x.shape) room 0 (k.Name x.name ∷ onto (spell_value x.value) ts))
    (value_run x.value room xs ts v (h.0, h.1) h.3)
    ∙ behind (spell_shape x.shape) (token (k.Name x.name) ▸ spell_value x.value) room ts (run xs ts)
    (shape_closed x.shape 0))
    ∙ behind (spell_net x.net) (behind_net x) room ts (run xs ts) (net_closed x.net 0)

at_direction : (q : Direction) (room : ℕ) (xs : Row Rule) (ts : List Kind)
    → run ((full_port, room) ∷ xs) (k.Keyword (direction_word q) ∷ ts)
    ≡ run ((net, room) ∷ (shape, room) ∷ (name, room) ∷ (value, room) ∷ xs) ts
at_direction d.Input room xs ts = refl
at_direction d.Output room xs ts = refl

full_run : (q : Pos) (x : FullPort) (room : ℕ) (xs : Row Rule) (ts : List Kind) → IsPortKind (p.Full x) → Behind ts
    → run ((full_port, room) ∷ xs) (onto (spell_port_kind q (p.Full x)) ts)
    ≡ measured (spell_port_kind q (p.Full x)) room 0 ts (run xs ts)
full_run q x room xs ts w h =
    attributed_run full_port refl x.attributes (at q (spell_full_port x)) room xs ts (run xs ts) w.0
    (at_direction x.direction room xs (onto (spell_net x.net ▸ behind_net x) ts)
    ∙ behind_direction x room xs ts w.1 w.3 h)

as_port : (vs : Attributes) (q : Direction) (room : ℕ) (xs : Row Rule) (ts : List Kind)
    → run ((port, room) ∷ xs) (onto (spell_attributes vs) (k.Keyword (direction_word q) ∷ ts))
    ≡ run ((full_port, room) ∷ xs) (onto (spell_attributes vs) (k.Keyword (direction_word q) ∷ ts))
as_port [] d.Input room xs ts = refl
as_port [] d.Output room xs ts = refl
as_port (i ∷ vs) q room xs ts = refl

as_first : (vs : Attributes) (q : Direction) (room : ℕ) (xs : Row Rule) (ts : List Kind)
    → run ((first_port, room) ∷ xs) (onto (spell_attributes vs) (k.Keyword (direction_word q) ∷ ts))
    ≡ run ((full_port, room) ∷ (more_ports, room) ∷ xs) (onto (spell_attributes vs) (k.Keyword (direction_word q) ∷ ts))
as_first [] d.Input room xs ts = refl
as_first [] d.Output room xs ts = refl
as_first (i ∷ vs) q room xs ts = refl

full_closed : (x : FullPort) (q : Pos) (m : ℕ) → open_after (spell_port_kind q (p.Full x)) m ≡ m
full_closed x q m =
    ap (λ i. open_after (spell_value x.value) (open_after (spell_shape x.shape) (open_after (spell_net x.net) i)))
    (attributes_closed x.attributes m)
    ∙ ap (λ i. open_after (spell_value x.value) (open_after (spell_shape x.shape) i)) (net_closed x.net m)
    ∙ ap (open_after (spell_value x.value)) (shape_closed x.shape m) ∙ value_closed x.value m

port_closed_by : (q : Pos) (x : PortKind) (m : ℕ) → open_after (spell_port_kind q x) m ≡ m
port_closed_by q (p.Full x) m = full_closed x q m
port_closed_by q (p.Short text v) m = value_closed v m

port_closed : (x : Port) (m : ℕ) → open_after (spell_port x) m ≡ m
port_closed x m = port_closed_by x.pos x.kind m

port_by : (q : Pos) (x : PortKind) (room : ℕ) (xs : Row Rule) (ts : List Kind) → IsPortKind x → Behind ts
    → run ((port, room) ∷ xs) (onto (spell_port_kind q x) ts) ≡ measured (spell_port_kind q x) room 0 ts (run xs ts)
port_by q (p.Full x) room xs ts w h =
    as_port x.attributes x.direction room xs (onto (spell_net x.net ▸ behind_net x) ts) ∙ full_run q x room xs ts w h
port_by q (p.Short text v) room xs ts w h = value_run v room xs ts w.1 (h.0, h.1) h.3

port_run : (x : Port) (room : ℕ) (xs : Row Rule) (ts : List Kind) → IsPort x → Behind ts
    → run ((port, room) ∷ xs) (onto (spell_port x) ts) ≡ measured (spell_port x) room 0 ts (run xs ts)
port_run x room xs ts w h = port_by x.pos x.kind room xs ts w h

first_by : (q : Pos) (x : PortKind) (room : ℕ) (xs : Row Rule) (ts : List Kind) → IsPortKind x → IsFull x → Behind ts
    → run ((first_port, room) ∷ xs) (onto (spell_port_kind q x) ts)
    ≡ measured (spell_port_kind q x) room 0 ts (run ((more_ports, room) ∷ xs) ts)
first_by q (p.Full x) room xs ts w f h =
    as_first x.attributes x.direction room xs (onto (spell_net x.net ▸ behind_net x) ts)
    ∙ full_run q x room ((more_ports, room) ∷ xs) ts w h
first_by q (p.Short text v) room xs ts w f h = absurd f

-- all ports, up to the closing bracket
pub ports_run : (vs : List Port) (room : ℕ) (xs : Row Rule) (ts : List Kind) → well_declared.ArePorts vs
    → run ((first_port, room) ∷ xs) (onto (between_commas spell_port vs) (k.Symbol s.CloseParen ∷ ts))
    ≡ measured (between_commas spell_port vs) room 0 (k.Symbol s.CloseParen ∷ ts) (run xs ts)
ports_run [] room xs ts w = refl
ports_run (x ∷ vs) room xs ts w =
    first_by x.pos x.kind room xs (onto (with_commas spell_port vs) (k.Symbol s.CloseParen ∷ ts))
    (All-head IsPort x vs w.1) w.0 (behind_port vs ts)
    ∙ ap (measured (spell_port x) room 0 (onto (with_commas spell_port vs) (k.Symbol s.CloseParen ∷ ts)))
    (tail_run spell_port IsPort more_ports (λ n ys. (port, n) ∷ ys) (λ n ys. ys) (k.Symbol s.CloseParen)
    (λ n ys us. refl) (λ n ys us. refl) (λ us. (refl, refl, refl, refl)) port_closed port_run vs room xs ts
    (All-tail IsPort x vs w.1))
    ∙ behind (spell_port x) (with_commas spell_port vs) room (k.Symbol s.CloseParen ∷ ts) (run xs ts) (port_closed x 0)
  where
    behind_port : (vs : List Port) (ts : List Kind)
        → Behind (onto (with_commas spell_port vs) (k.Symbol s.CloseParen ∷ ts))
    behind_port [] ts = (refl, refl, refl, refl)
    behind_port (y ∷ vs) ts = (refl, refl, refl, refl)
