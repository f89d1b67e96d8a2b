-- What well formed targets, attributes, ranges, declared names, parameters and ports spell is read as such.
use Rattle.std.proofs.Common.{◌≡◌, ℕ, Bool, true, false, List, [], ◌∷◌, ◌++◌, Option, Some, None, refl, ◌∙◌, arith}
use Rattle.std.specs.Prelude.{All}
use Rattle.std.proofs.lemmas.List.Elements.{All-head, All-tail}
use Rattle.fv_text.specs.declared.keyword.Keyword.TheVariants as w
use Rattle.fv_text.specs.declared.kind.Kind.{Kind}
use Rattle.fv_text.specs.declared.kind.Kind.TheVariants as k
use Rattle.fv_text.specs.declared.symbol.Symbol.TheVariants as s
use Rattle.vl_tree.specs.declared.attribute.Attribute.{Attribute}
use Rattle.vl_tree.specs.declared.declaration.Range.{Range}
use Rattle.vl_tree.specs.declared.declaration.Shape.{Shape}
use Rattle.vl_tree.specs.declared.declaration.NetKind.{NetKind}
use Rattle.vl_tree.specs.declared.declaration.NetKind.TheVariants as n
use Rattle.vl_tree.specs.declared.declaration.Direction.{Direction}
use Rattle.vl_tree.specs.declared.declaration.Direction.TheVariants as d
use Rattle.vl_tree.specs.declared.declaration.DeclaredName.{DeclaredName}
use Rattle.vl_tree.specs.declared.declaration.Parameter.{Parameter}
use Rattle.vl_tree.specs.declared.declaration.HeaderParameter.{HeaderParameter}
use Rattle.vl_tree.specs.declared.declaration.Port.{Port}
use Rattle.vl_tree.specs.declared.declaration.PortKind.{PortKind}
use Rattle.vl_tree.specs.declared.declaration.PortKind.TheVariants as p
use Rattle.vl_tree.specs.declared.declaration.FullPort.{FullPort}
use Rattle.fv_text.specs.declared.pos.Pos.{Pos}
use Rattle.vl_tree.specs.Attributes.{Attributes}
use Rattle.vl_tree.specs.Expr.{Expr}
use Rattle.vl_tree.specs.ExprSpelling as expr
use Rattle.vl_tree.specs.ExprSpelling.{spell_value}
use Rattle.vl_tree.specs.ExprWellFormed as well
use Rattle.vl_tree.specs.Lval.{Lval, Lvals, named, joined, no_lvals, more_lvals}
use Rattle.vl_tree.specs.LvalSpelling as lval
use Rattle.vl_tree.specs.LvalWellFormed as target_well
use Rattle.vl_tree.specs.Phrase.{Phrase, token, ◌▸◌, between_commas, with_commas}
use Rattle.vl_tree.specs.DeclarationSpelling.{spell_attribute, spell_attributes, spell_optional_range, spell_if}
use Rattle.vl_tree.specs.DeclarationSpelling.{spell_shape, spell_net, direction_word, spell_declared_name}
use Rattle.vl_tree.specs.DeclarationSpelling.{spell_parameter, spell_header_parameter, spell_full_port}
use Rattle.vl_tree.specs.DeclarationSpelling.{spell_port_kind, spell_port}
use Rattle.vl_tree.specs.DeclarationWellFormed.{
  AreSome,
  IsAttribute,
  IsInstance,
  AreAttributes,
  IsOptionalRange,
  IsShape,
  IsDeclaredName,
  IsParameter,
  IsHeaderParameter,
  IsPortKind,
  IsPort,
  IsFull,
}
use Rattle.vl_parse_grammar.specs.Grammar as g
use Rattle.vl_parse_grammar.specs.Grammar.{
  Rule,
  plain,
  more,
  selects,
  value,
  target,
  targets,
  attributes,
  name,
  sign,
  range,
  shape,
  declared_name,
  optional_parameter,
  parameter,
  port,
  full_port,
  first_port,
  more_ports,
  net,
  accepts,
  expand,
  ends,
  attributed,
}
use Rattle.vl_parse_grammar.proofs.Onto.{onto}
use Rattle.vl_parse_grammar.proofs.Steps as steps
use Rattle.vl_tree.specs.DeclarationWellFormed as well_declared
use Rattle.vl_parse_grammar.proofs.ExprReads.{Leaves, leaves, whole_read, selects_read, value_read}

-- behind an element of a list: nothing goes on
abbrev pub Behind : List Kind → Type 0
Behind ts = Leaves selects ts × Leaves (more plain 0 0) ts × Leaves range ts × Leaves value ts

-- a list with commas, whose tail rule takes the comma or what closes the list
module _ {A : Type 0} (one : A → Phrase) (Good : A → Type 0) (tail : Rule) (element closing : List Rule) (close : Kind)
    (at_comma : (xs : List Rule) (ts : List Kind)
    → accepts (tail ∷ xs) (k.Symbol s.Comma ∷ ts) ≡ accepts (element ++ tail ∷ xs) ts)
    (at_close : (xs : List Rule) (ts : List Kind) → accepts (tail ∷ xs) (close ∷ ts) ≡ accepts (closing ++ xs) ts)
    (behind : (ts : List Kind) → Behind (close ∷ ts))
    (element_read : (x : A) (xs : List Rule) (ts : List Kind) → Good x → Behind ts
    → accepts (element ++ xs) (onto (one x) ts) ≡ accepts xs ts) where
  pub behind_element : (vs : List A) (ts : List Kind) → Behind (onto (with_commas one vs) (close ∷ ts))
  behind_element [] ts = behind ts
  behind_element (x ∷ vs) ts = (refl, refl, refl, refl)

  pub tail_read : (vs : List A) (xs : List Rule) (ts : List Kind) → All Good vs
      → accepts (tail ∷ xs) (onto (with_commas one vs) (close ∷ ts)) ≡ accepts (closing ++ xs) ts
  tail_read [] xs ts w = at_close xs ts
  tail_read (x ∷ vs) xs ts w =
      at_comma xs (onto (one x) (onto (with_commas one vs) (close ∷ ts)))
      ∙ element_read x (tail ∷ xs) (onto (with_commas one vs) (close ∷ ts)) (All-head Good x vs w)
      (behind_element vs ts)
      ∙ tail_read vs xs ts (All-tail Good x vs w)

  pub list_read : (x : A) (vs : List A) (xs : List Rule) (ts : List Kind) → All Good (x ∷ vs)
      → accepts (element ++ tail ∷ xs) (onto (between_commas one (x ∷ vs)) (close ∷ ts)) ≡ accepts (closing ++ xs) ts
  list_read x vs xs ts w =
      element_read x (tail ∷ xs) (onto (with_commas one vs) (close ∷ ts)) (All-head Good x vs w) (behind_element vs ts)
      ∙ tail_read vs xs ts (All-tail Good x vs w)

mutual
  pub target_read : (l : Lval) (xs : List Rule) (rest : List Kind) → target_well.IsWellFormed l → Leaves selects rest
      → accepts (target ∷ xs) (onto (lval.spell l) rest) ≡ accepts xs rest
  target_read (named p text ss) xs rest w h = selects_read ss xs rest w.1 ∙ leaves selects xs rest h
  target_read (joined p no_lvals) xs rest w h = absurd w.0
  target_read (joined p (more_lvals l ls)) xs rest w h =
      target_read l (targets ∷ xs) (onto (lval.spell_more ls) (k.Symbol s.CloseBrace ∷ rest)) w.1.0
      (behind_target ls rest)
      ∙ targets_read ls xs rest w.1.1

  pub targets_read : (ls : Lvals) (xs : List Rule) (rest : List Kind) → target_well.AreWellFormed ls
      → accepts (targets ∷ xs) (onto (lval.spell_more ls) (k.Symbol s.CloseBrace ∷ rest)) ≡ accepts xs rest
  targets_read no_lvals xs rest w = refl
  targets_read (more_lvals l ls) xs rest w =
      target_read l (targets ∷ xs) (onto (lval.spell_more ls) (k.Symbol s.CloseBrace ∷ rest)) w.0
      (behind_target ls rest)
      ∙ targets_read ls xs rest w.1

  pub behind_target : (ls : Lvals) (rest : List Kind)
      → Leaves selects (onto (lval.spell_more ls) (k.Symbol s.CloseBrace ∷ rest))
  behind_target no_lvals rest = refl
  behind_target (more_lvals l ls) rest = refl

attribute_read : (x : Attribute) (xs : List Rule) (ts : List Kind) → IsAttribute x → Behind ts
    → accepts (name ∷ value ∷ xs) (onto (spell_attribute x) ts) ≡ accepts xs ts
attribute_read x xs ts w h = value_read x.value xs ts w.1 (h.0, h.1) h.3

in_instance : (vs : List Attribute) (xs : List Rule) (ts : List Kind) → AreSome IsAttribute vs
    → accepts (name ∷ value ∷ attributes ∷ xs)
    (onto (between_commas spell_attribute vs) (k.Symbol s.CloseAttribute ∷ ts)) ≡ accepts xs ts
in_instance [] xs ts w = absurd (omega (arith, w.0))
in_instance (x ∷ vs) xs ts w =
    list_read spell_attribute IsAttribute attributes (name ∷ value ∷ []) [] (k.Symbol s.CloseAttribute)
    (λ ys us. refl) (λ ys us. refl)
    (λ us. (refl, refl, refl, refl)) attribute_read x vs xs ts w.1

-- attributes before a rule that takes them
pub attributes_read : (x : Rule) → expand x (k.Symbol s.OpenAttribute) ≡ attributed x
    → (vs : Attributes) (xs : List Rule) (ts : List Kind)
    → AreAttributes vs → accepts (x ∷ xs) (onto (spell_attributes vs) ts) ≡ accepts (x ∷ xs) ts
attributes_read x e [] xs ts w = refl
attributes_read x e (i ∷ vs) xs ts w =
    steps.took expand ends x xs (k.Symbol s.OpenAttribute)
    (onto (between_commas spell_attribute i.attributes) (k.Symbol s.CloseAttribute ∷ onto (spell_attributes vs) ts))
    1 ((name, 1) ∷ (value, 1) ∷ (attributes, 1) ∷ (x, 0) ∷ []) e
    ∙ in_instance i.attributes (x ∷ xs) (onto (spell_attributes vs) ts) (All-head IsInstance i vs w)
    ∙ attributes_read x e vs xs ts (All-tail IsInstance i vs w)

pub range_read : (r : Option Range) (xs : List Rule) (rest : List Kind) → IsOptionalRange r → Leaves range rest
    → accepts (range ∷ xs) (onto (spell_optional_range r) rest) ≡ accepts xs rest
range_read None xs rest w h = leaves range xs rest h
range_read (Some r) xs rest w h =
    whole_read r.left (sign s.Colon ∷ g.expr ∷ sign s.CloseBracket ∷ xs)
    (k.Symbol s.Colon ∷ onto (expr.spell r.right) (k.Symbol s.CloseBracket ∷ rest)) w.0 (refl, refl)
    ∙ whole_read r.right (sign s.CloseBracket ∷ xs) (k.Symbol s.CloseBracket ∷ rest) w.1 (refl, refl)

-- behind a shape comes a name
shape_by : (signed : Bool) (r : Option Range) (text : List ℕ) (xs : List Rule) (rest : List Kind) → IsOptionalRange r
    → accepts (shape ∷ xs) (onto (spell_if signed w.Signed ▸ spell_optional_range r) (k.Name text ∷ rest))
    ≡ accepts xs (k.Name text ∷ rest)
shape_by true r text xs rest w = range_read r xs (k.Name text ∷ rest) w refl
shape_by false None text xs rest w = refl
shape_by false (Some r) text xs rest w = range_read (Some r) xs (k.Name text ∷ rest) w refl

pub shape_read : (x : Shape) (text : List ℕ) (xs : List Rule) (rest : List Kind) → IsShape x
    → accepts (shape ∷ xs) (onto (spell_shape x) (k.Name text ∷ rest)) ≡ accepts xs (k.Name text ∷ rest)
shape_read x text xs rest w = shape_by x.signed x.range text xs rest w

pub range_behind : (v : Option Expr) (rest : List Kind) → Leaves range rest → Leaves range (onto (spell_value v) rest)
range_behind None rest h = h
range_behind (Some e) rest h = refl

pub declared_name_read : (x : DeclaredName) (xs : List Rule) (ts : List Kind) → IsDeclaredName x → Behind ts
    → accepts (declared_name ∷ xs) (onto (spell_declared_name x) ts) ≡ accepts xs ts
declared_name_read x xs ts w h =
    range_read x.words (value ∷ xs) (onto (spell_value x.value) ts) w.1 (range_behind x.value ts h.2)
    ∙ value_read x.value xs ts w.2 (h.0, h.1) h.3

pub declared_names_read : (vs : List DeclaredName) (xs : List Rule) (ts : List Kind) → AreSome IsDeclaredName vs
    → accepts (declared_name ∷ g.declared_names ∷ xs)
    (onto (between_commas spell_declared_name vs) (k.Symbol s.Semicolon ∷ ts)) ≡ accepts xs ts
declared_names_read [] xs ts w = absurd (omega (arith, w.0))
declared_names_read (x ∷ vs) xs ts w =
    list_read spell_declared_name IsDeclaredName g.declared_names (declared_name ∷ []) [] (k.Symbol s.Semicolon)
    (λ ys us. refl) (λ ys us. refl)
    (λ us. (refl, refl, refl, refl)) declared_name_read x vs xs ts w.1

pub parameter_read : (x : Parameter) (xs : List Rule) (ts : List Kind) → IsParameter x → Behind ts
    → accepts (parameter ++ xs) (onto (spell_parameter x) ts) ≡ accepts xs ts
parameter_read x xs ts w h =
    shape_read x.shape x.name (name ∷ sign s.Equal ∷ g.expr ∷ xs) (k.Symbol s.Equal ∷ onto (expr.spell x.value) ts) w.0
    ∙ whole_read x.value xs ts w.2 (h.0, h.1)

pub parameters_read : (vs : List Parameter) (xs : List Rule) (ts : List Kind) → AreSome IsParameter vs
    → accepts (parameter ++ g.parameters ∷ xs) (onto (between_commas spell_parameter vs) (k.Symbol s.Semicolon ∷ ts))
    ≡ accepts xs ts
parameters_read [] xs ts w = absurd (omega (arith, w.0))
parameters_read (x ∷ vs) xs ts w =
    list_read spell_parameter IsParameter g.parameters parameter [] (k.Symbol s.Semicolon) (λ ys us. refl)
    (λ ys us. refl)
    (λ us. (refl, refl, refl, refl)) parameter_read x vs xs ts w.1

pub no_keyword : (signed : Bool) (r : Option Range) (text : List ℕ) (rest : List Kind)
    → Leaves optional_parameter (onto (spell_if signed w.Signed ▸ spell_optional_range r) (k.Name text ∷ rest))
no_keyword true r text rest = refl
no_keyword false None text rest = refl
no_keyword false (Some r) text rest = refl

header_by : (keyword : Bool) (x : Parameter) (xs : List Rule) (ts : List Kind) → IsParameter x → Behind ts
    → accepts (optional_parameter ∷ parameter ++ xs) (onto (spell_if keyword w.Parameter ▸ spell_parameter x) ts)
    ≡ accepts xs ts
header_by true x xs ts w h = parameter_read x xs ts w h
header_by false x xs ts w h =
    leaves optional_parameter (parameter ++ xs) (onto (spell_parameter x) ts)
    (no_keyword x.shape.signed x.shape.range x.name (k.Symbol s.Equal ∷ onto (expr.spell x.value) ts))
    ∙ parameter_read x xs ts w h

pub header_parameter_read : (x : HeaderParameter) (xs : List Rule) (ts : List Kind) → IsHeaderParameter x → Behind ts
    → accepts (optional_parameter ∷ parameter ++ xs) (onto (spell_header_parameter x) ts) ≡ accepts xs ts
header_parameter_read x xs ts w h = header_by x.keyword x.parameter xs ts w h

-- ports
pub no_net : (signed : Bool) (r : Option Range) (text : List ℕ) (rest : List Kind)
    → Leaves net (onto (spell_if signed w.Signed ▸ spell_optional_range r) (k.Name text ∷ rest))
no_net true r text rest = refl
no_net false None text rest = refl
no_net false (Some r) text rest = refl

net_read : (o : Option NetKind) (xs : List Rule) (rest : List Kind) → Leaves net rest
    → accepts (net ∷ xs) (onto (spell_net o) rest) ≡ accepts xs rest
net_read None xs rest h = leaves net xs rest h
net_read (Some n.Wire) xs rest h = refl
net_read (Some n.Reg) xs rest h = refl

behind_direction : (x : FullPort) (xs : List Rule) (ts : List Kind) → IsShape x.shape → well.IsValue x.value → Behind ts
    → accepts (net ∷ shape ∷ name ∷ value ∷ xs)
    (onto (spell_net x.net ▸ spell_shape x.shape ▸ token (k.Name x.name) ▸ spell_value x.value) ts) ≡ accepts xs ts
behind_direction x xs ts w v h =
    net_read x.net (shape ∷ name ∷ value ∷ xs)
    (onto (spell_shape x.shape) (k.Name x.name ∷ onto (spell_value x.value) ts))
    (no_net x.shape.signed x.shape.range x.name (onto (spell_value x.value) ts))
    ∙ shape_read x.shape x.name (name ∷ value ∷ xs) (onto (spell_value x.value) ts) w
    ∙ value_read x.value xs ts v (h.0, h.1) h.3

at_direction : (q : Direction) (xs : List Rule) (ts : List Kind)
    → accepts (full_port ∷ xs) (k.Keyword (direction_word q) ∷ ts) ≡ accepts (net ∷ shape ∷ name ∷ value ∷ xs) ts
at_direction d.Input xs ts = refl
at_direction d.Output xs ts = refl

full_port_read : (x : FullPort) (xs : List Rule) (ts : List Kind) → AreAttributes x.attributes → IsShape x.shape
    → well.IsValue x.value
    → Behind ts → accepts (full_port ∷ xs) (onto (spell_attributes x.attributes ▸ spell_full_port x) ts) ≡ accepts xs ts
full_port_read x xs ts a w v h =
    attributes_read full_port refl x.attributes xs (onto (spell_full_port x) ts) a
    ∙ at_direction x.direction xs (onto (spell_net x.net ▸ spell_shape x.shape ▸ token
    (k.Name x.name) ▸ spell_value x.value) ts)
    ∙ behind_direction x xs ts w v h

-- a full port stands where a port may
as_port : (vs : Attributes) (q : Direction) (xs : List Rule) (ts : List Kind)
    → accepts (port ∷ xs) (onto (spell_attributes vs) (k.Keyword (direction_word q) ∷ ts))
    ≡ accepts (full_port ∷ xs) (onto (spell_attributes vs) (k.Keyword (direction_word q) ∷ ts))
as_port [] d.Input xs ts = refl
as_port [] d.Output xs ts = refl
as_port (i ∷ vs) q xs ts = refl

as_first : (vs : Attributes) (q : Direction) (xs : List Rule) (ts : List Kind)
    → accepts (first_port ∷ xs) (onto (spell_attributes vs) (k.Keyword (direction_word q) ∷ ts))
    ≡ accepts (full_port ∷ more_ports ∷ xs) (onto (spell_attributes vs) (k.Keyword (direction_word q) ∷ ts))
as_first [] d.Input xs ts = refl
as_first [] d.Output xs ts = refl
as_first (i ∷ vs) q xs ts = refl

port_by : (q : Pos) (kind : PortKind) (xs : List Rule) (ts : List Kind) → IsPortKind kind → Behind ts
    → accepts (port ∷ xs) (onto (spell_port_kind q kind) ts) ≡ accepts xs ts
port_by q (p.Full x) xs ts w h =
    as_port x.attributes x.direction xs (onto
    (spell_net x.net ▸ spell_shape x.shape ▸ token (k.Name x.name) ▸ spell_value x.value) ts)
    ∙ full_port_read x xs ts w.0 w.1 w.3 h
port_by q (p.Short text v) xs ts w h = value_read v xs ts w.1 (h.0, h.1) h.3

port_read : (x : Port) (xs : List Rule) (ts : List Kind) → IsPort x → Behind ts
    → accepts (port ∷ xs) (onto (spell_port x) ts) ≡ accepts xs ts
port_read x xs ts w h = port_by x.pos x.kind xs ts w h

first_by : (q : Pos) (kind : PortKind) (xs : List Rule) (ts : List Kind) → IsPortKind kind → IsFull kind → Behind ts
    → accepts (first_port ∷ xs) (onto (spell_port_kind q kind) ts) ≡ accepts (more_ports ∷ xs) ts
first_by q (p.Full x) xs ts w f h =
    as_first x.attributes x.direction xs (onto
    (spell_net x.net ▸ spell_shape x.shape ▸ token (k.Name x.name) ▸ spell_value x.value) ts)
    ∙ full_port_read x (more_ports ∷ xs) ts w.0 w.1 w.3 h
first_by q (p.Short text v) xs ts w f h = absurd f

-- all ports, up to the closing bracket
pub ports_read : (vs : List Port) (xs : List Rule) (ts : List Kind) → well_declared.ArePorts vs
    → accepts (first_port ∷ xs) (onto (between_commas spell_port vs) (k.Symbol s.CloseParen ∷ ts)) ≡ accepts xs ts
ports_read [] xs ts w = refl
ports_read (x ∷ vs) xs ts w =
    first_by x.pos x.kind xs (onto (with_commas spell_port vs) (k.Symbol s.CloseParen ∷ ts))
    (All-head IsPort x vs w.1) w.0 (behind_port vs ts)
    ∙ tail_read spell_port IsPort more_ports (port ∷ []) [] (k.Symbol s.CloseParen) (λ ys us. refl) (λ ys us. refl)
    (λ us. (refl, refl, refl, refl)) port_read vs xs ts (All-tail IsPort x vs w.1)
  where
    behind_port : (vs : List Port) (ts : List Kind)
        → Behind (onto (with_commas spell_port vs) (k.Symbol s.CloseParen ∷ ts))
    behind_port [] ts = (refl, refl, refl, refl)
    behind_port (y ∷ vs) ts = (refl, refl, refl, refl)
