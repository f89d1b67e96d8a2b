-- What well formed items spell is read as items; an `else` is read for the nearest `if`.
use Rattle.std.proofs.Common.{◌≡◌, ℕ, zero, suc, Bool, true, false, List, [], ◌∷◌, ◌++◌, Option, Some, None, refl}
use Rattle.std.proofs.Common.{sym, ap, ◌∙◌, subst, arith}
use Rattle.std.specs.Prelude.{All}
use Rattle.std.proofs.lemmas.Slice.Eq.{bytes_eq-Decides}
use Rattle.fv_text.specs.declared.keyword.Keyword.TheVariants as word
use Rattle.fv_text.specs.declared.kind.Kind.{Kind}
use Rattle.fv_text.specs.declared.kind.Kind.TheVariants as k
use Rattle.fv_text.specs.declared.symbol.Symbol.TheVariants as s
use Rattle.vl_tree.specs.declared.declaration.DeclaredName.{DeclaredName}
use Rattle.vl_tree.specs.declared.declaration.NetKind.{NetKind}
use Rattle.vl_tree.specs.declared.declaration.NetKind.TheVariants as n
use Rattle.vl_tree.specs.declared.declaration.ParameterKind.{ParameterKind}
use Rattle.vl_tree.specs.declared.declaration.ParameterKind.TheVariants as q
use Rattle.vl_tree.specs.declared.declaration.Shape.{Shape}
use Rattle.vl_tree.specs.declared.item.RegionMark.TheVariants as mark
use Rattle.vl_tree.specs.declared.part.Assignment.{Assignment}
use Rattle.vl_tree.specs.declared.part.Connection.{Connection}
use Rattle.vl_tree.specs.declared.part.EventKind.{EventKind}
use Rattle.vl_tree.specs.declared.part.EventKind.TheVariants as v
use Rattle.vl_tree.specs.declared.part.LoopHead.{LoopHead}
use Rattle.vl_tree.specs.Attributes.{Attributes}
use Rattle.vl_tree.specs.DeclarationSpelling.{
  spell_attribute,
  spell_attributes,
  spell_shape,
  spell_declared_name,
  spell_parameter,
  net_word,
  parameter_word,
}
use Rattle.vl_tree.specs.DeclarationWellFormed.{AreSome, IsDeclaredName, IsShape}
use Rattle.vl_tree.specs.Expr.{Expr}
use Rattle.vl_tree.specs.ExprSpelling as expr
use Rattle.vl_tree.specs.ExprWellFormed as expr_well
use Rattle.vl_tree.specs.ExprWellFormed.{IsName}
use Rattle.vl_tree.specs.Item.{
  Item,
  Items,
  Block,
  declaration,
  integer,
  genvar,
  parameter,
  assign,
  always,
  initial,
  instance,
  generate,
  for_loop,
  if_only,
  if_else,
  no_items,
  more_items,
  begin,
  region,
  single,
}
use Rattle.vl_tree.specs.ItemSpelling.{spell, spell_all, spell_block, spell_head, spell_assignment, spell_event_kind}
use Rattle.vl_tree.specs.ItemSpelling.{spell_optional, spell_connection, spell_connections, spell_overrides}
use Rattle.vl_tree.specs.Lval.{Lval, named, joined, no_lvals, more_lvals}
use Rattle.vl_tree.specs.LvalSpelling as lval
use Rattle.vl_tree.specs.LvalWellFormed as lval_well
use Rattle.vl_tree.specs.Phrase.{Phrase, ◌▸◌, a_name, between_commas}
use Rattle.vl_tree.specs.Stmt as stmt_tree
use Rattle.vl_tree.specs.Stmt.{Stmt, Stmts, no_stmts, more_stmts}
use Rattle.vl_tree.specs.StmtSpelling as stmt_spelling
use Rattle.vl_tree.specs.StmtSpelling.{spell_label}
use Rattle.vl_tree.specs.StmtWellFormed as stmt_well
use Rattle.vl_tree.specs.WellFormed.{IsAssignment, IsConnection, AreOverrides, IsHead, attributes_of, mark_of}
use Rattle.vl_tree.specs.WellFormed.{ends_open, block_ends_open, open_behind, AreBalanced, IsWellFormed}
use Rattle.vl_tree.specs.WellFormed.{AreWellFormed, IsBlock}
use Rattle.vl_parse_grammar.specs.Machine.{Row, take, pop, bad, symbols}
use Rattle.vl_parse_grammar.specs.Grammar as g
use Rattle.vl_parse_grammar.specs.Grammar.{
  Rule,
  Moves,
  Ending,
  endmodule,
  endgenerate,
  end,
  plain,
  selects,
  sign,
  name,
  stmt,
  otherwise,
  shape,
  declared_name,
  declared_names,
  initial_stmt,
  initial_stmts,
  target,
  targets,
  item,
  generate_block,
  generate_block_label,
  generate_otherwise,
  connections,
  connection,
  first_connection,
  more_connections,
  connected,
  connected_value,
  this_name,
  accepts,
  expand,
  ends,
  many,
  take_if,
  on_operand,
  on_otherwise,
  on_generate_otherwise,
}
use Rattle.vl_parse_grammar.proofs.Onto.{onto}
use Rattle.vl_parse_grammar.proofs.Regions.{NoClose, some_none, no_open, no_mark, never, first_opens}
use Rattle.vl_parse_grammar.proofs.Steps as steps
use Rattle.vl_parse_grammar.proofs.Steps.{is_pop, apart}
use Rattle.vl_parse_grammar.proofs.Words.{ending_word}
use Rattle.vl_parse_grammar.proofs.ExprReads.{Leaves, leaves, whole_read, parens_read, selects_read}
use Rattle.vl_parse_grammar.proofs.DeclarationReads.{
  Behind,
  attributes_read,
  target_read,
  targets_read,
  behind_target,
  list_read,
  shape_read,
  declared_names_read,
  parameters_read,
}
use Rattle.vl_parse_grammar.proofs.StmtReads.{Plain, expr_front, stmt_reads, stepped, on_step, never_operand}

-- what may stand behind `initial`
pub data BeginsInitial : Kind → Type 0 where
  by_begin : BeginsInitial (k.Keyword word.Begin)
  by_name : (text : List ℕ) → BeginsInitial (k.Name text)
  by_brace : BeginsInitial (k.Symbol s.OpenBrace)

pub record InitialFront (ts : List Kind) : Type 0 where
  pub head : Kind
  pub tail : List Kind
  pub same : ts ≡ head ∷ tail
  pub begins : BeginsInitial head

pub target_front : (l : Lval) (ts : List Kind) → InitialFront (onto (lval.spell l) ts)
target_front (named p text ss) ts =
    record { head = k.Name text; tail = onto (expr.spell_selects ss) ts; same = refl; begins = by_name text }
target_front (joined p ls) ts =
    record {
      head = k.Symbol s.OpenBrace;
      tail = onto (lval.spell_parts ls) (k.Symbol s.CloseBrace ∷ ts);
      same = refl;
      begins = by_brace;
    }

pub initial_front : (x : Stmt) (ts : List Kind) → stmt_well.IsInitial x → InitialFront (onto (stmt_spelling.spell x) ts)
initial_front (stmt_tree.begin attrs p label x) ts i = record {
  head = k.Keyword word.Begin;
  tail = onto (spell_label label ▸ stmt_spelling.spell_all x) (k.Keyword word.End ∷ ts);
  same = ap (λ vs. onto (stmt_spelling.spell (stmt_tree.begin vs p label x)) ts) i.0;
  begins = by_begin;
}
initial_front (stmt_tree.assign attrs p l kind x) ts i =
    let f = target_front l (k.Symbol (stmt_spelling.assign_sign kind)
    ∷ onto (expr.spell x) (k.Symbol s.Semicolon ∷ ts)) in
    record {
      head = f.head;
      tail = f.tail;
      same = ap (λ vs. onto (stmt_spelling.spell (stmt_tree.assign vs p l kind x)) ts) i.0 ∙ f.same;
      begins = f.begins;
    }
initial_front (stmt_tree.if_only attrs p x y) ts i = absurd i
initial_front (stmt_tree.if_else attrs p x y z) ts i = absurd i
initial_front (stmt_tree.case attrs p kind x zs) ts i = absurd i
initial_front (stmt_tree.assume attrs p x) ts i = absurd i
initial_front (stmt_tree.empty attrs p) ts i = absurd i

pub in_initial_stmts : (t : Kind) → BeginsInitial t → (xs : List Rule) (ts : List Kind)
    → accepts (initial_stmts ∷ xs) (t ∷ ts) ≡ accepts (initial_stmt ∷ initial_stmts ∷ xs) (t ∷ ts)
in_initial_stmts _ by_begin xs ts = refl
in_initial_stmts _ (by_name text) xs ts = refl
in_initial_stmts _ by_brace xs ts = refl

initial_target : (l : Lval) (xs : List Rule) (ts : List Kind) → lval_well.IsWellFormed l
    → accepts (initial_stmt ∷ xs) (onto (lval.spell l) (k.Symbol s.Equal ∷ ts))
    ≡ accepts (g.expr ∷ sign s.Semicolon ∷ xs) ts
initial_target (named p text ss) xs ts w =
    selects_read ss (sign s.Equal ∷ g.expr ∷ sign s.Semicolon ∷ xs) (k.Symbol s.Equal ∷ ts) w.1
initial_target (joined p no_lvals) xs ts w = absurd w.0
initial_target (joined p (more_lvals l ls)) xs ts w =
    target_read l (targets ∷ sign s.Equal ∷ g.expr ∷ sign s.Semicolon ∷ xs)
    (onto (lval.spell_more ls) (k.Symbol s.CloseBrace ∷ k.Symbol s.Equal ∷ ts))
    w.1.0 (behind_target ls (k.Symbol s.Equal ∷ ts))
    ∙ targets_read ls (sign s.Equal ∷ g.expr ∷ sign s.Semicolon ∷ xs) (k.Symbol s.Equal ∷ ts) w.1.1

mutual
  initial_reads : (x : Stmt) (xs : List Rule) (ts : List Kind) → stmt_well.IsInitial x → stmt_well.IsWellFormed x
      → accepts (initial_stmt ∷ xs) (onto (stmt_spelling.spell x) ts) ≡ accepts xs ts
  initial_reads (stmt_tree.begin attrs p label x) xs ts i w =
      (λ j. accepts (initial_stmt ∷ xs) (onto (stmt_spelling.spell (stmt_tree.begin (i.0 j) p (i.1 j) x)) ts))
      ∙ initial_all x xs ts i.2 w.2
  initial_reads (stmt_tree.assign attrs p l kind x) xs ts i w =
      (λ j. accepts (initial_stmt ∷ xs) (onto (stmt_spelling.spell (stmt_tree.assign (i.0 j) p l (i.1 j) x)) ts))
      ∙ initial_target l xs (onto (expr.spell x) (k.Symbol s.Semicolon ∷ ts)) w.1
      ∙ whole_read x (sign s.Semicolon ∷ xs) (k.Symbol s.Semicolon ∷ ts) w.2 (refl, refl)
  initial_reads (stmt_tree.if_only attrs p x y) xs ts i w = absurd i
  initial_reads (stmt_tree.if_else attrs p x y z) xs ts i w = absurd i
  initial_reads (stmt_tree.case attrs p kind x zs) xs ts i w = absurd i
  initial_reads (stmt_tree.assume attrs p x) xs ts i w = absurd i
  initial_reads (stmt_tree.empty attrs p) xs ts i w = absurd i

  initial_all : (x : Stmts) (xs : List Rule) (ts : List Kind) → stmt_well.AreInitial x → stmt_well.AreWellFormed x
      → accepts (initial_stmts ∷ xs) (onto (stmt_spelling.spell_all x) (k.Keyword word.End ∷ ts)) ≡ accepts xs ts
  initial_all no_stmts xs ts i w = refl
  initial_all (more_stmts x zs) xs ts i w =
      (let f = initial_front x (onto (stmt_spelling.spell_all zs) (k.Keyword word.End ∷ ts)) i.0 in
      ap (λ us. accepts (initial_stmts ∷ xs) us) f.same ∙ in_initial_stmts f.head f.begins xs f.tail
      ∙ ap (λ us. accepts (initial_stmt ∷ initial_stmts ∷ xs) us) (sym f.same))
      ∙ initial_reads x (initial_stmts ∷ xs) (onto (stmt_spelling.spell_all zs) (k.Keyword word.End ∷ ts)) i.0 w.0
      ∙ initial_all zs xs ts i.1 w.1

-- what an item may begin with; attributes, or not
pub data BeginsItem : Bool → Kind → Type 0 where
  by_wire : BeginsItem false (k.Keyword word.Wire)
  by_reg : BeginsItem false (k.Keyword word.Reg)
  by_integer : BeginsItem false (k.Keyword word.Integer)
  by_genvar : BeginsItem false (k.Keyword word.Genvar)
  by_parameter : BeginsItem false (k.Keyword word.Parameter)
  by_localparam : BeginsItem false (k.Keyword word.Localparam)
  by_assign : BeginsItem false (k.Keyword word.Assign)
  by_always : BeginsItem false (k.Keyword word.Always)
  by_initial : BeginsItem false (k.Keyword word.Initial)
  by_generate : BeginsItem false (k.Keyword word.Generate)
  by_for : BeginsItem false (k.Keyword word.For)
  by_if : BeginsItem false (k.Keyword word.If)
  by_text : (text : List ℕ) → BeginsItem false (k.Name text)
  by_attribute : BeginsItem true (k.Symbol s.OpenAttribute)

pub record ItemFront (ts : List Kind) : Type 0 where
  pub attributed : Bool
  pub head : Kind
  pub tail : List Kind
  pub same : ts ≡ head ∷ tail
  pub begins : BeginsItem attributed head

pub record BareFront (ts : List Kind) : Type 0 where
  pub head : Kind
  pub tail : List Kind
  pub same : ts ≡ head ∷ tail
  pub begins : BeginsItem false head

net_front : (kind : NetKind) → BeginsItem false (k.Keyword (net_word kind))
net_front n.Wire = by_wire
net_front n.Reg = by_reg

parameter_front : (kind : ParameterKind) → BeginsItem false (k.Keyword (parameter_word kind))
parameter_front q.Parameter = by_parameter
parameter_front q.Localparam = by_localparam

bare : (t : Kind) (ts : List Kind) → BeginsItem false t → BareFront (t ∷ ts)
bare t ts h = record { head = t; tail = ts; same = refl; begins = h }

with_attributes : (vs : Attributes) (ts : List Kind) → BareFront ts → ItemFront (onto (spell_attributes vs) ts)
with_attributes [] ts f = record { attributed = false; head = f.head; tail = f.tail; same = f.same; begins = f.begins }
with_attributes (i ∷ vs) ts f = record {
  attributed = true;
  head = k.Symbol s.OpenAttribute;
  tail = onto (between_commas spell_attribute i.attributes) (k.Symbol s.CloseAttribute ∷ onto (spell_attributes vs) ts);
  same = refl;
  begins = by_attribute;
}

-- the tokens of an item behind its attributes
abbrev pub behind_attributes : Item → Phrase
behind_attributes (declaration attrs p d) = spell (declaration [] p d)
behind_attributes (integer attrs p xs) = spell (integer [] p xs)
behind_attributes (genvar attrs p xs) = spell (genvar [] p xs)
behind_attributes (parameter attrs p kind xs) = spell (parameter [] p kind xs)
behind_attributes (assign attrs p xs) = spell (assign [] p xs)
behind_attributes (always attrs p event x) = spell (always [] p event x)
behind_attributes (initial attrs p x) = spell (initial [] p x)
behind_attributes (instance attrs p x) = spell (instance [] p x)
behind_attributes (generate attrs p m) = spell (generate [] p m)
behind_attributes (for_loop attrs p head b) = spell (for_loop [] p head b)
behind_attributes (if_only attrs p c b) = spell (if_only [] p c b)
behind_attributes (if_else attrs p c b d) = spell (if_else [] p c b d)

pub split : (x : Item) (ts : List Kind) → onto (spell x) ts
    ≡ onto (spell_attributes (attributes_of x)) (onto (behind_attributes x) ts)
split (declaration attrs p d) ts = refl
split (integer attrs p xs) ts = refl
split (genvar attrs p xs) ts = refl
split (parameter attrs p kind xs) ts = refl
split (assign attrs p xs) ts = refl
split (always attrs p event x) ts = refl
split (initial attrs p x) ts = refl
split (instance attrs p x) ts = refl
split (generate attrs p m) ts = refl
split (for_loop attrs p head b) ts = refl
split (if_only attrs p c b) ts = refl
split (if_else attrs p c b d) ts = refl

pub bare_front : (x : Item) (ts : List Kind) → NoClose x → BareFront (onto (behind_attributes x) ts)
bare_front (declaration attrs p d) ts h = bare (k.Keyword (net_word d.net)) _ (net_front d.net)
bare_front (integer attrs p xs) ts h = bare (k.Keyword word.Integer) _ by_integer
bare_front (genvar attrs p xs) ts h = bare (k.Keyword word.Genvar) _ by_genvar
bare_front (parameter attrs p kind xs) ts h = bare (k.Keyword (parameter_word kind)) _ (parameter_front kind)
bare_front (assign attrs p xs) ts h = bare (k.Keyword word.Assign) _ by_assign
bare_front (always attrs p event x) ts h = bare (k.Keyword word.Always) _ by_always
bare_front (initial attrs p x) ts h = bare (k.Keyword word.Initial) _ by_initial
bare_front (instance attrs p x) ts h = bare (k.Name x.definition) _ (by_text x.definition)
bare_front (generate attrs p mark.Open) ts h = bare (k.Keyword word.Generate) _ by_generate
bare_front (generate attrs p mark.Close) ts h = absurd h
bare_front (for_loop attrs p head b) ts h = bare (k.Keyword word.For) _ by_for
bare_front (if_only attrs p c b) ts h = bare (k.Keyword word.If) _ by_if
bare_front (if_else attrs p c b d) ts h = bare (k.Keyword word.If) _ by_if

pub item_front : (x : Item) (ts : List Kind) → NoClose x → ItemFront (onto (spell x) ts)
item_front x ts h =
    let f = with_attributes (attributes_of x) (onto (behind_attributes x) ts) (bare_front x ts h) in
    record { attributed = f.attributed; head = f.head; tail = f.tail; same = split x ts ∙ f.same; begins = f.begins }

in_items : (ending : Ending) (b : Bool) (t : Kind) → BeginsItem b t → (xs : List Rule) (ts : List Kind)
    → accepts (g.items ending ∷ xs) (t ∷ ts) ≡ accepts (item ∷ g.items ending ∷ xs) (t ∷ ts)
in_items endmodule _ _ by_wire xs ts = refl
in_items endgenerate _ _ by_wire xs ts = refl
in_items end _ _ by_wire xs ts = refl
in_items ending b t h xs ts = refl

in_label : (b : Bool) (t : Kind) → BeginsItem b t → (xs : List Rule) (ts : List Kind)
    → accepts (generate_block_label ∷ xs) (t ∷ ts) ≡ accepts (g.items end ∷ xs) (t ∷ ts)
in_label _ _ by_wire xs ts = refl
in_label b t h xs ts = refl

in_generate_block : (t : Kind) → BeginsItem false t → (xs : List Rule) (ts : List Kind)
    → accepts (generate_block ∷ xs) (t ∷ ts) ≡ accepts (item ∷ xs) (t ∷ ts)
in_generate_block _ by_wire xs ts = refl
in_generate_block t h xs ts = refl

-- no `else` comes next
abbrev pub NoElse : List Kind → Type 0
NoElse ts = Leaves otherwise ts × Leaves generate_otherwise ts

pub no_else : (b : Bool) (t : Kind) → BeginsItem b t → (is_pop (on_otherwise t) ≡ true)
    × (is_pop (on_generate_otherwise t) ≡ true)
no_else _ _ by_wire = (refl, refl)
no_else b t h = (refl, refl)

front_leaves : (x : Item) (ts : List Kind) → NoClose x → NoElse (onto (spell x) ts)
front_leaves x ts h =
    let f = item_front x ts h in
    subst NoElse (sym f.same) (no_else f.attributed f.head f.begins)

item_leaves : (x : Item) (ts : List Kind) → NoElse (onto (spell x) ts)
item_leaves (generate [] p mark.Close) ts = (refl, refl)
item_leaves (generate (i ∷ attrs) p mark.Close) ts = (refl, refl)
item_leaves (generate attrs p mark.Open) ts = front_leaves (generate attrs p mark.Open) ts tt
item_leaves x ts = front_leaves x ts tt

ending_leaves : (ending : Ending) (ts : List Kind) → NoElse (k.Keyword (ending_word ending) ∷ ts)
ending_leaves endmodule ts = (refl, refl)
ending_leaves endgenerate ts = (refl, refl)
ending_leaves end ts = (refl, refl)

pub items_leave : (xs : Items) (ending : Ending) (ts : List Kind)
    → NoElse (onto (spell_all xs) (k.Keyword (ending_word ending) ∷ ts))
items_leave no_items ending ts = ending_leaves ending ts
items_leave (more_items x xs) ending ts = item_leaves x (onto (spell_all xs) (k.Keyword (ending_word ending) ∷ ts))

-- declarations
names_read : (d : Shape) (es : List DeclaredName) (xs : List Rule) (ts : List Kind) → IsShape d
    → AreSome IsDeclaredName es
    → accepts (shape ∷ declared_name ∷ declared_names ∷ xs)
    (onto (spell_shape d) (onto (between_commas spell_declared_name es) (k.Symbol s.Semicolon ∷ ts))) ≡ accepts xs ts
names_read d [] xs ts w v = absurd (omega (arith, v.0))
names_read d (x ∷ es) xs ts w v =
    shape_read d x.name (declared_name ∷ declared_names ∷ xs) _ w ∙ declared_names_read (x ∷ es) xs ts v

declaration_at : (kind : NetKind) (xs : List Rule) (ts : List Kind)
    → accepts (item ∷ xs) (k.Keyword (net_word kind) ∷ ts) ≡ accepts (shape ∷ declared_name ∷ declared_names ∷ xs) ts
declaration_at n.Wire xs ts = refl
declaration_at n.Reg xs ts = refl

parameter_at : (kind : ParameterKind) (xs : List Rule) (ts : List Kind)
    → accepts (item ∷ xs) (k.Keyword (parameter_word kind) ∷ ts) ≡ accepts (g.parameter ++ g.parameters ∷ xs) ts
parameter_at q.Parameter xs ts = refl
parameter_at q.Localparam xs ts = refl

genvars_read : (es : List (List ℕ)) (xs : List Rule) (ts : List Kind) → AreSome IsName es
    → accepts (name ∷ g.names ∷ xs) (onto (between_commas a_name es) (k.Symbol s.Semicolon ∷ ts)) ≡ accepts xs ts
genvars_read [] xs ts w = absurd (omega (arith, w.0))
genvars_read (x ∷ es) xs ts w =
    list_read a_name IsName g.names (name ∷ []) [] (k.Symbol s.Semicolon) (λ ys us. refl) (λ ys us. refl)
    (λ us. (refl, refl, refl, refl))
    (λ y ys us v h. refl) x es xs ts w.1

assignment_read : (x : Assignment) (xs : List Rule) (ts : List Kind) → IsAssignment x → Behind ts
    → accepts (g.assignment ++ xs) (onto (spell_assignment x) ts) ≡ accepts xs ts
assignment_read x xs ts w h =
    target_read x.target (sign s.Equal ∷ g.expr ∷ xs) (k.Symbol s.Equal ∷ onto (expr.spell x.value) ts) w.0 refl
    ∙ whole_read x.value xs ts w.1 (h.0, h.1)

assignments_read : (es : List Assignment) (xs : List Rule) (ts : List Kind) → AreSome IsAssignment es
    → accepts (g.assignment ++ g.assignments ∷ xs)
    (onto (between_commas spell_assignment es) (k.Symbol s.Semicolon ∷ ts)) ≡ accepts xs ts
assignments_read [] xs ts w = absurd (omega (arith, w.0))
assignments_read (x ∷ es) xs ts w =
    list_read spell_assignment IsAssignment g.assignments g.assignment [] (k.Symbol s.Semicolon) (λ ys us. refl)
    (λ ys us. refl)
    (λ us. (refl, refl, refl, refl)) assignment_read x es xs ts w.1

event_read : (kind : EventKind) (xs : List Rule) (ts : List Kind)
    → accepts (g.event ∷ xs) (onto (spell_event_kind kind) ts) ≡ accepts xs ts
event_read v.Bare xs ts = refl
event_read v.Spaced xs ts = refl
event_read v.OpenJoined xs ts = refl
event_read v.CloseJoined xs ts = refl
event_read (v.Posedge text) xs ts = refl

-- instances
many_symbols : (x : Rule) (row : Row Rule) (xs : List Rule)
    → symbols (row ++ (x, 0) ∷ []) ++ xs ≡ symbols row ++ (x ∷ xs)
many_symbols x [] xs = refl
many_symbols x (y ∷ row) xs = ap (λ r. y.0 ∷ r) (many_symbols x row xs)

many_move : (x : Rule) (xs : List Rule) (t : Kind) (m : Moves) → is_pop m ≡ false
    → stepped xs t (many x m) ≡ stepped (x ∷ xs) t m
many_move x xs t (take opened row) h = ap Some (many_symbols x row xs)
many_move x xs t pop h = apart (sym h)
many_move x xs t bad h = refl

in_value : (t : Kind) → Plain t → (xs : List Rule) (ts : List Kind)
    → accepts (connected_value ∷ xs) (t ∷ ts) ≡ accepts (g.expr ∷ sign s.CloseParen ∷ xs) (t ∷ ts)
in_value (k.Symbol s.CloseParen) h xs ts = absurd h
in_value (k.Symbol x) h xs ts = ap (on_step ts)
    (many_move (sign s.CloseParen) xs (k.Symbol x) (on_operand plain 0 0 (k.Symbol x)) (never_operand (k.Symbol x)))
in_value (k.Number x) h xs ts = ap (on_step ts)
    (many_move (sign s.CloseParen) xs (k.Number x) (on_operand plain 0 0 (k.Number x)) (never_operand (k.Number x)))
in_value (k.System x) h xs ts = ap (on_step ts)
    (many_move (sign s.CloseParen) xs (k.System x) (on_operand plain 0 0 (k.System x)) (never_operand (k.System x)))
in_value t h xs ts = refl

value_by : (o : Option Expr) (xs : List Rule) (ts : List Kind) → expr_well.IsValue o
    → accepts (connected_value ∷ xs) (onto (spell_optional o) (k.Symbol s.CloseParen ∷ ts)) ≡ accepts xs ts
value_by None xs ts w = refl
value_by (Some x) xs ts w =
    (let f = expr_front x (k.Symbol s.CloseParen ∷ ts) w in
    ap (λ us. accepts (connected_value ∷ xs) us) f.same ∙ in_value f.head f.fine xs f.tail
    ∙ ap (λ us. accepts (g.expr ∷ sign s.CloseParen ∷ xs) us) (sym f.same))
    ∙ whole_read x (sign s.CloseParen ∷ xs) (k.Symbol s.CloseParen ∷ ts) w (refl, refl)

connection_read : (x : Connection) (xs : List Rule) (ts : List Kind) → IsConnection x → Behind ts
    → accepts (connection ∷ xs) (onto (spell_connection x) ts) ≡ accepts xs ts
connection_read x xs ts w h = value_by x.value xs ts w.1

connections_read : (es : List Connection) (xs : List Rule) (ts : List Kind) → All IsConnection es
    → accepts (connections ∷ xs) (onto (spell_connections es) ts) ≡ accepts xs ts
connections_read [] xs ts w = refl
connections_read (x ∷ es) xs ts w =
    list_read spell_connection IsConnection more_connections (connection ∷ []) [] (k.Symbol s.CloseParen)
    (λ ys us. refl) (λ ys us. refl)
    (λ us. (refl, refl, refl, refl)) connection_read x es xs ts w

overrides_read : (o : Option (List Connection)) (text : List ℕ) (es : List Connection) (xs : List Rule) (ts : List Kind)
    → AreOverrides o → All IsConnection es
    → accepts (g.overrides ∷ xs) (onto (spell_overrides o)
    (k.Name text ∷ onto (spell_connections es) (k.Symbol s.Semicolon ∷ ts))) ≡ accepts xs ts
overrides_read None text es xs ts w v = connections_read es (sign s.Semicolon ∷ xs) (k.Symbol s.Semicolon ∷ ts) v
overrides_read (Some os) text es xs ts w v =
    connections_read os (name ∷ connections ∷ sign s.Semicolon ∷ xs)
    (k.Name text ∷ onto (spell_connections es) (k.Symbol s.Semicolon ∷ ts)) w
    ∙ connections_read es (sign s.Semicolon ∷ xs) (k.Symbol s.Semicolon ∷ ts) v

-- heads of loops
again : (text wanted : List ℕ) (xs : List Rule) (ts : List Kind) → text ≡ wanted
    → accepts (this_name wanted ∷ xs) (k.Name text ∷ ts) ≡ accepts xs ts
again text wanted xs ts h =
    steps.took expand ends (this_name wanted) xs (k.Name text) ts 0 [] (ap take_if ((bytes_eq-Decides text wanted).1 h))

head_read : (x : LoopHead) (xs : List Rule) (ts : List Kind) → IsHead x
    → accepts (g.loop_head ∷ xs) (onto (spell_head x) ts) ≡ accepts xs ts
unfolding spell_head
head_read x xs ts w =
    whole_read x.start (sign s.Semicolon ∷ g.expr ∷ sign s.Semicolon ∷ this_name x.variable ∷ sign s.Equal ∷ g.expr
    ∷ sign s.CloseParen ∷ xs)
    (k.Symbol s.Semicolon ∷ onto (expr.spell x.condition)
    (k.Symbol s.Semicolon ∷ k.Name x.next_variable ∷ k.Symbol s.Equal
    ∷ onto (expr.spell x.next) (k.Symbol s.CloseParen ∷ ts))) w.2 (refl, refl)
    ∙ whole_read x.condition (sign s.Semicolon ∷ this_name x.variable ∷ sign s.Equal ∷ g.expr ∷ sign s.CloseParen ∷ xs)
    (k.Symbol s.Semicolon ∷ k.Name x.next_variable ∷ k.Symbol s.Equal
    ∷ onto (expr.spell x.next) (k.Symbol s.CloseParen ∷ ts)) w.3 (refl, refl)
    ∙ again x.next_variable x.variable (sign s.Equal ∷ g.expr ∷ sign s.CloseParen ∷ xs)
    (k.Symbol s.Equal ∷ onto (expr.spell x.next) (k.Symbol s.CloseParen ∷ ts)) w.1
    ∙ whole_read x.next (sign s.CloseParen ∷ xs) (k.Symbol s.CloseParen ∷ ts) w.4 (refl, refl)

as_items : (xs : List Rule) (x : Items) (ts : List Kind) → AreBalanced x
    → accepts (generate_block_label ∷ xs) (onto (spell_all x) (k.Keyword word.End ∷ ts))
    ≡ accepts (g.items end ∷ xs) (onto (spell_all x) (k.Keyword word.End ∷ ts))
as_items xs no_items ts h = refl
as_items xs (more_items x zs) ts h =
    (let f = item_front x (onto (spell_all zs) (k.Keyword word.End ∷ ts)) (first_opens x zs h) in
    ap (λ us. accepts (generate_block_label ∷ xs) us) f.same ∙ in_label f.attributed f.head f.begins xs f.tail
    ∙ ap (λ us. accepts (g.items end ∷ xs) us) (sym f.same))

label_read : (label : Option (List ℕ)) (x : Items) (xs : List Rule) (ts : List Kind) → AreBalanced x
    → accepts (generate_block_label ∷ xs) (onto (spell_label label) (onto (spell_all x) (k.Keyword word.End ∷ ts)))
    ≡ accepts (g.items end ∷ xs) (onto (spell_all x) (k.Keyword word.End ∷ ts))
label_read None x xs ts h = as_items xs x ts h
label_read (Some text) x xs ts h = refl

in_list : (ending : Ending) (x : Item) (xs : List Rule) (ts : List Kind) → NoClose x
    → accepts (g.items ending ∷ xs) (onto (spell x) ts) ≡ accepts (item ∷ g.items ending ∷ xs) (onto (spell x) ts)
in_list ending x xs ts h =
    (let f = item_front x ts h in
    ap (λ us. accepts (g.items ending ∷ xs) us) f.same ∙ in_items ending f.attributed f.head f.begins xs f.tail
    ∙ ap (λ us. accepts (item ∷ g.items ending ∷ xs) us) (sym f.same))

-- an item without attributes is a block
as_block : (x : Item) (xs : List Rule) (ts : List Kind) → NoClose x → attributes_of x ≡ []
    → accepts (generate_block ∷ xs) (onto (spell x) ts) ≡ accepts (item ∷ xs) (onto (spell x) ts)
as_block x xs ts c h =
    (let f = bare_front x ts c in
    let same : onto (spell x) ts ≡ f.head ∷ f.tail =
    split x ts ∙ ap (λ vs. onto (spell_attributes vs) (onto (behind_attributes x) ts)) h ∙ f.same in
    ap (λ us. accepts (generate_block ∷ xs) us) same ∙ in_generate_block f.head f.begins xs f.tail
    ∙ ap (λ us. accepts (item ∷ xs) us) (sym same))

read_ending : (ending : Ending) (xs : List Rule) (ts : List Kind)
    → accepts (g.items ending ∷ xs) (k.Keyword (ending_word ending) ∷ ts) ≡ accepts xs ts
read_ending endmodule xs ts = refl
read_ending endgenerate xs ts = refl
read_ending end xs ts = refl

-- what the list ends with that is read, where so many regions are open in a list with the ending
abbrev pub current : ℕ → Ending → Ending
current zero ending = ending
current (suc n) ending = endgenerate

-- and what is to come behind it
abbrev around : ℕ → Ending → List Rule → List Rule
around zero ending xs = xs
around (suc n) ending xs = g.items (current n ending) ∷ around n ending xs

-- what an item leaves open
abbrev opened_by : Item → List Rule → List Rule
opened_by (generate attrs p mark.Open) xs = g.items endgenerate ∷ xs
opened_by x xs = xs

opened_none : (x : Item) (xs : List Rule) → mark_of x ≡ None → opened_by x xs ≡ xs
opened_none (generate attrs p m) xs h = some_none m h
opened_none x xs h = refl

mutual
  item_reads : (x : Item) (xs : List Rule) (ts : List Kind) → NoClose x → IsWellFormed x
      → (ends_open x ≡ true → NoElse ts)
      → accepts (item ∷ xs) (onto (spell x) ts) ≡ accepts (opened_by x xs) ts
  item_reads (declaration attrs p d) xs ts z w o =
      attributes_read item refl attrs xs _ w.0
      ∙ declaration_at d.net xs (onto (spell_shape d.shape)
      (onto (between_commas spell_declared_name d.names) (k.Symbol s.Semicolon ∷ ts)))
      ∙ names_read d.shape d.names xs ts w.1.0 w.1.1
  item_reads (integer attrs p es) xs ts z w o =
      attributes_read item refl attrs xs _ w.0 ∙ declared_names_read es xs ts w.1
  item_reads (genvar attrs p es) xs ts z w o = attributes_read item refl attrs xs _ w.0 ∙ genvars_read es xs ts w.1
  item_reads (parameter attrs p kind es) xs ts z w o =
      attributes_read item refl attrs xs _ w.0
      ∙ parameter_at kind xs (onto (between_commas spell_parameter es) (k.Symbol s.Semicolon ∷ ts))
      ∙ parameters_read es xs ts w.1
  item_reads (assign attrs p es) xs ts z w o = attributes_read item refl attrs xs _ w.0 ∙ assignments_read es xs ts w.1
  item_reads (always attrs p event x) xs ts z w o =
      attributes_read item refl attrs xs _ w.0 ∙ event_read event.kind (stmt ∷ xs) (onto (stmt_spelling.spell x) ts)
      ∙ stmt_reads x xs ts w.2 (λ e. (o e).0)
  item_reads (initial attrs p x) xs ts z w o = attributes_read item refl attrs xs _ w.0 ∙ initial_reads x xs ts w.1 w.2
  item_reads (instance attrs p x) xs ts z w o =
      attributes_read item refl attrs xs _ w.0 ∙ overrides_read x.overrides x.name x.connections xs ts w.1.1 w.1.3
  item_reads (generate attrs p mark.Open) xs ts z w o = attributes_read item refl attrs xs _ w.0
  item_reads (generate attrs p mark.Close) xs ts z w o = absurd z
  item_reads (for_loop attrs p head b) xs ts z w o =
      attributes_read item refl attrs xs _ w.0 ∙ head_read head (generate_block ∷ xs) (onto (spell_block b) ts) w.1
      ∙ block_reads b xs ts w.2 o
  item_reads (if_only attrs p c b) xs ts z w o =
      attributes_read item refl attrs xs _ w.0
      ∙ parens_read c (generate_block ∷ generate_otherwise ∷ xs) (onto (spell_block b) ts) w.1
      ∙ block_reads b (generate_otherwise ∷ xs) ts w.2 (λ e. o refl) ∙ leaves generate_otherwise xs ts (o refl).1
  item_reads (if_else attrs p c b d) xs ts z w o =
      attributes_read item refl attrs xs _ w.0
      ∙ parens_read c (generate_block ∷ generate_otherwise ∷ xs)
      (onto (spell_block b) (k.Keyword word.Else ∷ onto (spell_block d) ts)) w.1
      ∙ block_reads b (generate_otherwise ∷ xs) (k.Keyword word.Else ∷ onto (spell_block d) ts) w.3
      (λ e. apart (sym w.2 ∙ e))
      ∙ block_reads d xs ts w.4 o

  -- the items of a list in which so many regions are open
  items_reads : (x : Items) (n : ℕ) (ending : Ending) (xs : List Rule) (ts : List Kind)
      → open_behind x (Some n) ≡ Some 0 → AreWellFormed x
      → accepts (g.items (current n ending) ∷ around n ending xs)
      (onto (spell_all x) (k.Keyword (ending_word ending) ∷ ts)) ≡ accepts xs ts
  items_reads no_items zero ending xs ts h w = read_ending ending xs ts
  items_reads no_items (suc n) ending xs ts h w = no_open n h
  items_reads (more_items (generate attrs p mark.Open) zs) n ending xs ts h w =
      in_list (current n ending) (generate attrs p mark.Open) (around n ending xs)
      (onto (spell_all zs) (k.Keyword (ending_word ending) ∷ ts)) tt
      ∙ item_reads (generate attrs p mark.Open) (g.items (current n ending) ∷ around n ending xs)
      (onto (spell_all zs) (k.Keyword (ending_word ending) ∷ ts))
      tt w.0 (λ e. items_leave zs ending ts)
      ∙ items_reads zs (suc n) ending xs ts h w.1
  items_reads (more_items (generate attrs p mark.Close) zs) zero ending xs ts h w = never zs 0 h
  items_reads (more_items (generate attrs p mark.Close) zs) (suc n) ending xs ts h w =
      (λ i. accepts (g.items endgenerate ∷ around (suc n) ending xs)
      (onto (spell (generate (w.0.1 i) p mark.Close)) (onto (spell_all zs) (k.Keyword (ending_word ending) ∷ ts))))
      ∙ items_reads zs n ending xs ts h w.1
  items_reads (more_items x zs) n ending xs ts h w =
      in_list (current n ending) x (around n ending xs) (onto (spell_all zs) (k.Keyword (ending_word ending) ∷ ts)) tt
      ∙ item_reads x (g.items (current n ending) ∷ around n ending xs)
      (onto (spell_all zs) (k.Keyword (ending_word ending) ∷ ts)) tt w.0
      (λ e. items_leave zs ending ts)
      ∙ items_reads zs n ending xs ts h w.1

  block_reads : (b : Block) (xs : List Rule) (ts : List Kind) → IsBlock b → (block_ends_open b ≡ true → NoElse ts)
      → accepts (generate_block ∷ xs) (onto (spell_block b) ts) ≡ accepts xs ts
  block_reads (begin p label x) xs ts w o = label_read label x xs ts w.1 ∙ items_reads x 0 end xs ts w.1 w.2
  block_reads (region p x) xs ts w o = items_reads x 0 endgenerate xs ts w.0 w.1
  block_reads (single x) xs ts w o = as_block x xs ts (no_mark x w.1) w.0 ∙ item_reads x xs ts (no_mark x w.1) w.2 o
      ∙ ap (λ ys. accepts ys ts) (opened_none x xs w.1)

pub items_read : (x : Items) (ending : Ending) (xs : List Rule) (ts : List Kind) → AreBalanced x → AreWellFormed x
    → accepts (g.items ending ∷ xs) (onto (spell_all x) (k.Keyword (ending_word ending) ∷ ts)) ≡ accepts xs ts
items_read x ending xs ts h w = items_reads x 0 ending xs ts h w
