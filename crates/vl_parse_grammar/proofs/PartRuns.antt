-- Runs over well formed items are cut off where a construct too many opens.
use Rattle.std.proofs.Common.{◌≡◌, ℕ, Bool, false, List, [], ◌∷◌, ◌++◌, Option, Some, None, refl, sym, ap, ◌∙◌, arith}
use Rattle.std.specs.Prelude.{All}
use Rattle.std.proofs.lemmas.Slice.Eq.{bytes_eq-Decides}
use Rattle.fv_text.specs.declared.keyword.Keyword.TheVariants as word
use Rattle.fv_text.specs.declared.kind.Kind.{Kind}
use Rattle.fv_text.specs.declared.kind.Kind.TheVariants as k
use Rattle.fv_text.specs.declared.symbol.Symbol.TheVariants as s
use Rattle.vl_tree.specs.declared.declaration.DeclaredName.{DeclaredName}
use Rattle.vl_tree.specs.declared.declaration.NetKind.{NetKind}
use Rattle.vl_tree.specs.declared.declaration.NetKind.TheVariants as n
use Rattle.vl_tree.specs.declared.declaration.ParameterKind.{ParameterKind}
use Rattle.vl_tree.specs.declared.declaration.ParameterKind.TheVariants as q
use Rattle.vl_tree.specs.declared.declaration.Shape.{Shape}
use Rattle.vl_tree.specs.declared.part.Assignment.{Assignment}
use Rattle.vl_tree.specs.declared.part.Connection.{Connection}
use Rattle.vl_tree.specs.declared.part.EventKind.{EventKind}
use Rattle.vl_tree.specs.declared.part.EventKind.TheVariants as v
use Rattle.vl_tree.specs.declared.part.LoopHead.{LoopHead}
use Rattle.vl_tree.specs.DeclarationSpelling.{spell_attributes, spell_shape, spell_declared_name, spell_parameter}
use Rattle.vl_tree.specs.DeclarationSpelling.{net_word, parameter_word}
use Rattle.vl_tree.specs.DeclarationWellFormed.{AreSome, IsDeclaredName, IsShape}
use Rattle.vl_tree.specs.Expr.{Expr}
use Rattle.vl_tree.specs.ExprSpelling as expr
use Rattle.vl_tree.specs.ExprWellFormed as expr_well
use Rattle.vl_tree.specs.ExprWellFormed.{IsName}
use Rattle.vl_tree.specs.Item.{
  Item,
  Items,
  Block,
  declaration,
  integer,
  genvar,
  parameter,
  assign,
  always,
  initial,
  instance,
  generate,
  for_loop,
  if_only,
  if_else,
  no_items,
  more_items,
  begin,
  region,
  single,
}
use Rattle.vl_tree.specs.ItemSpelling.{spell_step, spell, spell_all, spell_block, spell_head, spell_assignment}
use Rattle.vl_tree.specs.ItemSpelling.{spell_event_kind, spell_optional, spell_connection, spell_connections}
use Rattle.vl_tree.specs.ItemSpelling.{spell_overrides}
use Rattle.vl_tree.specs.Lval.{Lval, named, joined, no_lvals, more_lvals}
use Rattle.vl_tree.specs.LvalSpelling as lval
use Rattle.vl_tree.specs.LvalWellFormed as lval_well
use Rattle.vl_tree.specs.Phrase.{Phrase, ◌▸◌, at, level, within, parens, a_name, between_commas, with_commas}
use Rattle.vl_tree.specs.Phrase as phrase
use Rattle.vl_tree.specs.Stmt as stmt_tree
use Rattle.vl_tree.specs.Stmt.{Stmt, Stmts, no_stmts, more_stmts}
use Rattle.vl_tree.specs.StmtSpelling as stmt_spelling
use Rattle.vl_tree.specs.StmtSpelling.{spell_label}
use Rattle.vl_tree.specs.StmtWellFormed as stmt_well
use Rattle.vl_tree.specs.WellFormed.{IsAssignment, IsConnection, AreOverrides, IsHead, attributes_of, AreBalanced}
use Rattle.vl_parse_grammar.specs.Machine.{Row, take, pop, bad, fits, left, placed, taken}
use Rattle.vl_parse_grammar.specs.Grammar as g
use Rattle.vl_parse_grammar.specs.Grammar.{
  Rule,
  Moves,
  Ending,
  endmodule,
  endgenerate,
  end,
  plain,
  selects,
  sign,
  name,
  stmt,
  otherwise,
  shape,
  declared_name,
  declared_names,
  initial_stmt,
  initial_stmts,
  target,
  targets,
  item,
  generate_block,
  generate_block_label,
  generate_otherwise,
  connections,
  connection,
  first_connection,
  more_connections,
  connected,
  connected_value,
  this_name,
  accepts,
  expand,
  ends,
  many,
  take_if,
  on_operand,
  on_otherwise,
  on_generate_otherwise,
}
use Rattle.vl_parse_grammar.proofs.Onto.{onto}
use Rattle.vl_parse_grammar.proofs.Regions.{NoClose, first_opens}
use Rattle.vl_parse_grammar.proofs.Steps.{is_pop, apart}
use Rattle.vl_parse_grammar.proofs.Words.{ending_word}
use Rattle.vl_parse_grammar.proofs.DeclarationReads.{Behind, behind_target}
use Rattle.vl_parse_grammar.proofs.StmtReads.{Plain, expr_front, never_operand}
use Rattle.vl_parse_grammar.proofs.ItemReads.{BeginsInitial, by_begin, by_name, by_brace, initial_front, BeginsItem}
use Rattle.vl_parse_grammar.proofs.ItemReads.{by_wire, behind_attributes, split, bare_front, item_front}
use Rattle.vl_parse_grammar.proofs.Measured.{Ran, run, open_after, measured, opened_run, took_run, shifted, moved}
use Rattle.vl_parse_grammar.proofs.Measured.{on_step}
use Rattle.vl_parse_grammar.proofs.ExprRuns.{selects_run, whole_run}
use Rattle.vl_parse_grammar.proofs.DeclarationRuns.{behind, list_run, attributes_closed, target_run, targets_run}
use Rattle.vl_parse_grammar.proofs.DeclarationRuns.{target_closed, shape_run, shape_closed, declared_closed}
use Rattle.vl_parse_grammar.proofs.DeclarationRuns.{declared_names_run, parameter_row, parameter_closed}
use Rattle.vl_parse_grammar.proofs.StmtRuns.{stmt_closed}

in_initial_stmts : (t : Kind) → BeginsInitial t → (room : ℕ) (xs : Row Rule) (ts : List Kind)
    → run ((initial_stmts, room) ∷ xs) (t ∷ ts) ≡ run ((initial_stmt, room) ∷ (initial_stmts, room) ∷ xs) (t ∷ ts)
in_initial_stmts _ by_begin room xs ts = refl
in_initial_stmts _ (by_name text) room xs ts = refl
in_initial_stmts _ by_brace room xs ts = refl

initial_target : (l : Lval) (room : ℕ) (xs : Row Rule) (ts : List Kind) → lval_well.IsWellFormed l
    → run ((initial_stmt, room) ∷ xs) (onto (lval.spell l) (k.Symbol s.Equal ∷ ts))
    ≡ measured (lval.spell l) room 0 (k.Symbol s.Equal ∷ ts) (run ((g.expr, room) ∷ (sign s.Semicolon, room) ∷ xs) ts)
initial_target (named p text ss) room xs ts w =
    selects_run ss room ((sign s.Equal, room) ∷ (g.expr, room) ∷ (sign s.Semicolon, room) ∷ xs)
    (k.Symbol s.Equal ∷ ts) w.1
initial_target (joined p no_lvals) room xs ts w = absurd w.0
initial_target (joined p (more_lvals l ls)) room xs ts w =
    opened_run 1 room ((target, left 1 room) ∷ (targets, left 1 room) ∷ (sign s.Equal, room) ∷ (g.expr, room)
    ∷ (sign s.Semicolon, room) ∷ xs)
    (onto (lval.spell l) (onto (lval.spell_more ls) (k.Symbol s.CloseBrace ∷ k.Symbol s.Equal ∷ ts)))
    (measured (lval.spell_parts (more_lvals l ls)) room 1 (k.Symbol s.CloseBrace ∷ k.Symbol s.Equal ∷ ts)
    (run ((g.expr, room) ∷ (sign s.Semicolon, room) ∷ xs) ts))
    (λ e. target_run l (left 1 room) ((targets, left 1 room) ∷ (sign s.Equal, room) ∷ (g.expr, room)
    ∷ (sign s.Semicolon, room) ∷ xs)
    (onto (lval.spell_more ls) (k.Symbol s.CloseBrace ∷ k.Symbol s.Equal ∷ ts)) w.1.0
    (behind_target ls (k.Symbol s.Equal ∷ ts))
    ∙ ap (measured (lval.spell l) (left 1 room) 0
    (onto (lval.spell_more ls) (k.Symbol s.CloseBrace ∷ k.Symbol s.Equal ∷ ts)))
    (targets_run ls (left 1 room) ((sign s.Equal, room) ∷ (g.expr, room) ∷ (sign s.Semicolon, room) ∷ xs)
    (k.Symbol s.Equal ∷ ts) w.1.1)
    ∙ behind (lval.spell l) (lval.spell_more ls) (left 1 room) (k.Symbol s.CloseBrace ∷ k.Symbol s.Equal ∷ ts)
    (run ((g.expr, room) ∷ (sign s.Semicolon, room) ∷ xs) ts) (target_closed l 0)
    ∙ shifted (lval.spell_parts (more_lvals l ls)) 1 room (k.Symbol s.CloseBrace ∷ k.Symbol s.Equal ∷ ts)
    (run ((g.expr, room) ∷ (sign s.Semicolon, room) ∷ xs) ts) e)

mutual
  pub initial_runs : (x : Stmt) (room : ℕ) (xs : Row Rule) (ts : List Kind) → stmt_well.IsInitial x
      → stmt_well.IsWellFormed x
      → run ((initial_stmt, room) ∷ xs) (onto (stmt_spelling.spell x) ts)
      ≡ measured (stmt_spelling.spell x) room 0 ts (run xs ts)
  initial_runs (stmt_tree.begin attrs p label x) room xs ts i w =
      (λ j. run ((initial_stmt, room) ∷ xs) (onto (stmt_spelling.spell (stmt_tree.begin (i.0 j) p (i.1 j) x)) ts))
      ∙ opened_run 1 room ((initial_stmts, left 1 room) ∷ xs)
      (onto (stmt_spelling.spell_all x) (k.Keyword word.End ∷ ts))
      (measured (stmt_spelling.spell_all x) room 1 (k.Keyword word.End ∷ ts) (run xs ts))
      (λ e. initial_all x (left 1 room) xs ts i.2 w.2
      ∙ shifted (stmt_spelling.spell_all x) 1 room (k.Keyword word.End ∷ ts) (run xs ts) e)
      ∙ (λ j. measured (stmt_spelling.spell (stmt_tree.begin (sym i.0 j) p (sym i.1 j) x)) room 0 ts (run xs ts))
  initial_runs (stmt_tree.assign attrs p l kind x) room xs ts i w =
      (λ j. run ((initial_stmt, room) ∷ xs) (onto (stmt_spelling.spell (stmt_tree.assign (i.0 j) p l (i.1 j) x)) ts))
      ∙ initial_target l room xs (onto (expr.spell x) (k.Symbol s.Semicolon ∷ ts)) w.1
      ∙ ap (measured (lval.spell l) room 0 (k.Symbol s.Equal ∷ onto (expr.spell x) (k.Symbol s.Semicolon ∷ ts)))
      (whole_run x room ((sign s.Semicolon, room) ∷ xs) (k.Symbol s.Semicolon ∷ ts) w.2 (refl, refl))
      ∙ behind (lval.spell l) (phrase.sign s.Equal ▸ level (expr.spell x) ▸ phrase.sign s.Semicolon) room ts
      (run xs ts) (target_closed l 0)
      ∙ (λ j. measured (stmt_spelling.spell (stmt_tree.assign (sym i.0 j) p l (sym i.1 j) x)) room 0 ts (run xs ts))
  initial_runs (stmt_tree.if_only attrs p x y) room xs ts i w = absurd i
  initial_runs (stmt_tree.if_else attrs p x y z) room xs ts i w = absurd i
  initial_runs (stmt_tree.case attrs p kind x zs) room xs ts i w = absurd i
  initial_runs (stmt_tree.assume attrs p x) room xs ts i w = absurd i
  initial_runs (stmt_tree.empty attrs p) room xs ts i w = absurd i

  initial_all : (x : Stmts) (room : ℕ) (xs : Row Rule) (ts : List Kind) → stmt_well.AreInitial x
      → stmt_well.AreWellFormed x
      → run ((initial_stmts, room) ∷ xs) (onto (stmt_spelling.spell_all x) (k.Keyword word.End ∷ ts))
      ≡ measured (stmt_spelling.spell_all x) room 0 (k.Keyword word.End ∷ ts) (run xs ts)
  initial_all no_stmts room xs ts i w = refl
  initial_all (more_stmts x zs) room xs ts i w =
      (let f = initial_front x (onto (stmt_spelling.spell_all zs) (k.Keyword word.End ∷ ts)) i.0 in
      ap (λ us. run ((initial_stmts, room) ∷ xs) us) f.same ∙ in_initial_stmts f.head f.begins room xs f.tail
      ∙ ap (λ us. run ((initial_stmt, room) ∷ (initial_stmts, room) ∷ xs) us) (sym f.same))
      ∙ initial_runs x room ((initial_stmts, room) ∷ xs)
      (onto (stmt_spelling.spell_all zs) (k.Keyword word.End ∷ ts)) i.0 w.0
      ∙ ap (measured (stmt_spelling.spell x) room 0 (onto (stmt_spelling.spell_all zs) (k.Keyword word.End ∷ ts)))
      (initial_all zs room xs ts i.1 w.1)
      ∙ behind (stmt_spelling.spell x) (stmt_spelling.spell_all zs) room (k.Keyword word.End ∷ ts) (run xs ts)
      (stmt_closed x 0)

in_items : (ending : Ending) (b : Bool) (t : Kind) → BeginsItem b t → (room : ℕ) (xs : Row Rule) (ts : List Kind)
    → run ((g.items ending, room) ∷ xs) (t ∷ ts) ≡ run ((item, room) ∷ (g.items ending, room) ∷ xs) (t ∷ ts)
in_items endmodule _ _ by_wire room xs ts = refl
in_items endgenerate _ _ by_wire room xs ts = refl
in_items end _ _ by_wire room xs ts = refl
in_items ending b t h room xs ts = refl

in_label : (b : Bool) (t : Kind) → BeginsItem b t → (room : ℕ) (xs : Row Rule) (ts : List Kind)
    → run ((generate_block_label, room) ∷ xs) (t ∷ ts) ≡ run ((g.items end, room) ∷ xs) (t ∷ ts)
in_label _ _ by_wire room xs ts = refl
in_label b t h room xs ts = refl

in_generate_block : (t : Kind) → BeginsItem false t → (room : ℕ) (xs : Row Rule) (ts : List Kind)
    → run ((generate_block, room) ∷ xs) (t ∷ ts) ≡ run ((item, room) ∷ xs) (t ∷ ts)
in_generate_block _ by_wire room xs ts = refl
in_generate_block t h room xs ts = refl

-- lists
commas_closed : {A : Type 0} (one : A → Phrase) → ((x : A) (n : ℕ) → open_after (one x) n ≡ n) → (vs : List A) (n : ℕ)
    → open_after (with_commas one vs) n ≡ n
commas_closed one h [] n = refl
commas_closed one h (x ∷ vs) n = ap (open_after (with_commas one vs)) (h x n) ∙ commas_closed one h vs n

list_closed : {A : Type 0} (one : A → Phrase) → ((x : A) (n : ℕ) → open_after (one x) n ≡ n) → (vs : List A) (n : ℕ)
    → open_after (between_commas one vs) n ≡ n
list_closed one h [] n = refl
list_closed one h (x ∷ vs) n = ap (open_after (with_commas one vs)) (h x n) ∙ commas_closed one h vs n

assignment_closed : (x : Assignment) (n : ℕ) → open_after (spell_assignment x) n ≡ n
assignment_closed x n = target_closed x.target n

pub names_run : (d : Shape) (es : List DeclaredName) (room : ℕ) (xs : Row Rule) (ts : List Kind) → IsShape d
    → AreSome IsDeclaredName es
    → run ((shape, room) ∷ (declared_name, room) ∷ (declared_names, room) ∷ xs)
    (onto (spell_shape d) (onto (between_commas spell_declared_name es) (k.Symbol s.Semicolon ∷ ts)))
    ≡ measured (spell_shape d ▸ between_commas spell_declared_name es ▸ phrase.sign s.Semicolon) room 0 ts (run xs ts)
names_run d [] room xs ts w v = absurd (omega (arith, v.0))
names_run d (x ∷ es) room xs ts w v =
    shape_run d x.name room ((declared_name, room) ∷ (declared_names, room) ∷ xs) _ w
    ∙ ap (measured (spell_shape d) room 0 (onto (between_commas spell_declared_name (x ∷ es))
    (k.Symbol s.Semicolon ∷ ts)))
    (declared_names_run (x ∷ es) room xs ts v)
    ∙ behind (spell_shape d) (between_commas spell_declared_name (x ∷ es) ▸ phrase.sign s.Semicolon) room ts
    (run xs ts) (shape_closed d 0)

pub declaration_at : (kind : NetKind) (room : ℕ) (xs : Row Rule) (ts : List Kind)
    → run ((item, room) ∷ xs) (k.Keyword (net_word kind) ∷ ts)
    ≡ run ((shape, room) ∷ (declared_name, room) ∷ (declared_names, room) ∷ xs) ts
declaration_at n.Wire room xs ts = refl
declaration_at n.Reg room xs ts = refl

pub parameter_at : (kind : ParameterKind) (room : ℕ) (xs : Row Rule) (ts : List Kind)
    → run ((item, room) ∷ xs) (k.Keyword (parameter_word kind) ∷ ts)
    ≡ run (parameter_row room ((g.parameters, room) ∷ xs)) ts
parameter_at q.Parameter room xs ts = refl
parameter_at q.Localparam room xs ts = refl

pub genvars_run : (es : List (List ℕ)) (room : ℕ) (xs : Row Rule) (ts : List Kind) → AreSome IsName es
    → run ((name, room) ∷ (g.names, room) ∷ xs) (onto (between_commas a_name es) (k.Symbol s.Semicolon ∷ ts))
    ≡ measured (between_commas a_name es) room 0 (k.Symbol s.Semicolon ∷ ts) (run xs ts)
genvars_run [] room xs ts w = absurd (omega (arith, w.0))
genvars_run (x ∷ es) room xs ts w =
    list_run a_name IsName g.names (λ m ys. (name, m) ∷ ys) (λ m ys. ys) (k.Symbol s.Semicolon) (λ m ys us. refl)
    (λ m ys us. refl)
    (λ us. (refl, refl, refl, refl)) (λ y m. refl) (λ y m ys us v h. refl) x es room xs ts w.1

abbrev pub assignment_row : ℕ → Row Rule → Row Rule
assignment_row m ys = (target, m) ∷ (sign s.Equal, m) ∷ (g.expr, m) ∷ ys

assignment_run : (x : Assignment) (room : ℕ) (xs : Row Rule) (ts : List Kind) → IsAssignment x → Behind ts
    → run (assignment_row room xs) (onto (spell_assignment x) ts) ≡ measured (spell_assignment x) room 0 ts (run xs ts)
assignment_run x room xs ts w h =
    target_run x.target room ((sign s.Equal, room) ∷ (g.expr, room) ∷ xs)
    (k.Symbol s.Equal ∷ onto (expr.spell x.value) ts) w.0 refl
    ∙ ap (measured (lval.spell x.target) room 0 (k.Symbol s.Equal ∷ onto (expr.spell x.value) ts))
    (whole_run x.value room xs ts w.1 (h.0, h.1))
    ∙ behind (lval.spell x.target) (phrase.sign s.Equal ▸ level (expr.spell x.value)) room ts (run xs ts)
    (target_closed x.target 0)

pub assignments_run : (es : List Assignment) (room : ℕ) (xs : Row Rule) (ts : List Kind) → AreSome IsAssignment es
    → run (assignment_row room ((g.assignments, room) ∷ xs))
    (onto (between_commas spell_assignment es) (k.Symbol s.Semicolon ∷ ts))
    ≡ measured (between_commas spell_assignment es) room 0 (k.Symbol s.Semicolon ∷ ts) (run xs ts)
assignments_run [] room xs ts w = absurd (omega (arith, w.0))
assignments_run (x ∷ es) room xs ts w =
    list_run spell_assignment IsAssignment g.assignments assignment_row (λ m ys. ys) (k.Symbol s.Semicolon)
    (λ m ys us. refl) (λ m ys us. refl)
    (λ us. (refl, refl, refl, refl)) assignment_closed assignment_run x es room xs ts w.1

pub event_run : (kind : EventKind) (room : ℕ) (xs : Row Rule) (ts : List Kind)
    → run ((g.event, room) ∷ xs) (onto (spell_event_kind kind) ts)
    ≡ measured (spell_event_kind kind) room 0 ts (run xs ts)
event_run v.Bare room xs ts = refl
event_run v.Spaced room xs ts =
    opened_run 1 room ((g.event_inside, left 1 room) ∷ xs) (k.Symbol s.Star ∷ k.Symbol s.CloseParen ∷ ts) (run xs ts)
    (λ e. refl)
event_run v.OpenJoined room xs ts =
    opened_run 1 room ((sign s.CloseParen, room) ∷ xs) (k.Symbol s.CloseParen ∷ ts) (run xs ts) (λ e. refl)
event_run v.CloseJoined room xs ts =
    opened_run 1 room ((g.event_inside, left 1 room) ∷ xs) (k.Symbol s.CloseAttribute ∷ ts) (run xs ts) (λ e. refl)
event_run (v.Posedge text) room xs ts =
    opened_run 1 room ((g.event_inside, left 1 room) ∷ xs)
    (k.Keyword word.Posedge ∷ k.Name text ∷ k.Symbol s.CloseParen ∷ ts) (run xs ts) (λ e. refl)

pub event_closed : (kind : EventKind) (m : ℕ) → open_after (spell_event_kind kind) m ≡ m
event_closed v.Bare m = refl
event_closed v.Spaced m = refl
event_closed v.OpenJoined m = refl
event_closed v.CloseJoined m = refl
event_closed (v.Posedge text) m = refl

-- instances
many_placed : (x : Rule) (room : ℕ) (row xs : Row Rule)
    → placed room (row ++ (x, 0) ∷ []) xs ≡ placed room row ((x, room) ∷ xs)
many_placed x room [] xs = refl
many_placed x room (y ∷ row) xs = ap (λ r. (y.0, left y.1 room) ∷ r) (many_placed x room row xs)

many_run : (x : Rule) (room : ℕ) (xs : Row Rule) (t : Kind) (ts : List Kind) (m : Moves) → is_pop m ≡ false
    → on_step ts (moved xs room t (many x m)) ≡ on_step ts (moved ((x, room) ∷ xs) room t m)
many_run x room xs t ts (take opened row) h =
    ap (λ j. on_step ts (taken (fits opened room) j)) (many_placed x room row xs)
many_run x room xs t ts pop h = apart (sym h)
many_run x room xs t ts bad h = refl

in_value : (t : Kind) → Plain t → (room : ℕ) (xs : Row Rule) (ts : List Kind)
    → run ((connected_value, room) ∷ xs) (t ∷ ts) ≡ run ((g.expr, room) ∷ (sign s.CloseParen, room) ∷ xs) (t ∷ ts)
in_value (k.Symbol s.CloseParen) h room xs ts = absurd h
in_value (k.Symbol x) h room xs ts = many_run (sign s.CloseParen) room xs (k.Symbol x) ts
    (on_operand plain 0 0 (k.Symbol x)) (never_operand (k.Symbol x))
in_value (k.Number x) h room xs ts = many_run (sign s.CloseParen) room xs (k.Number x) ts
    (on_operand plain 0 0 (k.Number x)) (never_operand (k.Number x))
in_value (k.System x) h room xs ts = many_run (sign s.CloseParen) room xs (k.System x) ts
    (on_operand plain 0 0 (k.System x)) (never_operand (k.System x))
in_value t h room xs ts = refl

value_by : (o : Option Expr) (room : ℕ) (xs : Row Rule) (ts : List Kind) → expr_well.IsValue o
    → run ((connected_value, room) ∷ xs) (onto (spell_optional o) (k.Symbol s.CloseParen ∷ ts))
    ≡ measured (spell_optional o) room 0 (k.Symbol s.CloseParen ∷ ts) (run xs ts)
value_by None room xs ts w = refl
value_by (Some x) room xs ts w =
    (let f = expr_front x (k.Symbol s.CloseParen ∷ ts) w in
    ap (λ us. run ((connected_value, room) ∷ xs) us) f.same ∙ in_value f.head f.fine room xs f.tail
    ∙ ap (λ us. run ((g.expr, room) ∷ (sign s.CloseParen, room) ∷ xs) us) (sym f.same))
    ∙ whole_run x room ((sign s.CloseParen, room) ∷ xs) (k.Symbol s.CloseParen ∷ ts) w (refl, refl)

connection_run : (x : Connection) (room : ℕ) (xs : Row Rule) (ts : List Kind) → IsConnection x → Behind ts
    → run ((connection, room) ∷ xs) (onto (spell_connection x) ts) ≡ measured (spell_connection x) room 0 ts (run xs ts)
connection_run x room xs ts w h =
    opened_run 1 room ((connected_value, left 1 room) ∷ xs) (onto (spell_optional x.value) (k.Symbol s.CloseParen ∷ ts))
    (measured (spell_optional x.value) room 1 (k.Symbol s.CloseParen ∷ ts) (run xs ts))
    (λ e. value_by x.value (left 1 room) xs ts w.1
    ∙ shifted (spell_optional x.value) 1 room (k.Symbol s.CloseParen ∷ ts) (run xs ts) e)

connections_run : (es : List Connection) (room : ℕ) (xs : Row Rule) (ts : List Kind) → All IsConnection es
    → run ((connections, room) ∷ xs) (onto (spell_connections es) ts)
    ≡ measured (spell_connections es) room 0 ts (run xs ts)
connections_run [] room xs ts w =
    opened_run 1 room ((first_connection, left 1 room) ∷ xs) (k.Symbol s.CloseParen ∷ ts) (run xs ts) (λ e. refl)
connections_run (x ∷ es) room xs ts w =
    opened_run 1 room ((first_connection, left 1 room) ∷ xs)
    (onto (between_commas spell_connection (x ∷ es)) (k.Symbol s.CloseParen ∷ ts))
    (measured (between_commas spell_connection (x ∷ es)) room 1 (k.Symbol s.CloseParen ∷ ts) (run xs ts))
    (λ e. list_run spell_connection IsConnection more_connections (λ m ys. (connection, m) ∷ ys) (λ m ys. ys)
    (k.Symbol s.CloseParen)
    (λ m ys us. refl) (λ m ys us. refl) (λ us. (refl, refl, refl, refl)) (λ y m. refl) connection_run x es
    (left 1 room) xs ts w
    ∙ shifted (between_commas spell_connection (x ∷ es)) 1 room (k.Symbol s.CloseParen ∷ ts) (run xs ts) e)

abbrev pub behind_overrides : List ℕ → List Connection → Phrase
behind_overrides text es = a_name text ▸ spell_connections es ▸ phrase.sign s.Semicolon

pub overrides_run : (o : Option (List Connection)) (text : List ℕ) (es : List Connection) (room : ℕ) (xs : Row Rule)
    (ts : List Kind)
    → AreOverrides o → All IsConnection es
    → run ((g.overrides, room) ∷ xs) (onto (spell_overrides o) (onto (behind_overrides text es) ts))
    ≡ measured (spell_overrides o ▸ behind_overrides text es) room 0 ts (run xs ts)
overrides_run None text es room xs ts w v =
    connections_run es room ((sign s.Semicolon, room) ∷ xs) (k.Symbol s.Semicolon ∷ ts) v
overrides_run (Some os) text es room xs ts w v =
    connections_run os room ((name, room) ∷ (connections, room) ∷ (sign s.Semicolon, room) ∷ xs)
    (onto (behind_overrides text es) ts) w
    ∙ ap (measured (spell_connections os) room 0 (onto (behind_overrides text es) ts))
    (connections_run es room ((sign s.Semicolon, room) ∷ xs) (k.Symbol s.Semicolon ∷ ts) v)

pub overrides_closed : (o : Option (List Connection)) (m : ℕ) → open_after (spell_overrides o) m ≡ m
overrides_closed None m = refl
overrides_closed (Some os) m = refl

-- heads of loops
again : (text wanted : List ℕ) (room : ℕ) (xs : Row Rule) (ts : List Kind) → text ≡ wanted
    → run ((this_name wanted, room) ∷ xs) (k.Name text ∷ ts) ≡ run xs ts
again text wanted room xs ts h =
    took_run (this_name wanted) room xs (k.Name text) ts 0 [] (run xs ts)
    (ap take_if ((bytes_eq-Decides text wanted).1 h)) (λ e. refl)

abbrev in_head : LoopHead → Phrase
in_head x =
    spell_step x.variable x.start ▸ phrase.sign s.Semicolon ▸ level (expr.spell x.condition) ▸ phrase.sign s.Semicolon
    ▸ spell_step x.next_variable x.next

pub head_run : (x : LoopHead) (room : ℕ) (xs : Row Rule) (ts : List Kind) → IsHead x
    → run ((g.loop_head, room) ∷ xs) (onto (spell_head x) ts) ≡ measured (spell_head x) room 0 ts (run xs ts)
unfolding spell_head
head_run x room xs ts w =
    opened_run 1 room ((g.loop_variable, left 1 room) ∷ xs) (onto (in_head x) (k.Symbol s.CloseParen ∷ ts))
    (measured (in_head x) room 1 (k.Symbol s.CloseParen ∷ ts) (run xs ts))
    (λ e. whole_run x.start (left 1 room)
    ((sign s.Semicolon, left 1 room) ∷ (g.expr, left 1 room) ∷ (sign s.Semicolon, left 1 room)
    ∷ (this_name x.variable, left 1 room)
    ∷ (sign s.Equal, left 1 room) ∷ (g.expr, left 1 room) ∷ (sign s.CloseParen, left 1 room) ∷ xs)
    (k.Symbol s.Semicolon ∷ onto (expr.spell x.condition)
    (k.Symbol s.Semicolon ∷ k.Name x.next_variable ∷ k.Symbol s.Equal
    ∷ onto (expr.spell x.next) (k.Symbol s.CloseParen ∷ ts))) w.2 (refl, refl)
    ∙ ap (measured (expr.spell x.start) (left 1 room) 0
    (k.Symbol s.Semicolon ∷ onto (expr.spell x.condition) (k.Symbol s.Semicolon
    ∷ k.Name x.next_variable ∷ k.Symbol s.Equal ∷ onto (expr.spell x.next) (k.Symbol s.CloseParen ∷ ts))))
    (whole_run x.condition (left 1 room)
    ((sign s.Semicolon, left 1 room) ∷ (this_name x.variable, left 1 room) ∷ (sign s.Equal, left 1 room)
    ∷ (g.expr, left 1 room)
    ∷ (sign s.CloseParen, left 1 room) ∷ xs)
    (k.Symbol s.Semicolon ∷ k.Name x.next_variable ∷ k.Symbol s.Equal
    ∷ onto (expr.spell x.next) (k.Symbol s.CloseParen ∷ ts)) w.3 (refl, refl)
    ∙ ap (measured (expr.spell x.condition) (left 1 room) 0
    (k.Symbol s.Semicolon ∷ k.Name x.next_variable ∷ k.Symbol s.Equal
    ∷ onto (expr.spell x.next) (k.Symbol s.CloseParen ∷ ts)))
    (again x.next_variable x.variable (left 1 room)
    ((sign s.Equal, left 1 room) ∷ (g.expr, left 1 room) ∷ (sign s.CloseParen, left 1 room) ∷ xs)
    (k.Symbol s.Equal ∷ onto (expr.spell x.next) (k.Symbol s.CloseParen ∷ ts)) w.1
    ∙ whole_run x.next (left 1 room) ((sign s.CloseParen, left 1 room) ∷ xs) (k.Symbol s.CloseParen ∷ ts) w.4
    (refl, refl)))
    ∙ shifted (in_head x) 1 room (k.Symbol s.CloseParen ∷ ts) (run xs ts) e)

pub head_closed : (x : LoopHead) (m : ℕ) → open_after (spell_head x) m ≡ m
unfolding spell_head
head_closed x m = refl

-- no construct is open behind an item
mutual
  pub item_closed : (x : Item) (m : ℕ) → open_after (spell x) m ≡ m
  item_closed (declaration attrs p d) m =
      ap (λ i. open_after (between_commas spell_declared_name d.names) (open_after (spell_shape d.shape) i))
      (attributes_closed attrs m)
      ∙ ap (open_after (between_commas spell_declared_name d.names)) (shape_closed d.shape m)
      ∙ list_closed spell_declared_name declared_closed d.names m
  item_closed (integer attrs p es) m = list_closed spell_declared_name declared_closed es
      (open_after (spell_attributes attrs) m) ∙ attributes_closed attrs m
  item_closed (genvar attrs p es) m =
      list_closed a_name (λ x i. refl) es (open_after (spell_attributes attrs) m) ∙ attributes_closed attrs m
  item_closed (parameter attrs p kind es) m =
      list_closed spell_parameter parameter_closed es (open_after (spell_attributes attrs) m)
      ∙ attributes_closed attrs m
  item_closed (assign attrs p es) m = list_closed spell_assignment assignment_closed es
      (open_after (spell_attributes attrs) m) ∙ attributes_closed attrs m
  item_closed (always attrs p event x) m =
      stmt_closed x (open_after (spell_event_kind event.kind) (open_after (spell_attributes attrs) m))
      ∙ event_closed event.kind (open_after (spell_attributes attrs) m) ∙ attributes_closed attrs m
  item_closed (initial attrs p x) m = stmt_closed x (open_after (spell_attributes attrs) m) ∙ attributes_closed attrs m
  item_closed (instance attrs p x) m =
      overrides_closed x.overrides (open_after (spell_attributes attrs) m) ∙ attributes_closed attrs m
  item_closed (generate attrs p x) m = attributes_closed attrs m
  item_closed (for_loop attrs p head b) m = attributes_closed attrs m
  item_closed (if_only attrs p c b) m = attributes_closed attrs m
  item_closed (if_else attrs p c b d) m = attributes_closed attrs m

  pub items_closed : (x : Items) (m : ℕ) → open_after (spell_all x) m ≡ m
  items_closed no_items m = refl
  items_closed (more_items x xs) m = ap (open_after (spell_all xs)) (item_closed x m) ∙ items_closed xs m

pub block_closed : (b : Block) (m : ℕ) → open_after (spell_block b) m ≡ m
block_closed (begin p label xs) m = refl
block_closed (region p xs) m = items_closed xs m
block_closed (single x) m = item_closed x m

pub label_by : (label : Option (List ℕ)) (x : Items) (room : ℕ) (xs : Row Rule) (ts : List Kind) (out : Ran)
    → AreBalanced x
    → run ((g.items end, room) ∷ xs) (onto (spell_all x) (k.Keyword word.End ∷ ts))
    ≡ measured (spell_all x) room 0 (k.Keyword word.End ∷ ts) out
    → run ((generate_block_label, room) ∷ xs) (onto (spell_label label) (onto (spell_all x) (k.Keyword word.End ∷ ts)))
    ≡ measured (spell_label label ▸ spell_all x) room 0 (k.Keyword word.End ∷ ts) out
label_by (Some text) x room xs ts out c h = h
label_by None no_items room xs ts out c h = h
label_by None (more_items x zs) room xs ts out c h =
    (let f = item_front x (onto (spell_all zs) (k.Keyword word.End ∷ ts)) (first_opens x zs c) in
    ap (λ us. run ((generate_block_label, room) ∷ xs) us) f.same ∙ in_label f.attributed f.head f.begins room xs f.tail
    ∙ ap (λ us. run ((g.items end, room) ∷ xs) us) (sym f.same))
    ∙ h

pub in_list : (ending : Ending) (x : Item) (room : ℕ) (xs : Row Rule) (ts : List Kind) → NoClose x
    → run ((g.items ending, room) ∷ xs) (onto (spell x) ts)
    ≡ run ((item, room) ∷ (g.items ending, room) ∷ xs) (onto (spell x) ts)
in_list ending x room xs ts c =
    (let f = item_front x ts c in
    ap (λ us. run ((g.items ending, room) ∷ xs) us) f.same ∙ in_items ending f.attributed f.head f.begins room xs f.tail
    ∙ ap (λ us. run ((item, room) ∷ (g.items ending, room) ∷ xs) us) (sym f.same))

pub as_block : (x : Item) (room : ℕ) (xs : Row Rule) (ts : List Kind) → NoClose x → attributes_of x ≡ []
    → run ((generate_block, room) ∷ xs) (onto (spell x) ts) ≡ run ((item, room) ∷ xs) (onto (spell x) ts)
as_block x room xs ts c h =
    (let f = bare_front x ts c in
    let same : onto (spell x) ts ≡ f.head ∷ f.tail =
    split x ts ∙ ap (λ vs. onto (spell_attributes vs) (onto (behind_attributes x) ts)) h ∙ f.same in
    ap (λ us. run ((generate_block, room) ∷ xs) us) same ∙ in_generate_block f.head f.begins room xs f.tail
    ∙ ap (λ us. run ((item, room) ∷ xs) us) (sym same))

pub read_ending : (ending : Ending) (room : ℕ) (xs : Row Rule) (ts : List Kind)
    → run ((g.items ending, room) ∷ xs) (k.Keyword (ending_word ending) ∷ ts) ≡ run xs ts
read_ending endmodule room xs ts = refl
read_ending endgenerate room xs ts = refl
read_ending end room xs ts = refl
