-- Runs over well formed items are cut off where a construct too many opens.
use Rattle.std.proofs.Common.{◌≡◌, ℕ, zero, suc, true, List, [], ◌∷◌, Some, None, refl, sym, ap, ◌∙◌, subst}
use Rattle.fv_text.specs.declared.keyword.Keyword.TheVariants as word
use Rattle.fv_text.specs.declared.kind.Kind.{Kind}
use Rattle.fv_text.specs.declared.kind.Kind.TheVariants as k
use Rattle.fv_text.specs.declared.symbol.Symbol.TheVariants as s
use Rattle.vl_tree.specs.declared.item.RegionMark.TheVariants as mark
use Rattle.vl_tree.specs.DeclarationSpelling.{spell_shape, spell_declared_name, spell_parameter, parameter_word}
use Rattle.vl_tree.specs.ExprSpelling as expr
use Rattle.vl_tree.specs.Item.{
  Item,
  Items,
  Block,
  declaration,
  integer,
  genvar,
  parameter,
  assign,
  always,
  initial,
  instance,
  generate,
  for_loop,
  if_only,
  if_else,
  no_items,
  more_items,
  begin,
  region,
  single,
}
use Rattle.vl_tree.specs.ItemSpelling.{spell_declaration, spell_event, spell_instance, spell, spell_all, spell_block}
use Rattle.vl_tree.specs.ItemSpelling.{spell_head, spell_assignment, spell_event_kind}
use Rattle.vl_tree.specs.Phrase.{Phrase, ◌▸◌, at, level, within, parens, a_name, between_commas, with_commas}
use Rattle.vl_tree.specs.Phrase as phrase
use Rattle.vl_tree.specs.StmtSpelling as stmt_spelling
use Rattle.vl_tree.specs.StmtSpelling.{spell_label}
use Rattle.vl_tree.specs.WellFormed.{mark_of, ends_open, block_ends_open, open_behind, AreBalanced, IsWellFormed}
use Rattle.vl_tree.specs.WellFormed.{AreWellFormed, IsBlock}
use Rattle.vl_parse_grammar.specs.Machine.{Row, left}
use Rattle.vl_parse_grammar.specs.Grammar as g
use Rattle.vl_parse_grammar.specs.Grammar.{
  Rule,
  Moves,
  Ending,
  endmodule,
  endgenerate,
  end,
  plain,
  selects,
  sign,
  name,
  stmt,
  otherwise,
  shape,
  declared_name,
  declared_names,
  initial_stmt,
  initial_stmts,
  target,
  targets,
  item,
  generate_block,
  generate_block_label,
  generate_otherwise,
  connections,
  connection,
  first_connection,
  more_connections,
  connected,
  connected_value,
  this_name,
  accepts,
  expand,
  ends,
  many,
  take_if,
  on_operand,
  on_otherwise,
  on_generate_otherwise,
}
use Rattle.vl_parse_grammar.proofs.Onto.{onto}
use Rattle.vl_parse_grammar.proofs.Regions.{NoClose, some_none, no_open, no_mark, never}
use Rattle.vl_parse_grammar.proofs.Steps.{apart}
use Rattle.vl_parse_grammar.proofs.Words.{ending_word}
use Rattle.vl_parse_grammar.proofs.ItemReads.{NoElse, items_leave, current}
use Rattle.vl_parse_grammar.proofs.Measured.{run, measured, opened_run, leaves_run, shifted}
use Rattle.vl_parse_grammar.proofs.ExprRuns.{parens_run}
use Rattle.vl_parse_grammar.proofs.DeclarationRuns.{behind, attributed_run, declared_names_run, parameters_run}
use Rattle.vl_parse_grammar.proofs.StmtRuns.{stmt_runs}
use Rattle.vl_parse_grammar.proofs.PartRuns.{initial_runs, names_run, declaration_at, parameter_at, genvars_run}
use Rattle.vl_parse_grammar.proofs.PartRuns.{assignments_run, event_run, event_closed, overrides_run, head_run}
use Rattle.vl_parse_grammar.proofs.PartRuns.{head_closed}
use Rattle.vl_parse_grammar.proofs.PartRuns.{item_closed, block_closed, label_by, in_list, as_block, read_ending}

-- what is to come behind the list that is read, where so many regions are open in a list with the ending
abbrev around : ℕ → Ending → ℕ → Row Rule → Row Rule
around zero ending room xs = xs
around (suc n) ending room xs = (g.items (current n ending), room) ∷ around n ending room xs

-- what an item leaves open
abbrev opened_by : Item → ℕ → Row Rule → Row Rule
opened_by (generate attrs p mark.Open) room xs = (g.items endgenerate, room) ∷ xs
opened_by x room xs = xs

opened_none : (x : Item) (room : ℕ) (xs : Row Rule) → mark_of x ≡ None → opened_by x room xs ≡ xs
opened_none (generate attrs p m) room xs h = some_none m h
opened_none x room xs h = refl

-- an item before others
more_runs : (x : Item) (zs : Items) (n : ℕ) (ending : Ending) (room : ℕ) (xs : Row Rule) (ts : List Kind) → NoClose x
    → run ((item, room) ∷ (g.items (current n ending), room) ∷ around n ending room xs)
    (onto (spell x) (onto (spell_all zs) (k.Keyword (ending_word ending) ∷ ts)))
    ≡ measured (spell x) room 0 (onto (spell_all zs) (k.Keyword (ending_word ending) ∷ ts))
    (run (opened_by x room ((g.items (current n ending), room) ∷ around n ending room xs))
    (onto (spell_all zs) (k.Keyword (ending_word ending) ∷ ts)))
    → run (opened_by x room ((g.items (current n ending), room) ∷ around n ending room xs))
    (onto (spell_all zs) (k.Keyword (ending_word ending) ∷ ts))
    ≡ measured (spell_all zs) room 0 (k.Keyword (ending_word ending) ∷ ts) (run xs ts)
    → run ((g.items (current n ending), room) ∷ around n ending room xs)
    (onto (spell_all (more_items x zs)) (k.Keyword (ending_word ending) ∷ ts))
    ≡ measured (spell_all (more_items x zs)) room 0 (k.Keyword (ending_word ending) ∷ ts) (run xs ts)
more_runs x zs n ending room xs ts c first h =
    in_list (current n ending) x room (around n ending room xs)
    (onto (spell_all zs) (k.Keyword (ending_word ending) ∷ ts)) c
    ∙ first
    ∙ ap (measured (spell x) room 0 (onto (spell_all zs) (k.Keyword (ending_word ending) ∷ ts))) h
    ∙ behind (spell x) (spell_all zs) room (k.Keyword (ending_word ending) ∷ ts) (run xs ts) (item_closed x 0)

mutual
  item_runs : (x : Item) (room : ℕ) (xs : Row Rule) (ts : List Kind) → NoClose x → IsWellFormed x
      → (ends_open x ≡ true → NoElse ts)
      → run ((item, room) ∷ xs) (onto (spell x) ts) ≡ measured (spell x) room 0 ts (run (opened_by x room xs) ts)
  item_runs (declaration attrs p d) room xs ts z w o =
      attributed_run item refl attrs (at p (spell_declaration d)) room xs ts (run xs ts) w.0
      (declaration_at d.net room xs (onto (spell_shape d.shape)
      (onto (between_commas spell_declared_name d.names) (k.Symbol s.Semicolon ∷ ts)))
      ∙ names_run d.shape d.names room xs ts w.1.0 w.1.1)
  item_runs (integer attrs p es) room xs ts z w o =
      attributed_run item refl attrs (at p
      (phrase.word word.Integer ▸ between_commas spell_declared_name es ▸ phrase.sign s.Semicolon)) room xs ts
      (run xs ts) w.0
      (declared_names_run es room xs ts w.1)
  item_runs (genvar attrs p es) room xs ts z w o =
      attributed_run item refl attrs (at p
      (phrase.word word.Genvar ▸ between_commas a_name es ▸ phrase.sign s.Semicolon)) room xs ts (run xs ts) w.0
      (genvars_run es room xs ts w.1)
  item_runs (parameter attrs p kind es) room xs ts z w o =
      attributed_run item refl attrs (at p (phrase.word
      (parameter_word kind) ▸ between_commas spell_parameter es ▸ phrase.sign s.Semicolon)) room xs ts
      (run xs ts) w.0
      (parameter_at kind room xs (onto (between_commas spell_parameter es) (k.Symbol s.Semicolon ∷ ts))
      ∙ parameters_run es room xs ts w.1)
  item_runs (assign attrs p es) room xs ts z w o =
      attributed_run item refl attrs (at p
      (phrase.word word.Assign ▸ between_commas spell_assignment es ▸ phrase.sign s.Semicolon)) room xs ts
      (run xs ts) w.0
      (assignments_run es room xs ts w.1)
  item_runs (always attrs p event x) room xs ts z w o =
      attributed_run item refl attrs (at p
      (phrase.word word.Always ▸ phrase.sign s.At ▸ spell_event event ▸ stmt_spelling.spell x)) room xs ts
      (run xs ts) w.0
      (event_run event.kind room ((stmt, room) ∷ xs) (onto (stmt_spelling.spell x) ts)
      ∙ ap (measured (spell_event_kind event.kind) room 0 (onto (stmt_spelling.spell x) ts))
      (stmt_runs x room xs ts w.2 (λ e. (o e).0))
      ∙ behind (spell_event_kind event.kind) (stmt_spelling.spell x) room ts (run xs ts) (event_closed event.kind 0))
  item_runs (initial attrs p x) room xs ts z w o =
      attributed_run item refl attrs (at p (phrase.word word.Initial ▸ stmt_spelling.spell x)) room xs ts
      (run xs ts) w.0 (initial_runs x room xs ts w.1 w.2)
  item_runs (instance attrs p x) room xs ts z w o =
      attributed_run item refl attrs (at p (spell_instance x)) room xs ts (run xs ts) w.0
      (overrides_run x.overrides x.name x.connections room xs ts w.1.1 w.1.3)
  item_runs (generate attrs p mark.Open) room xs ts z w o =
      attributed_run item refl attrs (at p (phrase.word word.Generate)) room xs ts
      (run ((g.items endgenerate, room) ∷ xs) ts) w.0 refl
  item_runs (generate attrs p mark.Close) room xs ts z w o = absurd z
  item_runs (for_loop attrs p head b) room xs ts z w o =
      attributed_run item refl attrs (at p (within
      (phrase.word word.For ▸ spell_head head ▸ spell_block b))) room xs ts (run xs ts) w.0
      (opened_run 1 room ((g.loop_head, left 1 room) ∷ (generate_block, left 1 room) ∷ xs)
      (onto (spell_head head) (onto (spell_block b) ts))
      (measured (spell_head head ▸ spell_block b) room 1 ts (run xs ts))
      (λ e. head_run head (left 1 room) ((generate_block, left 1 room) ∷ xs) (onto (spell_block b) ts) w.1
      ∙ ap (measured (spell_head head) (left 1 room) 0 (onto (spell_block b) ts))
      (block_runs b (left 1 room) xs ts w.2 o)
      ∙ behind (spell_head head) (spell_block b) (left 1 room) ts (run xs ts) (head_closed head 0)
      ∙ shifted (spell_head head ▸ spell_block b) 1 room ts (run xs ts) e))
  item_runs (if_only attrs p c b) room xs ts z w o =
      attributed_run item refl attrs (at p (within
      (phrase.word word.If ▸ parens (expr.spell c) ▸ spell_block b))) room xs ts (run xs ts) w.0
      (opened_run 1 room ((g.in_parens, left 1 room) ∷ (generate_block, left 1 room)
      ∷ (generate_otherwise, left 1 room) ∷ xs)
      (onto (parens (expr.spell c)) (onto (spell_block b) ts))
      (measured (parens (expr.spell c) ▸ spell_block b) room 1 ts (run xs ts))
      (λ e. parens_run c (left 1 room) ((generate_block, left 1 room) ∷ (generate_otherwise, left 1 room) ∷ xs)
      (onto (spell_block b) ts) w.1
      ∙ ap (measured (parens (expr.spell c)) (left 1 room) 0 (onto (spell_block b) ts))
      (block_runs b (left 1 room) ((generate_otherwise, left 1 room) ∷ xs) ts w.2 (λ z. o refl)
      ∙ ap (measured (spell_block b) (left 1 room) 0 ts) (leaves_run generate_otherwise (left 1 room) xs ts (o refl).1))
      ∙ shifted (parens (expr.spell c) ▸ spell_block b) 1 room ts (run xs ts) e))
  item_runs (if_else attrs p c b d) room xs ts z w o =
      attributed_run item refl attrs (at p (within
      (phrase.word word.If ▸ parens (expr.spell c) ▸ spell_block b ▸ phrase.word word.Else ▸ spell_block d)))
      room xs ts (run xs ts) w.0
      (opened_run 1 room ((g.in_parens, left 1 room) ∷ (generate_block, left 1 room)
      ∷ (generate_otherwise, left 1 room) ∷ xs)
      (onto (parens (expr.spell c)) (onto (spell_block b) (k.Keyword word.Else ∷ onto (spell_block d) ts)))
      (measured (parens (expr.spell c) ▸ spell_block b ▸ phrase.word word.Else ▸ spell_block d) room 1 ts (run xs ts))
      (λ e. parens_run c (left 1 room) ((generate_block, left 1 room) ∷ (generate_otherwise, left 1 room) ∷ xs)
      (onto (spell_block b) (k.Keyword word.Else ∷ onto (spell_block d) ts)) w.1
      ∙ ap (measured (parens (expr.spell c)) (left 1 room) 0
      (onto (spell_block b) (k.Keyword word.Else ∷ onto (spell_block d) ts)))
      (block_runs b (left 1 room) ((generate_otherwise, left 1 room) ∷ xs)
      (k.Keyword word.Else ∷ onto (spell_block d) ts) w.3 (λ z. apart (sym w.2 ∙ z))
      ∙ ap (measured (spell_block b) (left 1 room) 0 (k.Keyword word.Else ∷ onto (spell_block d) ts))
      (block_runs d (left 1 room) xs ts w.4 o)
      ∙ behind (spell_block b) (phrase.word word.Else ▸ spell_block d) (left 1 room) ts (run xs ts) (block_closed b 0))
      ∙ shifted (parens (expr.spell c) ▸ spell_block b ▸ phrase.word word.Else ▸ spell_block d) 1 room ts
      (run xs ts) e))

  -- the items of a list in which so many regions are open
  items_runs : (x : Items) (n : ℕ) (ending : Ending) (room : ℕ) (xs : Row Rule) (ts : List Kind)
      → open_behind x (Some n) ≡ Some 0 → AreWellFormed x
      → run ((g.items (current n ending), room) ∷ around n ending room xs)
      (onto (spell_all x) (k.Keyword (ending_word ending) ∷ ts))
      ≡ measured (spell_all x) room 0 (k.Keyword (ending_word ending) ∷ ts) (run xs ts)
  items_runs no_items zero ending room xs ts h w = read_ending ending room xs ts
  items_runs no_items (suc n) ending room xs ts h w = no_open n h
  items_runs (more_items (generate attrs p mark.Open) zs) n ending room xs ts h w =
      more_runs (generate attrs p mark.Open) zs n ending room xs ts tt
      (item_runs (generate attrs p mark.Open) room ((g.items (current n ending), room) ∷ around n ending room xs)
      (onto (spell_all zs) (k.Keyword (ending_word ending) ∷ ts)) tt w.0 (λ e. items_leave zs ending ts))
      (items_runs zs (suc n) ending room xs ts h w.1)
  items_runs (more_items (generate attrs p mark.Close) zs) zero ending room xs ts h w = never zs 0 h
  items_runs (more_items (generate attrs p mark.Close) zs) (suc n) ending room xs ts h w =
      subst (λ vs. run ((g.items endgenerate, room) ∷ around (suc n) ending room xs)
      (onto (spell_all (more_items (generate vs p mark.Close) zs)) (k.Keyword (ending_word ending) ∷ ts))
      ≡ measured (spell_all (more_items (generate vs p mark.Close) zs)) room 0 (k.Keyword (ending_word ending) ∷ ts)
      (run xs ts))
      (sym w.0.1) (items_runs zs n ending room xs ts h w.1)
  items_runs (more_items x zs) n ending room xs ts h w =
      more_runs x zs n ending room xs ts tt
      (item_runs x room ((g.items (current n ending), room) ∷ around n ending room xs)
      (onto (spell_all zs) (k.Keyword (ending_word ending) ∷ ts)) tt w.0 (λ e. items_leave zs ending ts))
      (items_runs zs n ending room xs ts h w.1)

  block_runs : (b : Block) (room : ℕ) (xs : Row Rule) (ts : List Kind) → IsBlock b
      → (block_ends_open b ≡ true → NoElse ts)
      → run ((generate_block, room) ∷ xs) (onto (spell_block b) ts) ≡ measured (spell_block b) room 0 ts (run xs ts)
  block_runs (begin p label x) room xs ts w o =
      opened_run 1 room ((generate_block_label, left 1 room) ∷ xs)
      (onto (spell_label label) (onto (spell_all x) (k.Keyword word.End ∷ ts)))
      (measured (spell_label label ▸ spell_all x) room 1 (k.Keyword word.End ∷ ts) (run xs ts))
      (λ e. label_by label x (left 1 room) xs ts (run xs ts) w.1 (items_runs x 0 end (left 1 room) xs ts w.1 w.2)
      ∙ shifted (spell_label label ▸ spell_all x) 1 room (k.Keyword word.End ∷ ts) (run xs ts) e)
  block_runs (region p x) room xs ts w o = items_runs x 0 endgenerate room xs ts w.0 w.1
  block_runs (single x) room xs ts w o =
      as_block x room xs ts (no_mark x w.1) w.0 ∙ item_runs x room xs ts (no_mark x w.1) w.2 o
      ∙ ap (λ ys. measured (spell x) room 0 ts (run ys ts)) (opened_none x room xs w.1)

pub items_run : (x : Items) (ending : Ending) (room : ℕ) (xs : Row Rule) (ts : List Kind) → AreBalanced x
    → AreWellFormed x
    → run ((g.items ending, room) ∷ xs) (onto (spell_all x) (k.Keyword (ending_word ending) ∷ ts))
    ≡ measured (spell_all x) room 0 (k.Keyword (ending_word ending) ∷ ts) (run xs ts)
items_run x ending room xs ts h w = items_runs x 0 ending room xs ts h w
