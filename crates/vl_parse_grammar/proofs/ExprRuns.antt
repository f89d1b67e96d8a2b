-- Runs over well formed expressions are cut off where a construct too many opens.
use Rattle.std.proofs.Common.{◌≡◌, ℕ, suc, true, List, [], ◌∷◌, Option, Some, None, refl, sym, ap, ◌∙◌}
use Rattle.fv_text.specs.declared.kind.Kind.{Kind}
use Rattle.fv_text.specs.declared.kind.Kind.TheVariants as k
use Rattle.fv_text.specs.declared.symbol.Symbol.TheVariants as s
use Rattle.vl_tree.specs.Expr as tree
use Rattle.vl_tree.specs.Expr.{Expr, Exprs, Selects, number, paren, unary, binary, conditional, concat, repeat, cast}
use Rattle.vl_tree.specs.Expr.{none, whole, bit, part, indexed}
use Rattle.vl_tree.specs.ExprSpelling.{spell, spell_parts, spell_more, spell_selects, spell_value, unary_sign}
use Rattle.vl_tree.specs.ExprSpelling.{binary_sign, cast_name}
use Rattle.vl_tree.specs.ExprWellFormed.{IsWellFormed, AreWellFormed, AreSelects, IsValue}
use Rattle.vl_tree.specs.Phrase.{◌▸◌, level, sign, parens, braces}
use Rattle.vl_parse_grammar.specs.Machine.{Row, take, fits, left}
use Rattle.vl_parse_grammar.specs.Grammar as g
use Rattle.vl_parse_grammar.specs.Grammar.{
  Rule,
  Stand,
  plain,
  first_in_braces,
  operand,
  more,
  selects,
  select_end,
  parts,
  in_parens,
  value,
  expr,
  if_known,
  on_cast,
}
use Rattle.vl_parse_grammar.proofs.Onto.{onto}
use Rattle.vl_parse_grammar.proofs.ExprReads.{
  Leaves,
  Ends,
  known,
  unary_row,
  binary_row,
  no_select,
  cast_same,
  more_leaves,
  select_behind,
  part_behind,
}
use Rattle.vl_parse_grammar.proofs.Measured.{run, open_after, measured, opened_run, took_run, leaves_run, shifted}
use Rattle.vl_parse_grammar.proofs.Measured.{inner}

-- no operator is open behind selects
pub selects_closed : (ss : Selects) (n : ℕ) → open_after (spell_selects ss) n ≡ n
selects_closed whole n = refl
selects_closed (bit p x ss) n = selects_closed ss n
selects_closed (part p x y ss) n = selects_closed ss n
selects_closed (indexed p x y ss) n = selects_closed ss n

ended : (x : Expr) (room : ℕ) (xs : Row Rule) (rest : List Kind) → Ends rest
    → run ((expr, room) ∷ xs) (onto (spell x) rest)
    ≡ measured (spell x) room 0 rest (run ((more plain 0 (open_after (spell x) 0), room) ∷ xs) rest)
    → run ((expr, room) ∷ xs) (onto (spell x) rest) ≡ measured (spell x) room 0 rest (run xs rest)
ended x room xs rest h same =
    same ∙ ap (measured (spell x) room 0 rest)
    (leaves_run (more plain 0 (open_after (spell x) 0)) room xs rest (more_leaves (open_after (spell x) 0) rest h.1))

mutual
  pub expr_runs : (x : Expr) (stand : Stand) (q o room : ℕ) (xs : Row Rule) (rest : List Kind) → IsWellFormed x
      → Leaves selects rest
      → fits o room ≡ true
      → run ((operand stand q o, room) ∷ xs) (onto (spell x) rest)
      ≡ measured (spell x) room o rest (run ((more stand q (open_after (spell x) o), room) ∷ xs) rest)
  expr_runs (number p n) stand q o room xs rest w h f =
      took_run (operand stand q o) room xs (k.Number n) rest 0 ((more stand q o, 0) ∷ [])
      (run ((more stand q o, room) ∷ xs) rest)
      (ap (λ b. if_known b (take 0 ((more stand q o, 0) ∷ []))) (known n w)) (λ e. refl)
  expr_runs (tree.name p text ss) stand q o room xs rest w h f =
      selects_run ss (left o room) ((more stand q o, room) ∷ xs) rest w.1
      ∙ shifted (spell_selects ss) o room rest (run ((selects, left o room) ∷ (more stand q o, room) ∷ xs) rest) f
      ∙ ap (measured (spell_selects ss) room o rest)
      (leaves_run selects (left o room) ((more stand q o, room) ∷ xs) rest h
      ∙ ap (λ m. run ((more stand q m, room) ∷ xs) rest) (sym (selects_closed ss o)))
  expr_runs (paren p x) stand q o room xs rest w h f =
      opened_run (suc o) room ((expr, left (suc o) room) ∷ (g.sign s.CloseParen, room) ∷ (more stand q o, room) ∷ xs)
      (onto (spell x) (k.Symbol s.CloseParen ∷ rest))
      (measured (spell x) room (suc o) (k.Symbol s.CloseParen ∷ rest) (run ((more stand q o, room) ∷ xs) rest))
      (λ e. ended x (left (suc o) room) ((g.sign s.CloseParen, room) ∷ (more stand q o, room) ∷ xs)
      (k.Symbol s.CloseParen ∷ rest) (refl, refl)
      (expr_runs x plain 0 0 (left (suc o) room) ((g.sign s.CloseParen, room) ∷ (more stand q o, room) ∷ xs)
      (k.Symbol s.CloseParen ∷ rest) w refl refl)
      ∙ shifted (spell x) (suc o) room (k.Symbol s.CloseParen ∷ rest) (run ((more stand q o, room) ∷ xs) rest) e)
  expr_runs (unary p op x) stand q o room xs rest w h f =
      took_run (operand stand q o) room xs (k.Symbol (unary_sign op)) (onto (spell x) rest) (suc o)
      ((operand stand q (suc o), 0) ∷ [])
      (measured (spell x) room (suc o) rest (run ((more stand q (open_after (spell x) (suc o)), room) ∷ xs) rest))
      (unary_row stand q o op) (λ e. expr_runs x stand q (suc o) room xs rest w.1 h e)
  expr_runs (binary p op x y) stand q o room xs rest w h f =
      expr_runs x stand q o room xs (k.Symbol (binary_sign op) ∷ onto (spell y) rest) w.2 (no_select op) f
      ∙ inner (spell x) room o (k.Symbol (binary_sign op) ∷ onto (spell y) rest) _ _ f
      (λ e. took_run (more stand q (open_after (spell x) o)) room xs (k.Symbol (binary_sign op)) (onto (spell y) rest)
      (suc (open_after (spell x) o)) ((operand stand q (suc (open_after (spell x) o)), 0) ∷ [])
      (measured (spell y) room (suc (open_after (spell x) o)) rest
      (run ((more stand q (open_after (spell y) (suc (open_after (spell x) o))), room) ∷ xs) rest))
      (binary_row stand q (open_after (spell x) o) op)
      (λ e2. expr_runs y stand q (suc (open_after (spell x) o)) room xs rest w.3 h e2))
  expr_runs (conditional p x y z) stand q o room xs rest w h f =
      expr_runs x stand q o room xs (k.Symbol s.Question
      ∷ onto (spell y) (k.Symbol s.Colon ∷ onto (spell z) rest)) w.1 refl f
      ∙ inner (spell x) room o (k.Symbol s.Question ∷ onto (spell y) (k.Symbol s.Colon ∷ onto (spell z) rest)) _ _ f
      (λ e. opened_run (suc (open_after (spell x) o)) room
      ((operand stand (suc q) (suc (open_after (spell x) o)), room) ∷ xs)
      (onto (spell y) (k.Symbol s.Colon ∷ onto (spell z) rest))
      (measured (spell y) room (suc (open_after (spell x) o)) (k.Symbol s.Colon ∷ onto (spell z) rest)
      (measured (spell z) room (open_after (spell y) (suc (open_after (spell x) o))) rest
      (run ((more stand q (open_after (spell z) (open_after (spell y) (suc (open_after (spell x) o)))), room)
      ∷ xs) rest)))
      (λ e2. expr_runs y stand (suc q) (suc (open_after (spell x) o)) room xs
      (k.Symbol s.Colon ∷ onto (spell z) rest) w.2 refl e2
      ∙ inner (spell y) room (suc (open_after (spell x) o)) (k.Symbol s.Colon ∷ onto (spell z) rest) _ _ e2
      (λ e3. expr_runs z stand q (open_after (spell y) (suc (open_after (spell x) o))) room xs rest w.3 h e3)))
  expr_runs (concat p (tree.more x es)) stand q o room xs rest w h f =
      opened_run (suc o) room ((operand first_in_braces 0 0, left (suc o) room) ∷ (more stand q o, room) ∷ xs)
      (onto (spell x) (onto (spell_more es) (k.Symbol s.CloseBrace ∷ rest)))
      (measured (spell_parts (tree.more x es)) room (suc o) (k.Symbol s.CloseBrace ∷ rest)
      (run ((more stand q o, room) ∷ xs) rest))
      (λ e. expr_runs x first_in_braces 0 0 (left (suc o) room) ((more stand q o, room) ∷ xs)
      (onto (spell_more es) (k.Symbol s.CloseBrace ∷ rest))
      w.1.0 (select_behind es rest) refl
      ∙ ap (measured (spell x) (left (suc o) room) 0 (onto (spell_more es) (k.Symbol s.CloseBrace ∷ rest)))
      (first_run es (open_after (spell x) 0) (left (suc o) room) ((more stand q o, room) ∷ xs) rest w.1.1)
      ∙ shifted (spell_parts (tree.more x es)) (suc o) room (k.Symbol s.CloseBrace ∷ rest)
      (run ((more stand q o, room) ∷ xs) rest) e)
  expr_runs (concat p none) stand q o room xs rest w h f = absurd w.0
  expr_runs (repeat p x (tree.more y es)) stand q o room xs rest w h f =
      opened_run (suc o) room ((operand first_in_braces 0 0, left (suc o) room) ∷ (more stand q o, room) ∷ xs)
      (onto (spell x) (onto (braces (spell_parts (tree.more y es))) (k.Symbol s.CloseBrace ∷ rest)))
      (measured (spell x ▸ braces (spell_parts (tree.more y es))) room (suc o) (k.Symbol s.CloseBrace ∷ rest)
      (run ((more stand q o, room) ∷ xs) rest))
      (λ e. expr_runs x first_in_braces 0 0 (left (suc o) room) ((more stand q o, room) ∷ xs)
      (onto (braces (spell_parts (tree.more y es))) (k.Symbol s.CloseBrace ∷ rest)) w.0 refl refl
      ∙ inner (spell x) (left (suc o) room) 0 (onto (braces (spell_parts (tree.more y es)))
      (k.Symbol s.CloseBrace ∷ rest)) _ _ refl
      (λ e2. opened_run (suc (open_after (spell x) 0)) (left (suc o) room)
      ((expr, left (suc (open_after (spell x) 0)) (left (suc o) room))
      ∷ (parts, left (suc (open_after (spell x) 0)) (left (suc o) room))
      ∷ (g.sign s.CloseBrace, left (suc o) room) ∷ (more stand q o, room) ∷ xs)
      (onto (spell y) (onto (spell_more es) (k.Symbol s.CloseBrace ∷ k.Symbol s.CloseBrace ∷ rest)))
      (measured (spell_parts (tree.more y es)) (left (suc o) room) (suc (open_after (spell x) 0))
      (k.Symbol s.CloseBrace ∷ k.Symbol s.CloseBrace ∷ rest)
      (run ((more stand q o, room) ∷ xs) rest))
      (λ e3. ended y (left (suc (open_after (spell x) 0)) (left (suc o) room))
      ((parts, left (suc (open_after (spell x) 0)) (left (suc o) room)) ∷ (g.sign s.CloseBrace, left (suc o) room)
      ∷ (more stand q o, room) ∷ xs)
      (onto (spell_more es) (k.Symbol s.CloseBrace ∷ k.Symbol s.CloseBrace ∷ rest))
      (part_behind es (k.Symbol s.CloseBrace ∷ rest))
      (expr_runs y plain 0 0 (left (suc (open_after (spell x) 0)) (left (suc o) room))
      ((parts, left (suc (open_after (spell x) 0)) (left (suc o) room)) ∷ (g.sign s.CloseBrace, left (suc o) room)
      ∷ (more stand q o, room) ∷ xs)
      (onto (spell_more es) (k.Symbol s.CloseBrace ∷ k.Symbol s.CloseBrace ∷ rest)) w.2.0
      (part_behind es (k.Symbol s.CloseBrace ∷ rest)).0 refl)
      ∙ ap (measured (spell y) (left (suc (open_after (spell x) 0)) (left (suc o) room)) 0
      (onto (spell_more es) (k.Symbol s.CloseBrace ∷ k.Symbol s.CloseBrace ∷ rest)))
      (parts_run es (left (suc (open_after (spell x) 0)) (left (suc o) room))
      ((g.sign s.CloseBrace, left (suc o) room) ∷ (more stand q o, room) ∷ xs)
      (k.Symbol s.CloseBrace ∷ rest) w.2.1)
      ∙ shifted (spell_parts (tree.more y es)) (suc (open_after (spell x) 0)) (left (suc o) room)
      (k.Symbol s.CloseBrace ∷ k.Symbol s.CloseBrace ∷ rest)
      (run ((more stand q o, room) ∷ xs) rest) e3))
      ∙ shifted (spell x ▸ braces (spell_parts (tree.more y es))) (suc o) room (k.Symbol s.CloseBrace ∷ rest)
      (run ((more stand q o, room) ∷ xs) rest) e)
  expr_runs (repeat p x none) stand q o room xs rest w h f = absurd w.1
  expr_runs (cast p to x) stand q o room xs rest w h f =
      took_run (operand stand q o) room xs (k.System (cast_name to))
      (k.Symbol s.OpenParen ∷ onto (spell x) (k.Symbol s.CloseParen ∷ rest))
      0 ((in_parens, o) ∷ (more stand q o, 0) ∷ [])
      (measured (parens (spell x)) room o rest (run ((more stand q o, room) ∷ xs) rest))
      (ap (on_cast stand q o) (cast_same to))
      (λ e. opened_run 1 (left o room) ((expr, left 1 (left o room)) ∷ (g.sign s.CloseParen, left o room)
      ∷ (more stand q o, room) ∷ xs)
      (onto (spell x) (k.Symbol s.CloseParen ∷ rest))
      (measured (spell x) (left o room) 1 (k.Symbol s.CloseParen ∷ rest) (run ((more stand q o, room) ∷ xs) rest))
      (λ e2. ended x (left 1 (left o room)) ((g.sign s.CloseParen, left o room) ∷ (more stand q o, room) ∷ xs)
      (k.Symbol s.CloseParen ∷ rest) (refl, refl)
      (expr_runs x plain 0 0 (left 1 (left o room))
      ((g.sign s.CloseParen, left o room) ∷ (more stand q o, room) ∷ xs) (k.Symbol s.CloseParen ∷ rest) w refl refl)
      ∙ shifted (spell x) 1 (left o room) (k.Symbol s.CloseParen ∷ rest) (run ((more stand q o, room) ∷ xs) rest) e2)
      ∙ shifted (parens (spell x)) o room rest (run ((more stand q o, room) ∷ xs) rest) f)

  first_run : (es : Exprs) (o room : ℕ) (xs : Row Rule) (rest : List Kind) → AreWellFormed es
      → run ((more first_in_braces 0 o, room) ∷ xs) (onto (spell_more es) (k.Symbol s.CloseBrace ∷ rest))
      ≡ measured (spell_more es) room 0 (k.Symbol s.CloseBrace ∷ rest) (run xs rest)
  first_run none o room xs rest w = refl
  first_run (tree.more x es) o room xs rest w =
      ended x room ((parts, room) ∷ xs) (onto (spell_more es) (k.Symbol s.CloseBrace ∷ rest)) (part_behind es rest)
      (expr_runs x plain 0 0 room ((parts, room) ∷ xs) (onto (spell_more es) (k.Symbol s.CloseBrace ∷ rest)) w.0
      (part_behind es rest).0 refl)
      ∙ ap (measured (spell x) room 0 (onto (spell_more es) (k.Symbol s.CloseBrace ∷ rest)))
      (parts_run es room xs rest w.1)

  parts_run : (es : Exprs) (room : ℕ) (xs : Row Rule) (rest : List Kind) → AreWellFormed es
      → run ((parts, room) ∷ xs) (onto (spell_more es) (k.Symbol s.CloseBrace ∷ rest))
      ≡ measured (spell_more es) room 0 (k.Symbol s.CloseBrace ∷ rest) (run xs rest)
  parts_run none room xs rest w = refl
  parts_run (tree.more x es) room xs rest w =
      ended x room ((parts, room) ∷ xs) (onto (spell_more es) (k.Symbol s.CloseBrace ∷ rest)) (part_behind es rest)
      (expr_runs x plain 0 0 room ((parts, room) ∷ xs) (onto (spell_more es) (k.Symbol s.CloseBrace ∷ rest)) w.0
      (part_behind es rest).0 refl)
      ∙ ap (measured (spell x) room 0 (onto (spell_more es) (k.Symbol s.CloseBrace ∷ rest)))
      (parts_run es room xs rest w.1)

  pub selects_run : (ss : Selects) (room : ℕ) (xs : Row Rule) (rest : List Kind) → AreSelects ss
      → run ((selects, room) ∷ xs) (onto (spell_selects ss) rest)
      ≡ measured (spell_selects ss) room 0 rest (run ((selects, room) ∷ xs) rest)
  selects_run whole room xs rest w = refl
  selects_run (bit p x ss) room xs rest w =
      opened_run 1 room ((expr, left 1 room) ∷ (select_end, left 1 room) ∷ (selects, room) ∷ xs)
      (onto (spell x) (k.Symbol s.CloseBracket ∷ onto (spell_selects ss) rest))
      (measured (spell x) room 1 (k.Symbol s.CloseBracket ∷ onto (spell_selects ss) rest)
      (measured (spell_selects ss) room 0 rest (run ((selects, room) ∷ xs) rest)))
      (λ e. ended x (left 1 room) ((select_end, left 1 room) ∷ (selects, room) ∷ xs)
      (k.Symbol s.CloseBracket ∷ onto (spell_selects ss) rest) (refl, refl)
      (expr_runs x plain 0 0 (left 1 room) ((select_end, left 1 room) ∷ (selects, room) ∷ xs)
      (k.Symbol s.CloseBracket ∷ onto (spell_selects ss) rest) w.0 refl refl)
      ∙ ap (measured (spell x) (left 1 room) 0 (k.Symbol s.CloseBracket ∷ onto (spell_selects ss) rest))
      (selects_run ss room xs rest w.1)
      ∙ shifted (spell x) 1 room (k.Symbol s.CloseBracket ∷ onto (spell_selects ss) rest)
      (measured (spell_selects ss) room 0 rest (run ((selects, room) ∷ xs) rest)) e)
  selects_run (part p x y ss) room xs rest w =
      opened_run 1 room ((expr, left 1 room) ∷ (select_end, left 1 room) ∷ (selects, room) ∷ xs)
      (onto (spell x) (k.Symbol s.Colon ∷ onto (spell y) (k.Symbol s.CloseBracket ∷ onto (spell_selects ss) rest)))
      (measured (level (spell x) ▸ sign s.Colon ▸ spell y) room 1
      (k.Symbol s.CloseBracket ∷ onto (spell_selects ss) rest)
      (measured (spell_selects ss) room 0 rest (run ((selects, room) ∷ xs) rest)))
      (λ e. ended x (left 1 room) ((select_end, left 1 room) ∷ (selects, room) ∷ xs)
      (k.Symbol s.Colon ∷ onto (spell y) (k.Symbol s.CloseBracket ∷ onto (spell_selects ss) rest)) (refl, refl)
      (expr_runs x plain 0 0 (left 1 room) ((select_end, left 1 room) ∷ (selects, room) ∷ xs)
      (k.Symbol s.Colon ∷ onto (spell y) (k.Symbol s.CloseBracket ∷ onto (spell_selects ss) rest)) w.0 refl refl)
      ∙ ap (measured (spell x) (left 1 room) 0
      (k.Symbol s.Colon ∷ onto (spell y) (k.Symbol s.CloseBracket ∷ onto (spell_selects ss) rest)))
      (ended y (left 1 room) ((g.sign s.CloseBracket, left 1 room) ∷ (selects, room) ∷ xs)
      (k.Symbol s.CloseBracket ∷ onto (spell_selects ss) rest) (refl, refl)
      (expr_runs y plain 0 0 (left 1 room) ((g.sign s.CloseBracket, left 1 room) ∷ (selects, room) ∷ xs)
      (k.Symbol s.CloseBracket ∷ onto (spell_selects ss) rest) w.1 refl refl)
      ∙ ap (measured (spell y) (left 1 room) 0 (k.Symbol s.CloseBracket ∷ onto (spell_selects ss) rest))
      (selects_run ss room xs rest w.2))
      ∙ shifted (level (spell x) ▸ sign s.Colon ▸ spell y) 1 room
      (k.Symbol s.CloseBracket ∷ onto (spell_selects ss) rest)
      (measured (spell_selects ss) room 0 rest (run ((selects, room) ∷ xs) rest)) e)
  selects_run (indexed p x y ss) room xs rest w =
      opened_run 1 room ((expr, left 1 room) ∷ (select_end, left 1 room) ∷ (selects, room) ∷ xs)
      (onto (spell x) (k.Symbol s.PlusColon ∷ onto (spell y) (k.Symbol s.CloseBracket ∷ onto (spell_selects ss) rest)))
      (measured (level (spell x) ▸ sign s.PlusColon ▸ spell y) room 1
      (k.Symbol s.CloseBracket ∷ onto (spell_selects ss) rest)
      (measured (spell_selects ss) room 0 rest (run ((selects, room) ∷ xs) rest)))
      (λ e. ended x (left 1 room) ((select_end, left 1 room) ∷ (selects, room) ∷ xs)
      (k.Symbol s.PlusColon ∷ onto (spell y) (k.Symbol s.CloseBracket ∷ onto (spell_selects ss) rest)) (refl, refl)
      (expr_runs x plain 0 0 (left 1 room) ((select_end, left 1 room) ∷ (selects, room) ∷ xs)
      (k.Symbol s.PlusColon ∷ onto (spell y) (k.Symbol s.CloseBracket ∷ onto (spell_selects ss) rest)) w.0 refl refl)
      ∙ ap (measured (spell x) (left 1 room) 0
      (k.Symbol s.PlusColon ∷ onto (spell y) (k.Symbol s.CloseBracket ∷ onto (spell_selects ss) rest)))
      (ended y (left 1 room) ((g.sign s.CloseBracket, left 1 room) ∷ (selects, room) ∷ xs)
      (k.Symbol s.CloseBracket ∷ onto (spell_selects ss) rest) (refl, refl)
      (expr_runs y plain 0 0 (left 1 room) ((g.sign s.CloseBracket, left 1 room) ∷ (selects, room) ∷ xs)
      (k.Symbol s.CloseBracket ∷ onto (spell_selects ss) rest) w.1 refl refl)
      ∙ ap (measured (spell y) (left 1 room) 0 (k.Symbol s.CloseBracket ∷ onto (spell_selects ss) rest))
      (selects_run ss room xs rest w.2))
      ∙ shifted (level (spell x) ▸ sign s.PlusColon ▸ spell y) 1 room
      (k.Symbol s.CloseBracket ∷ onto (spell_selects ss) rest)
      (measured (spell_selects ss) room 0 rest (run ((selects, room) ∷ xs) rest)) e)

-- an expression up to where it ends
pub whole_run : (x : Expr) (room : ℕ) (xs : Row Rule) (rest : List Kind) → IsWellFormed x → Ends rest
    → run ((expr, room) ∷ xs) (onto (spell x) rest) ≡ measured (spell x) room 0 rest (run xs rest)
whole_run x room xs rest w h = ended x room xs rest h (expr_runs x plain 0 0 room xs rest w h.0 refl)

pub parens_run : (x : Expr) (room : ℕ) (xs : Row Rule) (rest : List Kind) → IsWellFormed x
    → run ((in_parens, room) ∷ xs) (k.Symbol s.OpenParen ∷ onto (spell x) (k.Symbol s.CloseParen ∷ rest))
    ≡ measured (parens (spell x)) room 0 rest (run xs rest)
parens_run x room xs rest w =
    opened_run 1 room ((expr, left 1 room) ∷ (g.sign s.CloseParen, room) ∷ xs)
    (onto (spell x) (k.Symbol s.CloseParen ∷ rest))
    (measured (spell x) room 1 (k.Symbol s.CloseParen ∷ rest) (run xs rest))
    (λ e. whole_run x (left 1 room) ((g.sign s.CloseParen, room) ∷ xs) (k.Symbol s.CloseParen ∷ rest) w (refl, refl)
    ∙ shifted (spell x) 1 room (k.Symbol s.CloseParen ∷ rest) (run xs rest) e)

pub value_run : (v : Option Expr) (room : ℕ) (xs : Row Rule) (rest : List Kind) → IsValue v → Ends rest
    → Leaves value rest
    → run ((value, room) ∷ xs) (onto (spell_value v) rest) ≡ measured (spell_value v) room 0 rest (run xs rest)
value_run None room xs rest w h g = leaves_run value room xs rest g
value_run (Some x) room xs rest w h g = whole_run x room xs rest w h
