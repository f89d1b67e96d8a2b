use Rattle.std.proofs.Common.{◌≡◌, ◌+◌, ◌*◌, ◌≤◌, List, length}
use Rattle.fv_text.specs.declared.token.Token.{Token}
use Rattle.vl_tree.specs.Phrase.{Spells}
use Rattle.vl_tree.specs.Expr.{exprs}
use Rattle.vl_tree.specs.ExprView.{selects}
use Rattle.vl_tree.specs.ExprSpelling as spec
use Rattle.vl_tree.specs.ExprWellFormed as formed
use Rattle.vl_parse_grammar.specs.Grammar as grammar
use Rattle.vl_parse_cursor.specs.Next.{kinds_in}
use Rattle.vl_parse_expr.proofs.expr.+expr.Given as goal

abbrev pub decreases-braces : goal.decreases-braces
decreases-braces l = 4 * length l.tokens.now + 3

abbrev pub decreases-chain : goal.decreases-chain
decreases-chain l = 4 * length l.tokens.now + 2

abbrev pub decreases-climb : goal.decreases-climb
decreases-climb l = 4 * length l.tokens.now

abbrev pub decreases-operand : goal.decreases-operand
decreases-operand l = 4 * length l.tokens.now + 1

abbrev pub decreases-parts_behind : goal.decreases-parts_behind
decreases-parts_behind l = 4 * length l.tokens.now

abbrev pub decreases-read_expr : goal.decreases-read_expr
decreases-read_expr l = 4 * length l.tokens.now + 3

abbrev pub decreases-read_parens : goal.decreases-read_parens
decreases-read_parens l = 4 * length l.tokens.now

abbrev pub decreases-read_select : goal.decreases-read_select
decreases-read_select l = 4 * length l.tokens.now

abbrev pub decreases-read_select_end : goal.decreases-read_select_end
decreases-read_select_end l = 4 * length l.tokens.now

abbrev pub decreases-read_selects : goal.decreases-read_selects
decreases-read_selects l = 4 * length l.tokens.now + 1

abbrev pub invariant-parts_behind-loop-behind : goal.invariant-parts_behind-loop-behind
invariant-parts_behind-loop-behind l = record {
  found : (start : List Token) → Spells (spec.spell l.fn.first) start l.fn.tokens
      → Spells (spec.spell_parts (exprs l.parts)) start l.rest;
  some : formed.IsSome (exprs l.parts);
  formed : formed.AreWellFormed (exprs l.parts);
  shorter : length l.rest ≤ length l.fn.tokens;
  goes : grammar.read grammar.parts l.fn.room (kinds_in l.fn.tokens)
      ≡ grammar.read grammar.parts l.fn.room (kinds_in l.rest);
}

abbrev pub decreases-parts_behind-loop-behind : goal.decreases-parts_behind-loop-behind
decreases-parts_behind-loop-behind l = length l.rest

abbrev pub invariant-read_selects-loop-behind : goal.invariant-read_selects-loop-behind
invariant-read_selects-loop-behind l = record {
  found : Spells (spec.spell_selects (selects l.all)) l.fn.tokens l.rest;
  formed : formed.AreSelects (selects l.all);
  shorter : length l.rest ≤ length l.fn.tokens;
  goes : grammar.read grammar.selects l.fn.room (kinds_in l.fn.tokens)
      ≡ grammar.read grammar.selects l.fn.room (kinds_in l.rest);
}

abbrev pub decreases-read_selects-loop-behind : goal.decreases-read_selects-loop-behind
decreases-read_selects-loop-behind l = length l.rest
