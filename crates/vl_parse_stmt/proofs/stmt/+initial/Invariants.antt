use Rattle.std.proofs.Common.{◌≡◌, ℕ, ◌+◌, ◌*◌, ◌≤◌, length}
use Rattle.vl_tree.specs.Phrase.{Spells}
use Rattle.vl_tree.specs.Stmt as tree
use Rattle.vl_tree.specs.StmtSpelling as spec
use Rattle.vl_tree.specs.StmtWellFormed as formed
use Rattle.vl_parse_grammar.specs.Grammar as grammar
use Rattle.vl_parse_cursor.specs.Next.{kinds_in}
use Rattle.vl_parse_stmt.proofs.stmt.+initial.Given as goal

abbrev pub decreases-read_initial : goal.decreases-read_initial
decreases-read_initial l = 2 * length l.tokens.now

abbrev pub decreases-read_initials : goal.decreases-read_initials
decreases-read_initials l = 2 * length l.tokens.now + 1

abbrev pub invariant-read_initials-loop-behind : goal.invariant-read_initials-loop-behind
invariant-read_initials-loop-behind l = record {
  found : Spells (spec.spell_all (tree.stmts l.all)) l.fn.tokens l.rest;
  initial : formed.AreInitial (tree.stmts l.all);
  formed : formed.AreWellFormed (tree.stmts l.all);
  shorter : length l.rest ≤ length l.fn.tokens;
  goes : grammar.read grammar.initial_stmts l.fn.room (kinds_in l.fn.tokens)
      ≡ grammar.read grammar.initial_stmts l.fn.room (kinds_in l.rest);
}

abbrev pub decreases-read_initials-loop-behind : goal.decreases-read_initials-loop-behind
decreases-read_initials-loop-behind l = length l.rest
