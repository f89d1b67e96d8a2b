use Rattle.std.proofs.Common.{◌≡◌, ℕ, ◌+◌, ◌*◌, ◌≤◌, length}
use Rattle.vl_tree.specs.Phrase.{Spells}
use Rattle.vl_tree.specs.Stmt as tree
use Rattle.vl_tree.specs.StmtSpelling as spec
use Rattle.vl_tree.specs.StmtWellFormed as formed
use Rattle.vl_parse_grammar.specs.Grammar as grammar
use Rattle.vl_tree.specs.StmtView.{arms}
use Rattle.vl_parse_stmt.specs.Arms.{number_of}
use Rattle.vl_parse_cursor.specs.Next.{kinds_in}
use Rattle.vl_parse_stmt.proofs.stmt.+stmt.Given as goal

abbrev pub decreases-read_stmt : goal.decreases-read_stmt
decreases-read_stmt l = 4 * length l.tokens.now + 1

abbrev pub decreases-read_boxed : goal.decreases-read_boxed
decreases-read_boxed l = 4 * length l.tokens.now + 2

abbrev pub decreases-read_bare : goal.decreases-read_bare
decreases-read_bare l = 4 * length l.tokens.now

abbrev pub decreases-read_if : goal.decreases-read_if
decreases-read_if l = 4 * length l.tokens.now

abbrev pub decreases-read_case : goal.decreases-read_case
decreases-read_case l = 4 * length l.tokens.now

abbrev pub decreases-read_labelled : goal.decreases-read_labelled
decreases-read_labelled l = 4 * length l.tokens.now + 3

abbrev pub decreases-read_stmts : goal.decreases-read_stmts
decreases-read_stmts l = 4 * length l.tokens.now + 2

abbrev pub invariant-read_stmts-loop-behind : goal.invariant-read_stmts-loop-behind
invariant-read_stmts-loop-behind l = record {
  found : Spells (spec.spell_all (tree.stmts l.all)) l.fn.tokens l.rest;
  formed : formed.AreWellFormed (tree.stmts l.all);
  shorter : length l.rest ≤ length l.fn.tokens;
  goes : grammar.read grammar.stmts l.fn.room (kinds_in l.fn.tokens)
      ≡ grammar.read grammar.stmts l.fn.room (kinds_in l.rest);
}

abbrev pub decreases-read_stmts-loop-behind : goal.decreases-read_stmts-loop-behind
decreases-read_stmts-loop-behind l = length l.rest

abbrev pub decreases-read_arms : goal.decreases-read_arms
decreases-read_arms l = 4 * length l.tokens.now + 1

abbrev pub decreases-read_arm : goal.decreases-read_arm
decreases-read_arm l = 4 * length l.tokens.now

abbrev pub invariant-read_arms-loop-behind : goal.invariant-read_arms-loop-behind
invariant-read_arms-loop-behind l = record {
  found : Spells (spec.spell_arms (arms l.all)) l.fn.tokens l.rest;
  some : formed.AreArmsSome (arms l.all);
  counted : number_of l.has_default ≡ formed.default_count (arms l.all);
  formed : formed.AreArms l.fn.kind (arms l.all);
  shorter : length l.rest ≤ length l.fn.tokens;
  goes : grammar.read (grammar.first_arm l.fn.kind) l.fn.room (kinds_in l.fn.tokens)
      ≡ grammar.read (grammar.arms l.fn.kind l.has_default) l.fn.room (kinds_in l.rest);
}

abbrev pub decreases-read_arms-loop-behind : goal.decreases-read_arms-loop-behind
decreases-read_arms-loop-behind l = length l.rest
