use Rattle.std.proofs.Common.{◌≡◌, ℕ, ◌+◌, ◌*◌, ◌≤◌, List, length}
use Rattle.vl_tree.specs.Phrase.{Spells}
use Rattle.vl_tree.specs.Lval.{lvals}
use Rattle.vl_tree.specs.LvalSpelling as spec
use Rattle.vl_tree.specs.LvalWellFormed as formed
use Rattle.vl_parse_grammar.specs.Machine.{then}
use Rattle.vl_parse_grammar.specs.Grammar as grammar
use Rattle.vl_parse_cursor.specs.Next.{kinds_in}
use Rattle.vl_parse_decl.proofs.lval.+lval.Given as goal

abbrev pub decreases-read_lval : goal.decreases-read_lval
decreases-read_lval l = 2 * length l.tokens.now

abbrev pub decreases-read_lvals : goal.decreases-read_lvals
decreases-read_lvals l = 2 * length l.tokens.now + 1

abbrev pub invariant-read_lvals-loop-behind : goal.invariant-read_lvals-loop-behind
invariant-read_lvals-loop-behind l = record {
  found : Spells (spec.spell_parts (lvals l.all)) l.fn.tokens l.rest;
  some : formed.IsSome (lvals l.all);
  formed : formed.AreWellFormed (lvals l.all);
  shorter : length l.rest ≤ length l.fn.tokens;
  goes : then (grammar.read grammar.target l.fn.room (kinds_in l.fn.tokens))
      (λ r. grammar.read grammar.targets l.fn.room r)
      ≡ grammar.read grammar.targets l.fn.room (kinds_in l.rest);
}

abbrev pub decreases-read_lvals-loop-behind : goal.decreases-read_lvals-loop-behind
decreases-read_lvals-loop-behind l = length l.rest
