use Rattle.std.proofs.Common.{◌≡◌, ◌≤◌, ◌<◌, length}
use Rattle.vl_tree.specs.DeclarationWellFormed.{AreSome}
use Rattle.vl_tree.specs.Phrase.{Spells, between_commas}
use Rattle.vl_tree.specs.StmtSpelling as spec
use Rattle.vl_tree.specs.StmtWellFormed as formed
use Rattle.vl_parse_grammar.specs.Machine.{then}
use Rattle.vl_parse_grammar.specs.Grammar as grammar
use Rattle.vl_parse_cursor.specs.Next.{kinds_in}
use Rattle.vl_parse_stmt.proofs.arm.read_labels.Given as goal

abbrev pub invariant-loop-behind : goal.invariant-loop-behind
invariant-loop-behind l = record {
  found : Spells (between_commas spec.spell_one_label l.all) l.fn.tokens l.rest;
  formed : AreSome (λ e. formed.IsLabel l.fn.kind e) l.all;
  shorter : length l.rest < length l.fn.tokens;
  goes : then (grammar.read (grammar.label l.fn.kind) l.fn.room (kinds_in l.fn.tokens))
      (λ r. grammar.read (grammar.labels l.fn.kind) l.fn.room r)
      ≡ grammar.read (grammar.labels l.fn.kind) l.fn.room (kinds_in l.rest);
}

abbrev pub decreases-loop-behind : goal.decreases-loop-behind
decreases-loop-behind l = length l.rest
