use Rattle.std.proofs.Common.{◌≡◌, ◌≤◌, length}
use Rattle.std.specs.Prelude.{All}
use Rattle.vl_tree.specs.Phrase.{Spells, each}
use Rattle.vl_tree.specs.ItemSpelling as spec
use Rattle.vl_tree.specs.WellFormed as formed
use Rattle.vl_parse_grammar.specs.Grammar as grammar
use Rattle.vl_parse_cursor.specs.Next.{kinds_in}
use Rattle.vl_parse.proofs.source.read_modules.Given as goal

abbrev pub invariant-loop-rest : goal.invariant-loop-rest
invariant-loop-rest l = record {
  found : Spells (each spec.spell_module l.modules) l.fn.tokens l.rest;
  formed : All formed.IsModule l.modules;
  shorter : length l.rest ≤ length l.fn.tokens;
  goes : grammar.read grammar.modules l.fn.room (kinds_in l.fn.tokens)
      ≡ grammar.read grammar.modules l.fn.room (kinds_in l.rest);
}

abbrev pub decreases-loop-rest : goal.decreases-loop-rest
decreases-loop-rest l = length l.rest
