use Rattle.std.proofs.Common.{◌≡◌, ◌≤◌, length}
use Rattle.vl_tree.specs.Phrase.{Spells}
use Rattle.vl_tree.specs.DeclarationSpelling as spec
use Rattle.vl_tree.specs.DeclarationWellFormed as formed
use Rattle.vl_parse_grammar.specs.Grammar as grammar
use Rattle.vl_parse_decl.specs.Before.{rule_of}
use Rattle.vl_parse_cursor.specs.Next.{kinds_in}
use Rattle.vl_parse_decl.proofs.attribute.read_attributes.Given as goal

abbrev pub invariant-loop-inside : goal.invariant-loop-inside
invariant-loop-inside l = record {
  found : Spells (spec.spell_attributes l.all) l.fn.tokens l.rest;
  formed : formed.AreAttributes l.all;
  shorter : length l.rest ≤ length l.fn.tokens;
  goes : grammar.read (rule_of l.fn.before) l.fn.room (kinds_in l.fn.tokens)
      ≡ grammar.read (rule_of l.fn.before) l.fn.room (kinds_in l.rest);
}

abbrev pub decreases-loop-inside : goal.decreases-loop-inside
decreases-loop-inside l = length l.rest
