use Rattle.std.proofs.Common.{◌≡◌, ◌≤◌, List, length}
use Rattle.fv_text.specs.declared.token.Token.{Token}
use Rattle.vl_tree.specs.DeclarationWellFormed.{AreSome}
use Rattle.vl_tree.specs.Phrase.{Spells, between_commas}
use Rattle.vl_parse_grammar.specs.Grammar as grammar
use Rattle.vl_parse_decl.specs.Lists.{BeginsWith}
use Rattle.vl_parse_cursor.specs.Next.{kinds_in}
use Rattle.vl_parse_decl.proofs.list.read_list_behind.Given as goal

abbrev pub invariant-loop-behind : goal.invariant-loop-behind
invariant-loop-behind g l = record {
  found : (start : List Token) → Spells (g.T.Element.phrase l.fn.first) start l.fn.tokens
      → Spells (between_commas g.T.Element.phrase l.all) start l.rest;
  first : BeginsWith l.fn.first l.all;
  formed : AreSome g.T.Element.fits l.all;
  shorter : length l.rest ≤ length l.fn.tokens;
  goes : grammar.read g.T.Element.tail l.fn.room (kinds_in l.fn.tokens)
      ≡ grammar.read g.T.Element.tail l.fn.room (kinds_in l.rest);
}

abbrev pub decreases-loop-behind : goal.decreases-loop-behind
decreases-loop-behind g l = length l.rest
