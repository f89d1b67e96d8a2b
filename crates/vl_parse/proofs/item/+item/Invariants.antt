use Rattle.std.proofs.Common.{◌≡◌, ◌+◌, ◌*◌, ◌≤◌, length}
use Rattle.vl_tree.specs.Phrase.{Spells}
use Rattle.vl_parse_grammar.specs.Grammar as grammar
use Rattle.vl_parse.specs.Items as items
use Rattle.vl_parse_cursor.specs.Next.{kinds_in}
use Rattle.vl_parse.proofs.item.+item.Given as goal

abbrev pub decreases-read_item : goal.decreases-read_item
decreases-read_item l = 5 * length l.tokens.now

abbrev pub decreases-read_if : goal.decreases-read_if
decreases-read_if l = 5 * length l.tokens.now

abbrev pub decreases-read_for : goal.decreases-read_for
decreases-read_for l = 5 * length l.tokens.now

abbrev pub decreases-read_block : goal.decreases-read_block
decreases-read_block l = 5 * length l.tokens.now + 2

abbrev pub decreases-read_short_block : goal.decreases-read_short_block
decreases-read_short_block l = 5 * length l.tokens.now + 1

abbrev pub decreases-read_front : goal.decreases-read_front
decreases-read_front l = 5 * length l.tokens.now + 1

abbrev pub decreases-read_items : goal.decreases-read_items
decreases-read_items l = 5 * length l.tokens.now + 2

abbrev pub decreases-read_labelled : goal.decreases-read_labelled
decreases-read_labelled l = 5 * length l.tokens.now + 3

abbrev pub invariant-read_items-loop-behind : goal.invariant-read_items-loop-behind
invariant-read_items-loop-behind l = record {
  found : Spells (items.spell_reading l.reading) l.fn.tokens l.rest;
  formed : items.IsReading l.reading;
  shorter : length l.rest ≤ length l.fn.tokens;
  goes : grammar.read (grammar.items (items.ending_of l.fn.ending)) l.fn.room (kinds_in l.fn.tokens)
      ≡ items.still l.reading.regions l.fn.ending l.fn.room (kinds_in l.rest);
}

abbrev pub decreases-read_items-loop-behind : goal.decreases-read_items-loop-behind
decreases-read_items-loop-behind l = length l.rest
