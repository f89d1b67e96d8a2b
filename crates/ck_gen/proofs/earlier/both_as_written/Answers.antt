use Rattle.std.specs.Prelude.{◌==◌, ◌&&◌, ◌||◌}
use Rattle.std.proofs.Common.{◌∙◌}
use Rattle.wn_net.proofs.Laws.{adds_on, given_on, value_on}
use Rattle.ck_history.proofs.Laws.{told, one_on}
use Rattle.ck_history.proofs.Entries.{entry_on, show_on}
use Rattle.ck_history.specs.declared.entry.EntryNodes.{EntryNodes}
use Rattle.ck_history.specs.Searches.{first_agrees}
use Rattle.ck_gen.specs.Kept.{sought_write}
use Rattle.ck_gen.proofs.earlier.both_as_written.Goals as goal

pub returns-clause-tells : goal.returns-clause-tells
returns-clause-tells c =
    let old = c.args.net.now in
    let one = c.zero_or_agrees.new.net in
    let two = c.zero_or_agrees-2.new.net in
    let x = c.args.channel.now in
    let own = c.requires.channel in
    let first = c.in_ok-first.ensures in
    let second = c.in_ok-second.ensures in
    let id = c.in_ok-id.ensures in
    let source : EntryNodes = record { there = x.valid; key = x.order; small = x.rs2_addr; word = x.rs2_rdata } in
    record {
      node = id.tells.node;
      value = λ g es given show.
          let given1 = given_on old one g first.adds given in
          told two c.both.new.net _ c.in_ok-id.id g id.tells
          (given_on old two g (adds_on old one two first.adds second.adds) given)
          ∙ (λ i. (one_on one two g c.in_ok-first.first second.adds first.tells.node.0
          ∙ first.tells.value g es given show) i
          && (second.tells.value g es given1 (show_on old one 102 g c.args.words.now es first.adds c.requires.words
          show)
          ∙ (λ j. (value_on old one g x.rs2_addr first.adds own.rs2_addr.0 j == 0)
          || first_agrees sought_write (entry_on old one g source first.adds
          (record { there = own.valid; key = own.order; small = own.rs2_addr; word = own.rs2_rdata }) j) es)) i);
    }
