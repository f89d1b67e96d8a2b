use Rattle.std.specs.Prelude.{◌+◌, ◌==◌, ◌&&◌, ◌||◌, not}
use Rattle.std.proofs.Common.{◌∙◌}
use Rattle.fv_bits.specs.Bits.{part}
use Rattle.wn_net.proofs.Laws.{adds_on, given_on, value_on}
use Rattle.ck_history.proofs.Laws.{told, one_on}
use Rattle.ck_history.proofs.Entries.{entry_on, show_on}
use Rattle.ck_history.specs.Searches.{first_agrees}
use Rattle.ck_gen.specs.Kept.{sought_store}
use Rattle.ck_gen.proofs.stored.two_as_stored.Goals as goal

pub returns-clause-tells : goal.returns-clause-tells
returns-clause-tells c =
    let old = c.args.net.now in
    let one = c.byte_as_stored.new.net in
    let two = c.byte_as_stored-2.new.net in
    let first = c.in_ok-first.ensures in
    let second = c.in_ok-second.ensures in
    let id = c.in_ok-id.ensures in
    let next = c.args.index + 1 in
    record {
      node = id.tells.node;
      value = λ g es given show.
          told two c.both.new.net _ c.in_ok-id.id g id.tells
          (given_on old two g (adds_on old one two first.adds second.adds) given)
          ∙ (λ i. (one_on one two g c.in_ok-first.first second.adds first.tells.node.0
          ∙ first.tells.value g es given show) i
          && (second.tells.value g es (given_on old one g first.adds given)
          (show_on old one 102 g c.args.words.now es first.adds c.requires.words show)
          ∙ (λ j. not (part next 1 (value_on old one g c.args.mask first.adds c.requires.mask.0 j) == 1)
          || first_agrees (sought_store next) (entry_on old one g c.args.own first.adds c.requires.own j) es)) i);
    }
