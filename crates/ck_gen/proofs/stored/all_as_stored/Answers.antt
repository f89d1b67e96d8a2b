use Rattle.std.specs.Prelude.{◌≡◌, ◌==◌, ◌&&◌, ◌||◌, not}
use Rattle.std.proofs.Common.{◌∙◌}
use Rattle.fv_bits.specs.Bits.{part}
use Rattle.wn_net.specs.Net.{value_at}
use Rattle.wn_net.proofs.Laws.{adds_on, given_on, value_on}
use Rattle.ck_history.proofs.Laws.{told, one_on}
use Rattle.ck_history.specs.Entries.{entry_at}
use Rattle.ck_history.proofs.Entries.{entry_on, show_on}
use Rattle.ck_history.specs.Searches.{first_agrees}
use Rattle.ck_gen.specs.Kept.{entry, sought_store}
use Rattle.ck_gen.proofs.stored.all_as_stored.Goals as goal

pub returns-clause-tells : goal.returns-clause-tells
returns-clause-tells c =
    let old = c.args.net.now in
    let one = c.own_store.new.net in
    let two = c.two_as_stored.new.net in
    let three = c.two_as_stored-2.new.net in
    let x = c.args.channel.now in
    let words = c.args.words.now in
    let mask = c.requires.channel.mem_rmask in
    let own = c.in_ok-own.ensures in
    let low = c.in_ok-low.ensures in
    let high = c.in_ok-high.ensures in
    let id = c.in_ok-id.ensures in
    let to_two = adds_on old one two own.adds low.adds in
    let to_three = adds_on old two three to_two high.adds in
    record {
      node = id.tells.node;
      value = λ g es given show.
          let wanted = entry (value_at old g x.valid) (value_at old g x.mem_addr) (value_at old g x.rd_addr)
          (value_at old g x.mem_rdata) in
          let first : entry_at one g c.in_ok-own.own ≡ wanted = own.value g in
          let second : entry_at two g c.in_ok-own.own ≡ wanted =
          entry_on one two g c.in_ok-own.own low.adds own.nodes ∙ first in
          told three c.both.new.net _ c.in_ok-id.id g id.tells (given_on old three g to_three given)
          ∙ (λ i. (one_on two three g c.in_ok-low.low high.adds low.tells.node.0
          ∙ low.tells.value g es (given_on old one g own.adds given)
          (show_on old one 102 g words es own.adds c.requires.words show)
          ∙ (λ j. (not (part 0 1 (value_on old one g x.mem_rmask own.adds mask.0 j) == 1)
          || first_agrees (sought_store 0) (first j) es)
          && (not (part 1 1 (value_on old one g x.mem_rmask own.adds mask.0 j) == 1)
          || first_agrees (sought_store 1) (first j) es))) i
          && (high.tells.value g es (given_on old two g to_two given)
          (show_on old two 102 g words es to_two c.requires.words show)
          ∙ (λ j. (not (part 2 1 (value_on old two g x.mem_rmask to_two mask.0 j) == 1)
          || first_agrees (sought_store 2) (second j) es)
          && (not (part 3 1 (value_on old two g x.mem_rmask to_two mask.0 j) == 1)
          || first_agrees (sought_store 3) (second j) es))) i);
    }
