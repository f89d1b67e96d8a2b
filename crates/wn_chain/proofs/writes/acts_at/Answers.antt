use Rattle.std.specs.Prelude.{◌==◌, bit_and}
use Rattle.std.proofs.Common.{◌∙◌}
use Rattle.wn_net.specs.Net.{value_at}
use Rattle.wn_net.proofs.Laws.{value_on, built_node}
use Rattle.wn_mem.proofs.After.{both_are, one_bit}
use Rattle.wn_chain.proofs.writes.acts_at.Goals as goal

pub returns-clause-shows : goal.returns-clause-shows
returns-clause-shows c =
    let net = c.args.net.now in
    let one = c.same_address.new.net in
    let write = c.args.write.now in
    let same = c.in_ok-same.ensures in
    let acts = c.in_ok-acts.ensures.built in
    record {
      node = (
        (built_node _ _ _ _ _ _ acts).0,
        acts.width ∙ same.adds.keeps.widths write.enable c.requires.enable.0 ∙ c.requires.enable.1,
      );
      value = λ g given.
          acts.value g
          ∙ (λ i. bit_and (value_on net one g write.enable same.adds c.requires.enable.0 i)
          (same.shows.value g given i))
          ∙ both_are (value_at net g write.enable) (value_at net g write.addr == value_at net g c.args.addr)
          (one_bit net g write.enable c.width-width.ensures.whole given c.requires.enable);
    }
