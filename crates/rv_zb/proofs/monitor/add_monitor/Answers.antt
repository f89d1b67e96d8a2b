use Rattle.std.specs.Prelude.{bit_and}
use Rattle.std.proofs.Common.{◌∙◌}
use Rattle.wn_net.specs.Net.{value_at}
use Rattle.wn_net.proofs.Laws.{node_on, built_node}
use Rattle.wn_net.proofs.Moved.{value_within}
use Rattle.rvfi_port.specs.Channels.{retire_at, retires}
use Rattle.rv_words.proofs.BitLemmas.{both_is}
use Rattle.rv_circ.proofs.TestLemmas.{told}
use Rattle.rv_zb.specs.Monitors.{disagrees}
use Rattle.rv_zb.proofs.monitor.add_monitor.Goals as goal

pub returns-clause-shows : goal.returns-clause-shows
returns-clause-shows c =
    let old = c.args.net.now in
    let channel = c.args.channel.now in
    let valid = c.requires.valid in
    let differs = c.in_ok-differs.ensures in
    let test = c.in_ok-test.ensures.built in
    let made = built_node _ _ _ _ _ _ test in
    let there = node_on _ _ 1 channel.valid differs.adds valid in
    record {
      node = (made.0, made.1 ∙ there.1);
      value = λ g given.
          let here = differs.adds.keeps.values g channel.valid valid.0
          ∙ told (value_at old g channel.valid)
          (value_within old g 1 channel.valid c.width.ensures.whole given valid) in
          test.value g
          ∙ (λ i. bit_and (here i) (differs.shows.value g given i))
          ∙ both_is (retires old g channel) (disagrees c.args.row (retire_at old g channel));
    }
