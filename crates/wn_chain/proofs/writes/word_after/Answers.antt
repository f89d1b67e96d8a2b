use Rattle.std.specs.Prelude.{◌==◌, if◌then◌else◌}
use Rattle.std.proofs.Common.{◌∙◌}
use Rattle.wn_net.proofs.Laws.{value_on, built_node}
use Rattle.wn_chain.proofs.writes.word_after.Goals as goal

pub returns-clause-shows : goal.returns-clause-shows
returns-clause-shows c =
    let net = c.args.net.now in
    let one = c.changed_word.new.net in
    let made = c.in_ok-changed.ensures in
    let after = c.in_ok-after.ensures.built in
    record {
      node = ((built_node _ _ _ _ _ _ after).0, after.width ∙ made.shows.node.1);
      value = λ g given.
          after.value g
          ∙ (λ i. if value_on net one g c.args.acts made.adds c.requires.acts.0 i == 1 then made.shows.value g given i
          else value_on net one g c.args.word made.adds c.requires.word i);
    }
