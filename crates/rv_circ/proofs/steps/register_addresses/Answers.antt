use Rattle.std.proofs.Common.{◌∙◌}
use Rattle.rv_table.specs.Effect.{where_there}
use Rattle.rv_table.specs.Fields.{field}
use Rattle.wn_net.specs.Net.{value_at}
use Rattle.wn_net.proofs.Laws.{adds_on, node_on, value_on}
use Rattle.rv_circ.proofs.steps.register_addresses.Goals as goal

pub returns-clause-shows : goal.returns-clause-shows
returns-clause-shows c =
    let word = c.args.word in
    let old = c.args.net.now in
    let first = c.in_ok-rs1.ensures in
    let second = c.in_ok-rs2.ensures in
    let third = c.in_ok-rd.ensures in
    let to2 = adds_on _ _ _ first.adds second.adds in
    let rest = adds_on _ _ _ second.adds third.adds in
    record {
      rs1 = record {
        node = node_on _ _ 5 c.in_ok-rs1.rs1 rest first.shows.node;
        value = λ g given.
            value_on _ _ g c.in_ok-rs1.rs1 rest first.shows.node.0 ∙ first.shows.value g given
            ∙ (λ i. where_there (c.reads_first.ensures i) (field 19 15 (value_at old g word)));
      };
      rs2 = record {
        node = node_on _ _ 5 c.in_ok-rs2.rs2 third.adds second.shows.node;
        value = λ g given.
            value_on _ _ g c.in_ok-rs2.rs2 third.adds second.shows.node.0
            ∙ second.shows.value g (first.adds.keeps.given g given)
            ∙ (λ i. where_there (c.reads_second.ensures i)
            (field 24 20 (first.adds.keeps.values g word c.requires.0 i)));
      };
      rd = record {
        node = third.shows.node;
        value = λ g given.
            third.shows.value g (to2.keeps.given g given)
            ∙ (λ i. where_there (c.writes.ensures i) (field 11 7 (to2.keeps.values g word c.requires.0 i)));
      };
    }
