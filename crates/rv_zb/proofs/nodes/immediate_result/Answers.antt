use Rattle.std.proofs.Common.{◌∙◌}
use Rattle.wn_net.proofs.Laws.{given_on}
use Rattle.rv_zb.specs.Effect.{bit_result}
use Rattle.rv_zb.proofs.nodes.immediate_result.Goals as goal

pub returns-clause-shows : goal.returns-clause-shows
returns-clause-shows c =
    let index = c.in_ok-index.ensures in
    let value = c.in_ok-value.ensures in
    record {
      node = value.shows.node;
      value = λ g given.
          value.shows.value g (given_on _ _ g index.adds given)
          ∙ (λ i. bit_result c.args.row (index.adds.keeps.values g c.args.s1 c.requires.first.0 i)
          (index.shows.value g given i));
    }
