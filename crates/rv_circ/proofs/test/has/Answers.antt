use Rattle.std.proofs.Common.{◌∙◌}
use Rattle.wn_net.specs.Net.{value_at}
use Rattle.wn_net.proofs.Laws.{built_node}
use Rattle.rv_circ.proofs.TestLemmas.{has_is}
use Rattle.rv_circ.proofs.test.has.Goals as goal

pub returns-clause-shows : goal.returns-clause-shows
returns-clause-shows c =
    let test = c.in_ok-test.ensures.built in
    record {
      node = built_node _ _ _ _ _ _ test;
      value = λ g given. test.value g ∙ has_is c.args.index (value_at c.args.net.now g c.args.mask);
    }
