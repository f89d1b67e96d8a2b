use Rattle.std.specs.Prelude.{bit_and}
use Rattle.std.proofs.Common.{◌∙◌}
use Rattle.wn_net.proofs.Laws.{built_node}
use Rattle.rv_circ.proofs.byte.byte_agrees_and.Goals as goal

pub returns-clause-shows : goal.returns-clause-shows
returns-clause-shows c =
    let byte = c.in_ok-byte.ensures in
    let test = c.in_ok-test.ensures.built in
    let made = built_node _ _ _ _ _ _ test in
    record {
      node = (made.0, made.1 ∙ byte.shows.node.1);
      value = λ g given.
          test.value g
          ∙ (λ i. bit_and (byte.shows.value g given i) (byte.adds.keeps.values g c.args.rest c.requires.rest.0 i));
    }
