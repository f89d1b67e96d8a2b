use Rattle.std.proofs.Common.{◌∙◌}
use Rattle.rv_table.specs.Effect.{effect}
use Rattle.wn_net.proofs.Laws.{node_on}
use Rattle.rvfi_port.proofs.AddedNodes.{retire_on}
use Rattle.rv_circ.proofs.effect.add_circuit.Goals as goal

pub returns-clause-hit : goal.returns-clause-hit
returns-clause-hit c =
    let hit = c.in_ok-hit.ensures in
    let outcome = c.in_ok-outcome.ensures in
    record {
      node = node_on _ _ 1 c.in_ok-hit.hit outcome.adds hit.shows.node;
      value = λ g given.
          outcome.adds.keeps.values g c.in_ok-hit.hit hit.shows.node.0 ∙ hit.shows.value g given;
    }

pub returns-clause-effect : goal.returns-clause-effect
returns-clause-effect c =
    let hit = c.in_ok-hit.ensures in
    let outcome = c.in_ok-outcome.ensures in
    record {
      nodes = outcome.shows.nodes;
      value = λ g given.
          outcome.shows.value g (hit.adds.keeps.given g given)
          ∙ (λ i. effect c.args.row (retire_on _ _ g c.args.channel.now hit.adds c.requires i) c.args.opts);
    }
