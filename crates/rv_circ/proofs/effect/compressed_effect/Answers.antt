use Rattle.std.proofs.Common.{◌∙◌}
use Rattle.rv_table.specs.Effect.{effect, word_effect}
use Rattle.rvfi_port.proofs.AddedNodes.{retire_on}
use Rattle.rv_circ.proofs.effect.compressed_effect.Goals as goal

pub returns-clause-shows : goal.returns-clause-shows
unfolding effect
returns-clause-shows c =
    let word = c.in_ok-word.ensures in
    let outcome = c.in_ok-outcome.ensures in
    record {
      nodes = outcome.shows.nodes;
      value = λ g given.
          outcome.shows.value g (word.adds.keeps.given g given)
          ∙ (λ i. word_effect (c.base.ensures i) (word.shows.value g given i) 2
          (retire_on _ _ g c.args.channel.now word.adds c.requires i) c.args.opts);
    }
