use Rattle.std.proofs.Common.{◌∙◌}
use Rattle.rv_table.specs.Effect.{base_effect, step}
use Rattle.wn_net.specs.Net.{value_at}
use Rattle.rvfi_port.specs.Channels.{retire_at}
use Rattle.rv_circ.proofs.effect.word_effect.Goals as goal

pub returns-clause-shows : goal.returns-clause-shows
returns-clause-shows c =
    let old = c.args.net.now in
    let found = c.in_ok-step.ensures in
    let outcome = c.in_ok-outcome.ensures in
    record {
      nodes = outcome.shows.nodes;
      value = λ g given.
          outcome.shows.value g (found.adds.keeps.given g given)
          ∙ (λ i. base_effect c.args.row (found.shows.value g given i))
          ∙ (λ i. base_effect c.args.row (step (c.pattern.ensures i).form (value_at old g c.args.word) c.args.length
          (retire_at old g c.args.channel.now) c.args.opts));
    }
