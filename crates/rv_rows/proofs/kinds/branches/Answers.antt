use Rattle.std.specs.Prelude.{◌==◌}
use Rattle.std.proofs.Common.{◌∙◌}
use Rattle.rv_table.specs.Arithmetic.{sum}
use Rattle.rv_table.specs.Immediates.{b_immediate}
use Rattle.rv_table.specs.Effect.{gives}
use Rattle.wn_net.specs.Net.{value_at}
use Rattle.wn_net.proofs.Laws.{adds_on}
use Rattle.rv_words.specs.Nodes.{step_at}
use Rattle.rv_rows.specs.Effects.{goes_where}
use Rattle.rv_rows.proofs.StepLemmas.{step_on, effect_on}
use Rattle.rv_rows.proofs.TakenLemmas.{branches_is}
use Rattle.rv_rows.proofs.kinds.branches.Goals as goal

pub returns-clause-shows : goal.returns-clause-shows
returns-clause-shows c =
    let old = c.args.net.now in
    let step = c.args.step.now in
    let own = c.requires.step in
    let taken = c.requires.taken in
    let zero = c.in_ok-zero.ensures in
    let stays = c.in_ok-stays.ensures in
    let target = c.in_ok-target.ensures in
    let outcome = c.in_ok-outcome.ensures in
    let to2 = adds_on _ _ _ zero.adds stays.adds in
    let to3 = adds_on _ _ _ to2 target.adds in
    record {
      nodes = outcome.shows.nodes;
      value = λ g given.
          let given1 = zero.adds.keeps.given g given in
          let given2 = stays.adds.keeps.given g given1 in
          let given3 = target.adds.keeps.given g given2 in
          let e = effect_on _ _ g c.in_ok-stays.stays target.adds stays.shows.nodes ∙ stays.shows.value g given1
          ∙ (λ i. gives (step_on _ _ g step zero.adds own i) (zero.shows.value g given i)) in
          let t = target.shows.value g given2
          ∙ (λ i. sum (to2.keeps.values g step.pc own.pc.0 i)
          (b_immediate (to2.keeps.values g step.word own.word.0 i))) in
          outcome.shows.value g given3
          ∙ (λ i. goes_where (step_on _ _ g step to3 own i) (to3.keeps.values g c.args.taken taken.0 i == 1)
          (t i) (e i))
          ∙ branches_is (step_at old g step) (value_at old g c.args.taken == 1);
    }
