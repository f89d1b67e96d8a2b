use Rattle.std.proofs.Common.{◌∙◌}
use Rattle.rv_table.specs.Effect.{unless_x0}
use Rattle.wn_net.proofs.Laws.{adds_on, given_on, value_on}
use Rattle.rv_zb.specs.Effect.{zb_result}
use Rattle.rv_zb.proofs.circuit.result_beside.Goals as goal

pub returns-clause-shows : goal.returns-clause-shows
returns-clause-shows c =
    let channel = c.args.channel.now in
    let effect = c.args.effect.now in
    let own = c.requires.channel in
    let have = c.requires.effect in
    let s1 = c.in_ok-s1.ensures in
    let s2 = c.in_ok-s2.ensures in
    let value = c.in_ok-value.ensures in
    let written = c.in_ok-written.ensures in
    let to2 = adds_on _ _ _ s1.adds s2.adds in
    let to3 = adds_on _ _ _ to2 value.adds in
    record {
      node = written.shows.node;
      value = λ g given.
          let given2 = given_on _ _ g to2 given in
          let first = value_on _ _ g c.in_ok-s1.s1 s2.adds s1.shows.node.0 ∙ s1.shows.value g given in
          let second = s2.shows.value g (given_on _ _ g s1.adds given)
          ∙ (λ i. unless_x0 (s1.adds.keeps.values g effect.rs2_addr have.rs2_addr.0 i)
          (s1.adds.keeps.values g channel.rs2_rdata own.rs2_rdata.0 i)) in
          let result = value.shows.value g given2
          ∙ (λ i. zb_result c.args.row (to2.keeps.values g channel.insn own.insn.0 i) (first i) (second i)) in
          written.shows.value g (given_on _ _ g to3 given)
          ∙ (λ i. unless_x0 (to3.keeps.values g effect.rd_addr have.rd_addr.0 i) (result i));
    }
