use Rattle.std.specs.Prelude.{bit_and, ◌==◌, ◌&&◌}
use Rattle.std.proofs.Common.{◌∙◌}
use Rattle.fv_bits.specs.Bits.{bit}
use Rattle.rv_table.specs.Agree.{address_agrees, bytes_agree}
use Rattle.wn_net.proofs.Laws.{adds_on}
use Rattle.rvfi_port.specs.Channels.{retire_at}
use Rattle.rv_words.proofs.BitLemmas.{both_is}
use Rattle.rv_rows.specs.Effects.{effect_at}
use Rattle.rv_circ.specs.Effects.{outcome_of}
use Rattle.rv_circ.proofs.agree.results_agree.Goals as goal

pub returns-clause-shows : goal.returns-clause-shows
returns-clause-shows c =
    let old = c.args.net.now in
    let channel = c.args.channel.now in
    let outcome = outcome_of c.args.effect.now in
    let own = c.requires.channel in
    let have = c.requires.effect in
    let memory = c.in_ok-memory.ensures in
    let next = c.in_ok-next.ensures in
    let register = c.in_ok-data.ensures in
    let all = c.in_ok-all.ensures in
    let to2 = adds_on _ _ _ memory.adds next.adds in
    let to3 = adds_on _ _ _ to2 register.adds in
    record {
      node = all.shows.node;
      value = λ g given.
          let given1 = memory.adds.keeps.given g given in
          let given2 = next.adds.keeps.given g given1 in
          let given3 = register.adds.keeps.given g given2 in
          let r = retire_at old g channel in
          let e = effect_at old g outcome in
          let in_memory = address_agrees r e && bytes_agree r e in
          let pc = r.pc_wdata == e.pc_wdata in
          let rd = r.rd_wdata == e.rd_wdata in
          let behind1 = next.shows.value g given1
          ∙ (λ i. bit_and (bit (memory.adds.keeps.values g channel.pc_wdata own.pc_wdata.0 i
          == memory.adds.keeps.values g outcome.pc_wdata have.pc_wdata.0 i)) (memory.shows.value g given i))
          ∙ both_is pc in_memory in
          let behind2 = register.shows.value g given2
          ∙ (λ i. bit_and (bit (to2.keeps.values g channel.rd_wdata own.rd_wdata.0 i
          == to2.keeps.values g outcome.rd_wdata have.rd_wdata.0 i)) (behind1 i))
          ∙ both_is rd (pc && in_memory) in
          all.shows.value g given3
          ∙ (λ i. bit_and (bit (to3.keeps.values g channel.rd_addr own.rd_addr.0 i
          == to3.keeps.values g outcome.rd_addr have.rd_addr.0 i)) (behind2 i))
          ∙ both_is (r.rd_addr == e.rd_addr) (rd && (pc && in_memory));
    }
