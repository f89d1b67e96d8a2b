use Rattle.std.specs.Prelude.{◌==◌}
use Rattle.std.proofs.Common.{◌∙◌, ap}
use Rattle.fv_bits.specs.Bits.{bit}
use Rattle.rv_table.specs.Effect.{gives, stores, bytes_to, word_address, place_in_word, mask_at, is_misaligned}
use Rattle.wn_net.proofs.Laws.{adds_on, node_on, value_on}
use Rattle.rv_words.proofs.BitLemmas.{set_is}
use Rattle.rv_rows.proofs.StepLemmas.{step_on}
use Rattle.rv_rows.proofs.memory.stores.Goals as goal

pub returns-clause-shows : goal.returns-clause-shows
unfolding stores
returns-clause-shows c =
    let step = c.args.step.now in
    let own = c.requires in
    let size = c.store_size-size.ensures.value in
    let address = c.in_ok-address.ensures in
    let reached = c.in_ok-reached.ensures in
    let a = c.in_ok-reached.reached in
    let wdata = c.in_ok-wdata.ensures in
    let out = c.in_ok-outcome.ensures in
    let to2 = adds_on _ _ _ address.adds reached.adds in
    let to3 = adds_on _ _ _ to2 wdata.adds in
    let rest = adds_on _ _ _ wdata.adds out.adds in
    record {
      nodes = record {
        rs1_addr = out.shows.nodes.rs1_addr;
        rs2_addr = out.shows.nodes.rs2_addr;
        rd_addr = out.shows.nodes.rd_addr;
        rd_wdata = out.shows.nodes.rd_wdata;
        pc_wdata = out.shows.nodes.pc_wdata;
        mem_addr = node_on _ _ 32 a.word rest reached.shows.word.node;
        rmask = out.shows.nodes.rmask;
        wmask = node_on _ _ 4 a.mask rest reached.shows.mask.node;
        wdata = node_on _ _ 32 c.in_ok-wdata.wdata out.adds wdata.shows.node;
        trap = node_on _ _ 1 a.trap rest reached.shows.trap.node;
      };
      value = λ g given.
          let given1 = address.adds.keeps.given g given in
          let given2 = reached.adds.keeps.given g given1 in
          let given3 = wdata.adds.keeps.given g given2 in
          let step1 = step_on _ _ g step address.adds own in
          let at = address.shows.value g given in
          let place = reached.shows.place.value g given1 ∙ (λ i. place_in_word (step1 i) (at i)) in
          let word = value_on _ _ g a.word rest reached.shows.word.node.0 ∙ reached.shows.word.value g given1
          ∙ (λ i. word_address (step1 i) (at i)) in
          let mask = value_on _ _ g a.mask rest reached.shows.mask.node.0 ∙ reached.shows.mask.value g given1
          ∙ (λ i. mask_at (size i) (place_in_word (step1 i) (at i))) in
          let trap = value_on _ _ g a.trap rest reached.shows.trap.node.0 ∙ reached.shows.trap.value g given1
          ∙ (λ i. bit (is_misaligned (step1 i) (size i) (at i))) in
          let put = value_on _ _ g c.in_ok-wdata.wdata out.adds wdata.shows.node.0 ∙ wdata.shows.value g given2
          ∙ (λ i. bytes_to (size i) (place i) (to2.keeps.values g step.s2 own.s2.0 i)) in
          let base = out.shows.value g given3 ∙ (λ i. gives (step_on _ _ g step to3 own i) 0) in
          let trapped = ap (λ n. n == 1) trap ∙ set_is _ in
          λ i. record (base i) { mem_addr = word i; wmask = mask i; wdata = put i; trap = trapped i };
    }
