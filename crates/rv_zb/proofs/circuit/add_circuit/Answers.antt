use Rattle.std.proofs.Common.{◌∙◌}
use Rattle.rv_table.specs.Effect.{effect}
use Rattle.rv_table.specs.declared.row.RowId.TheVariants.{Base}
use Rattle.wn_net.proofs.Laws.{adds_on, node_on, given_on, value_on}
use Rattle.rvfi_port.specs.Channels.{retire_at}
use Rattle.rvfi_port.proofs.AddedNodes.{retire_on}
use Rattle.rv_rows.proofs.StepLemmas.{effect_on}
use Rattle.rv_circ.specs.Effects.{outcome_of}
use Rattle.rv_circ.proofs.NodeLemmas.{are_effect_on}
use Rattle.rv_zb.specs.Effect.{no_opts}
use Rattle.rv_zb.specs.Monitors.{result_beside}
use Rattle.rv_zb.proofs.Effects.{like_is}
use Rattle.rv_zb.proofs.circuit.add_circuit.Goals as goal

pub returns-clause-hit : goal.returns-clause-hit
returns-clause-hit c =
    let hit = c.in_ok-hit.ensures in
    let behind = adds_on _ _ _ c.in_ok-like.ensures.adds c.in_ok-written.ensures.adds in
    record {
      node = node_on _ _ 1 c.in_ok-hit.hit behind hit.shows.node;
      value = λ g given. value_on _ _ g c.in_ok-hit.hit behind hit.shows.node.0 ∙ hit.shows.value g given;
    }

pub returns-clause-effect : goal.returns-clause-effect
returns-clause-effect c =
    let old = c.args.net.now in
    let channel = c.args.channel.now in
    let row = c.args.row in
    let hit = c.in_ok-hit.ensures in
    let like = c.in_ok-like.ensures in
    let written = c.in_ok-written.ensures in
    let e = outcome_of c.in_ok-like.like in
    let to2 = adds_on _ _ _ hit.adds like.adds in
    let kept = are_effect_on _ _ e written.adds like.effect.nodes in
    record {
      nodes = record {
        rs1_addr = kept.rs1_addr;
        rs2_addr = kept.rs2_addr;
        rd_addr = kept.rd_addr;
        rd_wdata = written.shows.node;
        pc_wdata = kept.pc_wdata;
        mem_addr = kept.mem_addr;
        rmask = kept.rmask;
        wmask = kept.wmask;
        wdata = kept.wdata;
        trap = kept.trap;
      };
      value = λ g given.
          let given1 = given_on _ _ g hit.adds given in
          let given2 = given_on _ _ g like.adds given1 in
          let shown = effect_on _ _ g e written.adds like.effect.nodes in
          let same = like.effect.value g given1
          ∙ (λ i. effect (Base (c.like.ensures i)) (retire_on _ _ g channel hit.adds c.requires i)
          (c.no_opts.ensures i)) in
          let found = retire_on _ _ g channel to2 c.requires in
          (λ i. record (shown i) { rd_wdata = written.shows.value g given2 i })
          ∙ (λ i. record (same i) { rd_wdata = result_beside row (found i) (same i) })
          ∙ like_is row (retire_at old g channel);
    }
