use Rattle.std.proofs.Common.{◌∙◌}
use Rattle.rv_table.specs.Effect.{step, unless_x0}
use Rattle.wn_net.proofs.Laws.{adds_on, node_on, value_on}
use Rattle.rv_circ.proofs.steps.step_nodes.Goals as goal

pub returns-clause-shows : goal.returns-clause-shows
unfolding step
returns-clause-shows c =
    let word = c.args.word in
    let channel = c.args.channel.now in
    let own = c.requires.channel in
    let addresses = c.in_ok-addresses.ensures in
    let a = c.in_ok-addresses.addresses in
    let s1 = c.in_ok-s1.ensures in
    let s2 = c.in_ok-s2.ensures in
    let to2 = adds_on _ _ _ addresses.adds s1.adds in
    let rest = adds_on _ _ _ s1.adds s2.adds in
    let all = adds_on _ _ _ addresses.adds rest in
    record {
      nodes = record {
        word = node_on _ _ 32 word all c.requires.word;
        rs1_addr = node_on _ _ 5 a.rs1 rest addresses.shows.rs1.node;
        rs2_addr = node_on _ _ 5 a.rs2 rest addresses.shows.rs2.node;
        rd_addr = node_on _ _ 5 a.rd rest addresses.shows.rd.node;
        s1 = node_on _ _ 32 c.in_ok-s1.s1 s2.adds s1.shows.node;
        s2 = s2.shows.node;
        pc = node_on _ _ 32 channel.pc_rdata all own.pc_rdata;
        mem_rdata = node_on _ _ 32 channel.mem_rdata all own.mem_rdata;
      };
      value = λ g given.
          let given1 = addresses.adds.keeps.given g given in
          let rs1 = addresses.shows.rs1.value g given in
          let rs2 = addresses.shows.rs2.value g given in
          let first = value_on _ _ g c.in_ok-s1.s1 s2.adds s1.shows.node.0 ∙ s1.shows.value g given1
          ∙ (λ i. unless_x0 (rs1 i) (addresses.adds.keeps.values g channel.rs1_rdata own.rs1_rdata.0 i)) in
          let second_addr = s1.adds.keeps.values g a.rs2 addresses.shows.rs2.node.0 ∙ rs2 in
          let second = s2.shows.value g (s1.adds.keeps.given g given1)
          ∙ (λ i. unless_x0 (second_addr i) (to2.keeps.values g channel.rs2_rdata own.rs2_rdata.0 i)) in
          let rs1_addr = value_on _ _ g a.rs1 rest addresses.shows.rs1.node.0 ∙ rs1 in
          let rs2_addr = value_on _ _ g a.rs2 rest addresses.shows.rs2.node.0 ∙ rs2 in
          let rd_addr = value_on _ _ g a.rd rest addresses.shows.rd.node.0 ∙ addresses.shows.rd.value g given in
          λ i. record {
            word = value_on _ _ g word all c.requires.word.0 i;
            length = c.args.length;
            rs1_addr = rs1_addr i;
            rs2_addr = rs2_addr i;
            rd_addr = rd_addr i;
            s1 = first i;
            s2 = second i;
            pc = value_on _ _ g channel.pc_rdata all own.pc_rdata.0 i;
            mem_rdata = value_on _ _ g channel.mem_rdata all own.mem_rdata.0 i;
            opts = c.args.opts;
          };
    }
