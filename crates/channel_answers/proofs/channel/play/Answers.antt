use Rattle.wn_net.proofs.Laws.{adds_on, node_on}
use Rattle.channel_answers.proofs.channel.play.Goals as goal

pub returns-clause-there : goal.returns-clause-there
returns-clause-there c =
    let flags = c.in_ok-flags.ensures in
    let numbers = c.in_ok-numbers.ensures in
    let sources = c.in_ok-sources.ensures in
    let results = c.in_ok-results.ensures in
    let f = c.in_ok-flags.flags in
    let n = c.in_ok-numbers.numbers in
    let s = c.in_ok-sources.sources in
    let behind2 = adds_on _ _ _ sources.adds results.adds in
    let behind1 = adds_on _ _ _ numbers.adds behind2 in
    record {
      valid = node_on _ _ 1 f.valid behind1 flags.there.valid;
      order = node_on _ _ 64 f.order behind1 flags.there.order;
      insn = node_on _ _ 32 s.insn results.adds sources.there.insn;
      trap = node_on _ _ 1 f.trap behind1 flags.there.trap;
      halt = node_on _ _ 1 f.halt behind1 flags.there.halt;
      intr = node_on _ _ 1 f.intr behind1 flags.there.intr;
      rs1_addr = node_on _ _ 5 n.rs1_addr behind2 numbers.there.rs1_addr;
      rs2_addr = node_on _ _ 5 n.rs2_addr behind2 numbers.there.rs2_addr;
      rs1_rdata = node_on _ _ 32 s.rs1_rdata results.adds sources.there.rs1_rdata;
      rs2_rdata = node_on _ _ 32 s.rs2_rdata results.adds sources.there.rs2_rdata;
      rd_addr = node_on _ _ 5 n.rd_addr behind2 numbers.there.rd_addr;
      rd_wdata = results.there.rd_wdata;
      pc_rdata = node_on _ _ 32 s.pc_rdata results.adds sources.there.pc_rdata;
      pc_wdata = results.there.pc_wdata;
      mem_addr = results.there.mem_addr;
      mem_rmask = node_on _ _ 4 n.mem_rmask behind2 numbers.there.mem_rmask;
      mem_wmask = node_on _ _ 4 n.mem_wmask behind2 numbers.there.mem_wmask;
      mem_rdata = node_on _ _ 32 s.mem_rdata results.adds sources.there.mem_rdata;
      mem_wdata = results.there.mem_wdata;
    }
