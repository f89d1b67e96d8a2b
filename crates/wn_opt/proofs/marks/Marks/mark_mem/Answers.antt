use Rattle.std.specs.Prelude.{◌<◌, length, true}
use Rattle.std.specs.Vec.{with_item}
use Rattle.std.proofs.Common.{refl, ap, sym, ◌∙◌, subst, arith}
use Rattle.fv_graph.proofs.Lists.{get_set}
use Rattle.wn_opt.specs.declared.marks.Marks.{Marks}
use Rattle.wn_opt.specs.Marks.{AreWritesIn, AreWritesNeeded}
use Rattle.wn_opt.proofs.Begun.{item_at}
use Rattle.wn_opt.proofs.Walking.{goes_on, mem_goes, mem_there, read_bit, writes_needed}
use Rattle.wn_opt.proofs.marks.Marks.mark_mem.Goals as goal

pub index-requires : goal.index-requires
index-requires c =
    let less = mem_there c.args.net.now c.args.roots.now c.args.self.now c.args.user c.args.mem c.args.addr
    c.requires.walks c.requires.reads in
    omega (arith, less, c.args.self.now.mems.ok.0)

pub returns-then-index-clause-marked : goal.returns-then-index-clause-marked
returns-then-index-clause-marked c =
    let less = mem_there c.args.net.now c.args.roots.now c.args.self.now c.args.user c.args.mem c.args.addr
    c.requires.walks c.requires.reads in
    read_bit c.args.self.now.mems.items c.args.mem c.index.result.now true less c.index.ensures c.if-index.true

pub bounds-mems-mem : goal.bounds-mems-mem
bounds-mems-mem c =
    let w = c.requires.walks in
    let less = mem_there c.args.net.now c.args.roots.now c.args.self.now c.args.user c.args.mem c.args.addr w
    c.requires.reads in
    omega (arith, less, w.each_mem, ap length c.mems.ensures.value)

pub mark_writes-requires-clause-needed : goal.mark_writes-requires-clause-needed
mark_writes-requires-clause-needed c =
    let w = c.requires.walks in
    let less = mem_there c.args.net.now c.args.roots.now c.args.self.now c.args.user c.args.mem c.args.addr w
    c.requires.reads in
    let inside : c.args.mem < length c.mems.result.now = omega
    (arith, less, w.each_mem, ap length c.mems.ensures.value) in
    let x = c.index-mems-mem.result in
    let at = item_at c.args.net.now.mems c.mems.result.now c.args.mem c.args.mem x x c.mems.ensures.value refl inside
    c.index-mems-mem.is in
    subst (AreWritesNeeded c.args.net.now c.args.roots.now) (ap (λ r. r.writes) c.index-mems-mem.is ∙ sym c.as_slice-writes.ensures)
    (writes_needed c.args.net.now c.args.roots.now c.args.user c.args.mem c.args.addr x c.requires.needed
    c.requires.reads at)

pub index_mut-requires : goal.index_mut-requires
index_mut-requires c =
    let less = mem_there c.args.net.now c.args.roots.now c.mark_writes.new.self c.args.user c.args.mem c.args.addr
    c.in_ok-mark_writes.ensures.goes.walks c.requires.reads in
    omega (arith, less, c.mark_writes.new.self.mems.ok.0)

pub returns-clause-goes : goal.returns-clause-goes
returns-clause-goes c =
    let m = c.mark_writes.new.self in
    let w = c.in_ok-mark_writes.ensures.goes.walks in
    let less = mem_there c.args.net.now c.args.roots.now m c.args.user c.args.mem c.args.addr w c.requires.reads in
    let inside : c.args.mem < length c.mems.result.now = omega
    (arith, less, w.each_mem, ap length c.mems.ensures.value) in
    let x = c.index-mems-mem.result in
    let at = item_at c.args.net.now.mems c.mems.result.now c.args.mem c.args.mem x x c.mems.ensures.value refl inside
    c.index-mems-mem.is in
    let k : Marks = record {
      nodes = m.nodes;
      regs = m.regs;
      mems = with_item m.mems c.args.mem true;
      list = m.list;
    } in
    goes_on c.args.net.now c.args.roots.now c.args.self.now m k c.in_ok-mark_writes.ensures.goes
    (mem_goes c.args.net.now c.args.roots.now m k c.args.mem x w less
    (c.args.user, c.args.addr, c.requires.needed, c.requires.reads) at
    (subst (AreWritesIn m.list.items) (c.as_slice-writes.ensures ∙ sym (ap (λ r. r.writes) c.index-mems-mem.is)) c.in_ok-mark_writes.ensures.listed)
    (record { mems = refl; nodes = refl; list = refl; regs = refl }))

pub returns-clause-marked : goal.returns-clause-marked
returns-clause-marked c =
    let m = c.mark_writes.new.self in
    let less = mem_there c.args.net.now c.args.roots.now m c.args.user c.args.mem c.args.addr
    c.in_ok-mark_writes.ensures.goes.walks c.requires.reads in
    get_set m.mems.items c.args.mem true less
