use Rattle.std.specs.Prelude.{◌<◌, length, slice_index_or, true}
use Rattle.std.specs.Vec.{with_item}
use Rattle.std.proofs.Common.{refl, ap, arith}
use Rattle.wn_net.specs.declared.parts.Init.TheVariants.{Free}
use Rattle.wn_net.specs.declared.parts.Reg.{Reg}
use Rattle.wn_opt.specs.declared.marks.Marks.{Marks}
use Rattle.wn_opt.proofs.Begun.{item_at}
use Rattle.wn_opt.proofs.Walking.{goes_on, next_needed, reg_followed, reg_goes, reg_set, reg_there}
use Rattle.wn_opt.proofs.marks.Marks.mark_reg.Goals as goal

-- what a read past the last register would give
abbrev no_reg : Reg
no_reg = record { width = 0; init = Free; next = 0 }

pub bounds-regs-reg : goal.bounds-regs-reg
bounds-regs-reg c =
    let w = c.requires.walks in
    let less = reg_there c.args.net.now c.args.roots.now c.args.self.now c.args.user c.args.reg w c.requires.reads in
    omega (arith, less, w.each_reg, ap length c.regs.ensures.value)

pub mark-requires-clause-needed : goal.mark-requires-clause-needed
mark-requires-clause-needed c =
    let w = c.requires.walks in
    let less = reg_there c.args.net.now c.args.roots.now c.args.self.now c.args.user c.args.reg w c.requires.reads in
    let inside : c.args.reg < length c.regs.result.now = omega (arith, less, w.each_reg, ap length c.regs.ensures.value) in
    let r = slice_index_or c.regs.result.now c.args.reg no_reg in
    next_needed c.args.net.now c.args.roots.now c.args.user c.args.reg r c.requires.needed c.requires.reads
    (item_at c.args.net.now.regs c.regs.result.now c.args.reg c.args.reg r no_reg c.regs.ensures.value refl inside refl)

pub index_mut-requires : goal.index_mut-requires
index_mut-requires c =
    let less = reg_there c.args.net.now c.args.roots.now c.mark.new.self c.args.user c.args.reg
    c.in_ok-mark.ensures.goes.walks c.requires.reads in
    omega (arith, less, c.mark.new.self.regs.ok.0)

pub returns-clause-goes : goal.returns-clause-goes
returns-clause-goes c =
    let m = c.mark.new.self in
    let w = c.in_ok-mark.ensures.goes.walks in
    let less = reg_there c.args.net.now c.args.roots.now m c.args.user c.args.reg w c.requires.reads in
    goes_on c.args.net.now c.args.roots.now c.args.self.now m _ c.in_ok-mark.ensures.goes
    (reg_goes c.args.net.now c.args.roots.now m _ c.args.reg w less (c.args.user, c.requires.needed, c.requires.reads)
    (record { regs = refl; nodes = refl; list = refl; mems = refl }))

pub returns-clause-followed : goal.returns-clause-followed
returns-clause-followed c =
    let m = c.mark.new.self in
    let w = c.in_ok-mark.ensures.goes.walks in
    let less = reg_there c.args.net.now c.args.roots.now m c.args.user c.args.reg w c.requires.reads in
    let inside : c.args.reg < length c.regs.result.now = omega (arith, less, w.each_reg, ap length c.regs.ensures.value) in
    let r = slice_index_or c.regs.result.now c.args.reg no_reg in
    let k : Marks = record {
      nodes = m.nodes;
      regs = with_item m.regs c.args.reg true;
      mems = m.mems;
      list = m.list;
    } in
    reg_followed c.args.net.now k c.args.reg r
    (item_at c.args.net.now.regs c.regs.result.now c.args.reg c.args.reg r no_reg c.regs.ensures.value refl inside refl)
    c.in_ok-mark.ensures.listed
    (reg_set m k c.args.reg less (record { regs = refl; nodes = refl; list = refl; mems = refl }))
