use Rattle.std.specs.Prelude.{◌<◌, Some, false, length, slice_index_or}
use Rattle.std.proofs.Common.{refl, ap, ◌∙◌, arith}
use Rattle.std.proofs.lemmas.Option.{slice_get-get_or}
use Rattle.wn_net.specs.declared.parts.Init.TheVariants.{Free}
use Rattle.wn_net.specs.declared.parts.Reg.{Reg}
use Rattle.wn_opt.proofs.Begun.{item_at}
use Rattle.wn_opt.proofs.Joining.{next_node, nexts_none, nexts_step, reg_there}
use Rattle.wn_opt.proofs.join.join_regs.Goals as goal

-- what a read past the last register would give
abbrev no_reg : Reg
no_reg = record { width = 0; init = Free; next = 0 }

pub loop-index-init : goal.loop-index-init
loop-index-init c = nexts_none c.args.net.now c.args.part.now c.args.part.now c.args.marks.now c.args.places.now refl

pub join_reg-requires-clause-there : goal.join_reg-requires-clause-there
join_reg-requires-clause-there c = λ on.
    let k = c.loop-index.index in
    let items = c.regs-reg-items.result.now in
    let r = slice_index_or items k no_reg in
    let inside : k < length items = omega arith in
    let at = item_at c.args.net.now.regs items k k r no_reg c.regs-reg-items.ensures.value refl inside refl in
    reg_there c.args.net.now c.args.part.now c.loop-index.part c.args.marks.now c.args.places.now k r c.requires.regs
    c.loop-index.invariant at

pub join_reg-requires-clause-fits : goal.join_reg-requires-clause-fits
join_reg-requires-clause-fits c = λ on.
    let k = c.loop-index.index in
    let items = c.regs-reg-items.result.now in
    let r = slice_index_or items k no_reg in
    let inside : k < length items = omega arith in
    let at = item_at c.args.net.now.regs items k k r no_reg c.regs-reg-items.ensures.value refl inside refl in
    let less : k < length c.args.marks.now = omega (arith, c.requires.each, ap length c.regs-reg-items.ensures.value) in
    next_node c.args.net.now c.args.part.now c.loop-index.part c.args.marks.now c.args.places.now k r c.requires.regs
    c.loop-index.invariant at c.args.nodes.now c.regs-reg-items.ensures.whole c.requires.copied c.requires.placed
    (slice_get-get_or c.args.marks.now k false less ∙ ap Some on)

pub loop-index-preserved : goal.loop-index-preserved
loop-index-preserved c =
    let k = c.loop-index.index in
    let items = c.regs-reg-items.result.now in
    let r = slice_index_or items k no_reg in
    let inside : k < length items = omega arith in
    let at = item_at c.args.net.now.regs items k k r no_reg c.regs-reg-items.ensures.value refl inside refl in
    let less : k < length c.args.marks.now = omega (arith, c.requires.each, ap length c.regs-reg-items.ensures.value) in
    nexts_step c.args.net.now c.args.part.now c.loop-index.part c.join_reg.new.part c.args.marks.now c.args.places.now k
    r (slice_index_or c.args.marks.now k false) c.requires.regs c.loop-index.invariant at
    (slice_get-get_or c.args.marks.now k false less) c.join_reg.ensures.skip c.join_reg.ensures.set
    c.join_reg.ensures.keeps
