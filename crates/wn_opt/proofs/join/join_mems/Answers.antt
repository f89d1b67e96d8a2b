use Rattle.std.specs.Prelude.{◌<◌, Some, false, length, slice_index_or}
use Rattle.std.proofs.Common.{refl, ap, ◌∙◌, arith}
use Rattle.std.proofs.lemmas.Option.{slice_get-get_or}
use Rattle.wn_opt.proofs.Begun.{item_at}
use Rattle.wn_opt.proofs.Joining.{mem_there, mem_writes_fit, writes_none, writes_step}
use Rattle.wn_opt.proofs.join.join_mems.Goals as goal

pub loop-index-init : goal.loop-index-init
loop-index-init c = writes_none c.args.net.now c.args.part.now c.args.part.now c.args.marks.now c.args.places.now refl

pub join_mem-requires-clause-there : goal.join_mem-requires-clause-there
join_mem-requires-clause-there c = λ on.
    let k = c.loop-index.index in
    let items = c.mems-mem-items.result.now in
    let x = c.mem-item.result in
    let inside : k < length items = omega arith in
    let at = item_at c.args.net.now.mems items k k x x c.mems-mem-items.ensures.value refl inside c.mem-item.is in
    let less : k < length c.args.marks.now = omega (arith, c.requires.each, ap length c.mems-mem-items.ensures.value) in
    let set = slice_get-get_or c.args.marks.now k false less ∙ ap Some on in
    mem_there c.args.net.now c.args.part.now c.loop-index.part c.args.marks.now c.args.places.now k x c.requires.bare
    c.loop-index.invariant at set

pub join_mem-requires-clause-fit : goal.join_mem-requires-clause-fit
join_mem-requires-clause-fit c = λ on.
    let k = c.loop-index.index in
    let items = c.mems-mem-items.result.now in
    let x = c.mem-item.result in
    let inside : k < length items = omega arith in
    let at = item_at c.args.net.now.mems items k k x x c.mems-mem-items.ensures.value refl inside c.mem-item.is in
    let less : k < length c.args.marks.now = omega (arith, c.requires.each, ap length c.mems-mem-items.ensures.value) in
    let set = slice_get-get_or c.args.marks.now k false less ∙ ap Some on in
    mem_writes_fit c.args.net.now c.args.part.now c.loop-index.part c.args.marks.now c.args.places.now k x
    c.requires.bare c.loop-index.invariant at set c.args.nodes.now c.mems-mem-items.ensures.whole c.requires.copied
    (c.requires.placed k x set at)

pub loop-index-preserved : goal.loop-index-preserved
loop-index-preserved c =
    let k = c.loop-index.index in
    let items = c.mems-mem-items.result.now in
    let x = c.mem-item.result in
    let inside : k < length items = omega arith in
    let at = item_at c.args.net.now.mems items k k x x c.mems-mem-items.ensures.value refl inside c.mem-item.is in
    let less : k < length c.args.marks.now = omega (arith, c.requires.each, ap length c.mems-mem-items.ensures.value) in
    writes_step c.args.net.now c.args.part.now c.loop-index.part c.join_mem.new.part c.args.marks.now c.args.places.now k
    x (slice_index_or c.args.marks.now k false) c.requires.bare c.loop-index.invariant at
    (slice_get-get_or c.args.marks.now k false less) c.in_ok-join_mem.ensures.skip c.in_ok-join_mem.ensures.set
