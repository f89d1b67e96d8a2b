use Rattle.std.specs.Prelude.{◌≡◌, ◌<◌, ℕ, List, length}
use Rattle.std.proofs.Common.{ap, sym, ◌∙◌, subst, arith}
use Rattle.wn_net.specs.Net.{AreNodes, shape_of}
use Rattle.wn_mem.specs.Words.{numbers_of}
use Rattle.bm_unroll.specs.Cycle.{state_by, widths_at}
use Rattle.bm_unroll.specs.Moved.{moved}
use Rattle.bm_unroll.proofs.Copying.{memories_there, mem_widths_kept}
use Rattle.bm_unroll.specs.Walk.{Passes}
use Rattle.bm_unroll.proofs.Walking.{passes_none, passes_next, row_read, stand_here}
use Rattle.bm_unroll.proofs.cycles.pass_cycles.Goals as goal

pub loop-index-init : goal.loop-index-init
loop-index-init c =
    passes_none c.args.frames.now c.args.net.now c.args.rows.now c.args.start c.args.roots.now.items c.requires.start
    c.requires.none

pub assumed_cycle-requires : goal.assumed_cycle-requires
assumed_cycle-requires c =
    let below : c.loop-index.index < length c.args.rows.now = omega arith in
    stand_here c.loop-index.frames c.args.net.now c.index-rows-index.result c.loop-index.state
    (row_read c.args.frames.now c.loop-index.frames (shape_of c.args.net.now) c.args.rows.now c.loop-index.index
    c.index-rows-index.result c.loop-index.invariant.adds c.requires.rows below c.index-rows-index.is)
    c.loop-index.invariant.is_start

pub next_nodes-requires-clause-table : goal.next_nodes-requires-clause-table
next_nodes-requires-clause-table c =
    let P : List ℕ → Type 0 = λ t. AreNodes c.assumed_cycle.new.frames t in
    subst P (sym c.as_slice-copies.ensures.value) c.in_ok-table.ensures.there

pub next_nodes-requires-clause-widths : goal.next_nodes-requires-clause-widths
next_nodes-requires-clause-widths c =
    ap (widths_at c.assumed_cycle.new.frames) c.as_slice-copies.ensures.value ∙ c.in_ok-table.ensures.widths

pub next_nodes-requires-clause-state : goal.next_nodes-requires-clause-state
next_nodes-requires-clause-state c =
    memories_there c.loop-index.frames c.assumed_cycle.new.frames c.loop-index.state.mems c.in_ok-table.ensures.adds
    c.loop-index.invariant.is_start.there.mems

pub next_nodes-requires-clause-shape : goal.next_nodes-requires-clause-shape
next_nodes-requires-clause-shape c =
    mem_widths_kept c.loop-index.frames c.assumed_cycle.new.frames c.loop-index.state.mems c.in_ok-table.ensures.adds
    c.loop-index.invariant.is_start.there.mems
    ∙ c.loop-index.invariant.is_start.mems

pub loop-index-preserved : goal.loop-index-preserved
loop-index-preserved c =
    let below : c.loop-index.index < length c.args.rows.now = omega arith in
    let mid = c.assumed_cycle.new.frames in
    passes_next c.args.frames.now c.loop-index.frames mid c.next_nodes.new.frames c.args.net.now c.args.rows.now
    c.args.start c.loop-index.index c.index-rows-index.result c.loop-index.state c.in_ok-state.state
    c.loop-index.roots.items c.assumed_cycle.new.roots.items c.in_ok-table.table.items c.in_ok-table.ensures.whole
    c.requires.rows below c.index-rows-index.is c.loop-index.invariant c.in_ok-table.ensures.adds
    c.in_ok-table.ensures.there c.in_ok-table.ensures.widths c.in_ok-table.ensures.numbers
    c.in_ok-table.ensures.roots c.in_ok-state.ensures.adds c.in_ok-state.ensures.there c.in_ok-state.ensures.regs
    c.in_ok-state.ensures.mems
    (λ g given. c.in_ok-state.ensures.numbers g given
    ∙ ap (λ t. moved c.args.net.now (numbers_of mid g t) (state_by mid g c.loop-index.state))
    c.as_slice-copies.ensures.value)

pub returns-clause-passes : goal.returns-clause-passes
returns-clause-passes c =
    let past : c.loop-index.index ≡ c.args.cycle = omega arith in
    let P : ℕ → Type 0 = λ n. Passes c.args.frames.now c.loop-index.frames c.args.net.now c.args.rows.now
    c.args.start n
    c.loop-index.state c.loop-index.roots.items in
    subst P past c.loop-index.invariant
