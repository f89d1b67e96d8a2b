use Rattle.std.specs.Prelude.{◌<◌, length, map}
use Rattle.std.proofs.Common.{ap, ◌∙◌, arith}
use Rattle.wn_net.specs.Net.{shape_of, value_at}
use Rattle.wn_net.proofs.Laws.{given_on}
use Rattle.wn_mem.specs.Words.{numbers_of}
use Rattle.bm_unroll.specs.Cycle.{given_by, state_by}
use Rattle.bm_unroll.specs.Walk.{rows_by}
use Rattle.bm_unroll.proofs.Walking.{bad_at, cycle_is, row_read, stand_here}
use Rattle.bm_unroll.proofs.cycles.walk_cycles.Goals as goal

pub last_cycle-requires-clause-stand : goal.last_cycle-requires-clause-stand
last_cycle-requires-clause-stand c =
    let below : c.args.cycle < length c.args.rows.now = omega arith in
    let now = c.pass_cycles.new.frames in
    stand_here now c.args.net.now c.index-rows-last.result c.in_ok-state.state
    (row_read c.args.frames.now now (shape_of c.args.net.now) c.args.rows.now c.args.cycle c.index-rows-last.result
    c.in_ok-state.ensures.adds c.requires.rows below c.index-rows-last.is)
    c.in_ok-state.ensures.passes.is_start

pub returns-clause-roots : goal.returns-clause-roots
returns-clause-roots c = λ g given.
    let old = c.args.frames.now in
    let now = c.pass_cycles.new.frames in
    let below : c.args.cycle < length c.args.rows.now = omega arith in
    let passes = c.in_ok-state.ensures.passes in
    bad_at c.args.net.now (rows_by old g c.args.rows.now) (state_by old g c.args.start) c.args.cycle c.args.bad
    (given_by now g c.index-rows-last.result c.in_ok-state.state)
    (numbers_of now g c.pass_cycles.new.roots.items)
    (numbers_of c.last_cycle.new.frames g c.in_ok-walked.walked.roots.items)
    (cycle_is old now c.args.net.now c.args.rows.now c.args.start c.args.cycle c.index-rows-last.result
    c.in_ok-state.state c.pass_cycles.new.roots.items g given c.requires.rows below c.index-rows-last.is passes)
    (passes.roots_say g given)
    (c.in_ok-walked.ensures.roots g (given_on old now g passes.adds given))

pub returns-clause-watch : goal.returns-clause-watch
returns-clause-watch c = λ g given.
    let old = c.args.frames.now in
    let now = c.pass_cycles.new.frames in
    let below : c.args.cycle < length c.args.rows.now = omega arith in
    let passes = c.in_ok-state.ensures.passes in
    c.in_ok-walked.ensures.watch g (given_on old now g passes.adds given)
    ∙ ap (λ G. map (value_at c.args.net.now G) c.args.watch.now)
    (cycle_is old now c.args.net.now c.args.rows.now c.args.start c.args.cycle c.index-rows-last.result
    c.in_ok-state.state c.pass_cycles.new.roots.items g given c.requires.rows below c.index-rows-last.is passes)
