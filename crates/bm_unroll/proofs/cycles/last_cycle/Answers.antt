use Rattle.std.specs.Prelude.{◌<◌, ℕ, List, length, map, slice_index}
use Rattle.std.specs.List.{AllByRecursion}
use Rattle.std.proofs.Common.{ap, sym, ◌∙◌, subst, arith}
use Rattle.wn_mem.specs.Words.{numbers_of}
use Rattle.wn_net.specs.Net.{AreNodes}
use Rattle.bm_unroll.specs.Cycle.{given_by}
use Rattle.bm_unroll.proofs.Moving.{table_long}
use Rattle.bm_unroll.proofs.Walking.{all_below, copies_there, copies_values, last_says, last_there}
use Rattle.bm_unroll.proofs.cycles.last_cycle.Goals as goal

pub node_at-last-requires : goal.node_at-last-requires
node_at-last-requires c =
    omega (
      arith,
      ap length c.as_slice-copies.ensures.value,
      table_long c.args.net.now c.assumed_cycle.new.frames c.in_ok-table.table.items c.in_ok-table.ensures.widths,
      c.requires.bad,
    )

pub nodes_at-requires : goal.nodes_at-requires
nodes_at-requires c =
    let P : List ℕ → Type 0 = λ t. AllByRecursion (λ id. id < length t) c.args.watch.now in
    subst P (sym c.as_slice-copies.ensures.value)
    (all_below c.args.net.now c.in_ok-table.table.items c.args.watch.now
    (table_long c.args.net.now c.assumed_cycle.new.frames c.in_ok-table.table.items c.in_ok-table.ensures.widths)
    c.requires.watch)

pub returns-clause-there : goal.returns-clause-there
returns-clause-there c =
    last_there c.args.frames.now c.assumed_cycle.new.frames c.args.net.now c.in_ok-table.table.items c.args.roots.items
    c.assumed_cycle.new.roots.items c.push.new.self.items c.node_at-last.result c.args.bad c.in_ok-table.ensures.adds
    c.in_ok-table.ensures.whole c.requires.roots c.in_ok-table.ensures.there c.in_ok-table.ensures.widths
    c.in_ok-table.ensures.roots c.requires.bad
    (c.node_at-last.ensures ∙ ap (λ t. slice_index t c.args.bad) c.as_slice-copies.ensures.value)
    c.in_ok-push.ensures.items

pub returns-clause-watch_there : goal.returns-clause-watch_there
returns-clause-watch_there c =
    let new = c.assumed_cycle.new.frames in
    let net = c.args.net.now in
    let table = c.in_ok-table.table.items in
    let P : List ℕ → Type 0 = λ ids. AreNodes new ids in
    subst P (sym (c.in_ok-watch.ensures
    ∙ ap (λ t. map (slice_index t) c.args.watch.now) c.as_slice-copies.ensures.value))
    (copies_there net new table c.args.watch.now c.in_ok-table.ensures.there
    (table_long net new table c.in_ok-table.ensures.widths) c.requires.watch)

pub returns-clause-roots : goal.returns-clause-roots
returns-clause-roots c = λ g given.
    last_says c.args.frames.now c.assumed_cycle.new.frames c.args.net.now g
    (given_by c.args.frames.now g c.args.row.now c.args.state.now) c.in_ok-table.table.items c.args.roots.items
    c.assumed_cycle.new.roots.items c.push.new.self.items c.node_at-last.result c.args.bad c.in_ok-table.ensures.adds
    c.in_ok-table.ensures.whole c.requires.roots c.in_ok-table.ensures.widths
    (c.in_ok-table.ensures.numbers g given) c.in_ok-table.ensures.roots c.requires.bad
    (c.node_at-last.ensures ∙ ap (λ t. slice_index t c.args.bad) c.as_slice-copies.ensures.value)
    c.in_ok-push.ensures.items

pub returns-clause-watch : goal.returns-clause-watch
returns-clause-watch c = λ g given.
    let new = c.assumed_cycle.new.frames in
    let net = c.args.net.now in
    let table = c.in_ok-table.table.items in
    ap (numbers_of new g)
    (c.in_ok-watch.ensures ∙ ap (λ t. map (slice_index t) c.args.watch.now) c.as_slice-copies.ensures.value)
    ∙ copies_values net new g (given_by c.args.frames.now g c.args.row.now c.args.state.now) table c.args.watch.now
    (c.in_ok-table.ensures.numbers g given) (table_long net new table c.in_ok-table.ensures.widths) c.requires.watch
