use Rattle.std.specs.Prelude.{◌<◌, ◌++◌, ℕ, List, length, map, slice_index}
use Rattle.std.specs.List.{AllByRecursion}
use Rattle.std.proofs.Common.{ap, sym, ◌∙◌, subst}
use Rattle.wn_net.specs.Net.{values_of}
use Rattle.bm_unroll.specs.Cycle.{StandFor, given_by}
use Rattle.bm_unroll.proofs.Moving.{table_long}
use Rattle.bm_unroll.proofs.Walking.{all_below}
use Rattle.bm_unroll.proofs.cycles.assumed_cycle.Goals as goal

pub copy_cycle-requires : goal.copy_cycle-requires
copy_cycle-requires c =
    let P : List ℕ → Type 0 = λ row. StandFor c.args.frames.now c.args.net.now row c.args.state.now in
    subst P (sym c.as_slice-inputs.ensures) c.requires

pub add_nodes-requires : goal.add_nodes-requires
add_nodes-requires c =
    let net = c.args.net.now in
    let table = c.in_ok-table.table.items in
    let P : List ℕ → Type 0 = λ t. AllByRecursion (λ id. id < length t) c.assumes-wanted.result.now in
    let Q : List ℕ → Type 0 = λ ids. AllByRecursion (λ id. id < length table) ids in
    subst P (sym c.as_slice-copies.ensures.value)
    (subst Q (sym c.assumes-wanted.ensures.value)
    (all_below net table net.assumes (table_long net c.copy_cycle.new.frames table c.in_ok-table.ensures.widths)
    c.assumes-wanted.ensures.whole.assumes))

pub returns-clause-numbers : goal.returns-clause-numbers
returns-clause-numbers c = λ g given.
    c.in_ok-table.ensures.numbers g given
    ∙ ap (λ row. values_of c.args.net.now (given_by c.args.frames.now g row c.args.state.now))
    c.as_slice-inputs.ensures

pub returns-clause-roots : goal.returns-clause-roots
returns-clause-roots c =
    c.in_ok-add_nodes.ensures
    ∙ (λ i. c.args.roots.now.items
    ++ map (slice_index (c.as_slice-copies.ensures.value i)) (c.assumes-wanted.ensures.value i))
