use Rattle.std.proofs.Common.{◌≡◌, ◌<◌, ap, ◌∙◌, arith, length}
use Rattle.std.proofs.lemmas.List.{get_or_read}
use Rattle.std.specs.Prelude.{slice_index}
use Rattle.wn_net.specs.Net.{value_at}
use Rattle.vl_lower_stmt.specs.First.{nothing_given}
use Rattle.vl_lower_stmt.proofs.Numbers.{node_at, number_more, value_is, values_length}
use Rattle.vl_lower_stmt.proofs.number.numbers_of.Goals as goal

pub index-requires : goal.index-requires
index-requires c =
    let net = c.args.net.now in
    let i = c.loop-cell.cell-index in
    let there = node_at net c.args.cells.now c.requires.cells i c.loop-cell-test.true in
    let size : length c.in_ok-values.values.items ≡ length net.nodes =
    ap length c.in_ok-values.ensures ∙ values_length net nothing_given in
    omega (arith, there, size, c.in_ok-values.values.ok.0)

pub loop-cell-preserved : goal.loop-cell-preserved
loop-cell-preserved c =
    let net = c.args.net.now in
    let cells = c.args.cells.now in
    let i = c.loop-cell.cell-index in
    let id = slice_index cells i in
    let there = node_at net cells c.requires.cells i c.loop-cell-test.true in
    let size : length c.in_ok-values.values.items ≡ length net.nodes =
    ap length c.in_ok-values.ensures ∙ values_length net nothing_given in
    let within : id < length c.in_ok-values.values.items = omega (arith, there, size) in
    let is : c.index.result.now ≡ value_at net nothing_given id =
    get_or_read c.in_ok-values.values.items id c.index.result.now within c.index.ensures 0
    ∙ ap (λ xs. slice_index xs id) c.in_ok-values.ensures ∙ value_is net nothing_given id in
    number_more net nothing_given cells c.loop-cell.numbers c.push.new.self i c.index.result.now c.loop-cell-test.true
    c.loop-cell.invariant c.in_ok-push.ensures.ok is
