use Rattle.std.specs.Prelude.{◌≡◌}
use mir.Syntax.{w64}
use mir.Val.{to_z, of_z}
use Rattle.std.proofs.Common.{ap, sym, ◌∙◌, arith}
use Rattle.std.proofs.lemmas.Int.{ints}
use Rattle.fv_bits.specs.Bits.{as_int}
use Rattle.vl_size.specs.Size.{cells_in, index_of, is_bound, operand_of, start_of}
use Rattle.vl_flow_cells.proofs.Ranges.{passed, taken}
use Rattle.vl_lower_nodes.specs.Points.{is_place}
use Rattle.vl_lower_expr.proofs.Finding.{bound_whole}
use Rattle.vl_lower_stmt.proofs.Bits.{bound_between, placed_fixed, placed_varying}
use Rattle.vl_lower_stmt.proofs.Contexts.{index_in}
use Rattle.vl_lower_stmt.proofs.place.place_at.Goals as goal

pub returns-in-Some : goal.returns-in-Some
returns-in-Some c =
    let ds = c.args.layout.decls.now in
    let d = c.args.decl.now in
    let e = c.args.index.now in
    let own = c.constant-own.result in
    let i = as_int own.width own.signed own.number in
    let j = c.in-Some.near in
    let found = sym c.word_of.ensures ∙ c.in-Some.is in
    let same = taken _ i j found in
    let near = ap is_bound (sym same) ∙ bound_between i (passed _ i j found) in
    let whole : to_z w64 (of_z w64 c.start_of.result) ≡ c.start_of.result = omega (arith, ints) in
    placed_fixed ds c.args.net.now c.args.cells.now _ _ (ap is_place whole ∙ c.start_of.ensures.place)
    (λ v. whole ∙ c.start_of.ensures.value
    ∙ ap (λ z. start_of d z c.args.count)
    (bound_whole j near ∙ sym same ∙ c.constant-own.ensures (cells_in v)
    ∙ ap (λ b. index_of (operand_of b.decls (cells_in v) e)) c.names_over.ensures ∙ index_in ds v e))

pub returns : goal.returns
returns c =
    let at = c.in_ok-place.ensures in
    placed_varying c.args.layout.decls.now c.args.net.now c.own_number.new.net c.place_from.new.net c.args.cells.now
    c.args.decl.now c.args.index.now c.args.count c.in_ok-node.node c.in_ok-place.place c.sign_of.result
    c.in_ok-node.ensures c.sign_of.ensures at.adds at.up at.down at.value
