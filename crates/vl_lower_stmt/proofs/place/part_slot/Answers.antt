use Rattle.std.specs.Prelude.{◌≡◌, IsSome}
use mir.Syntax.{w64}
use mir.Val.{to_z, of_z}
use Rattle.std.proofs.Common.{ap, sym, ◌∙◌, arith, subst}
use Rattle.std.proofs.lemmas.Int.{ints}
use Rattle.vl_tree.specs.Expr.{Expr, part, whole}
use Rattle.vl_size.specs.Size.{Values, cells_in, index_of, no_names, offset_of, operand_of, vector_size}
use Rattle.vl_size.specs.Table.{span}
use Rattle.vl_mean.specs.FlatLaw.{flat_scopes}
use Rattle.vl_mean.specs.Scopes.{operand_in}
use Rattle.vl_lower_nodes.specs.Points.{is_place}
use Rattle.vl_lower_stmt.proofs.Bits.{bits_part}
use Rattle.vl_lower_stmt.proofs.Contexts.{index_in}
use Rattle.vl_lower_stmt.proofs.Counts.{part_count}
use Rattle.vl_lower_stmt.proofs.place.part_slot.Goals as goal

pub range_of-range-requires-clause-sized : goal.range_of-range-requires-clause-sized
range_of-range-requires-clause-sized c = λ p.
    subst (λ b. IsSome (vector_size b.decls c.args.decl.now (part p c.args.left.now c.args.right.now whole)))
    (sym c.names_over.ensures) (c.requires.sized p)

pub returns-clause-bits : goal.returns-clause-bits
returns-clause-bits c = λ net p.
    let ds = c.args.layout.decls.now in
    let d = c.args.decl.now in
    let l = c.args.left.now in
    let r = c.args.right.now in
    let range = c.range_of-range.result in
    let made = c.range_of-range.ensures in
    let whole_place : to_z w64 (of_z w64 range.place) ≡ range.place = omega (arith, ints) in
    let at : (v : Values) (e : Expr) → index_of (operand_of c.names_over.result.decls.now (cells_in v) e)
    ≡ index_of (operand_in (flat_scopes ds) v e) =
    λ v e. ap (λ b. index_of (operand_of b.decls (cells_in v) e)) c.names_over.ensures ∙ index_in ds v e in
    bits_part ds net c.args.cells.now d c.args.holder p l r range.count (to_z w64 (of_z w64 range.place)) made.some
    made.few (ap is_place whole_place ∙ made.near)
    (made.count no_names
    ∙ ap (λ b. span (index_of (operand_of b.decls no_names l)) (index_of (operand_of b.decls no_names r)))
    c.names_over.ensures
    ∙ sym (part_count ds d p l r no_names (c.requires.sized p)))
    (λ v. made.count (cells_in v) ∙ (λ i. span (at v l i) (at v r i)))
    (λ v. whole_place ∙ made.place (cells_in v) ∙ ap (offset_of d) (at v r))
