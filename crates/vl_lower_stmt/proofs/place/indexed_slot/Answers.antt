use Rattle.std.specs.Prelude.{◌≤◌, IsSome}
use Rattle.std.proofs.Common.{ap, sym, ◌∙◌, arith, subst}
use Rattle.fv_text.specs.declared.pos.Pos.{Pos}
use Rattle.vl_size.specs.Size.{cells_in, index_of, no_names, operand_of, times}
use Rattle.vl_lower_expr.proofs.Sized.{is_width, start_sized}
use Rattle.vl_lower_stmt.proofs.Bits.{bits_indexed}
use Rattle.vl_lower_stmt.proofs.Contexts.{index_in}
use Rattle.vl_lower_stmt.proofs.Counts.{indexed_count}
use Rattle.vl_lower_stmt.proofs.place.indexed_slot.Goals as goal

here : Pos
here = record { file = 0; line = 0; col = 0 }

pub count_of-count-requires-clause-constant : goal.count_of-count-requires-clause-constant
count_of-count-requires-clause-constant c =
    (is_width c.args.layout.decls.now c.args.decl.now here c.args.start.now c.args.bits.now
    (c.requires.sized here)).constant

pub count_of-count-requires-clause-sized : goal.count_of-count-requires-clause-sized
count_of-count-requires-clause-sized c = λ v.
    subst (λ b. IsSome (times (index_of (operand_of b.decls v c.args.bits.now)) 1)) (sym c.names_over.ensures)
    ((is_width c.args.layout.decls.now c.args.decl.now here c.args.start.now c.args.bits.now
    (c.requires.sized here)).sized v)

pub place_at-requires-clause-sized : goal.place_at-requires-clause-sized
place_at-requires-clause-sized c =
    start_sized c.args.layout.decls.now c.args.decl.now here c.args.start.now c.args.bits.now (c.requires.sized here)

pub returns-clause-bits : goal.returns-clause-bits
returns-clause-bits c = λ p.
    let ds = c.args.layout.decls.now in
    let count = c.count_of-count.result in
    let made = c.count_of-count.ensures in
    let e = c.args.bits.now in
    let few : count ≤ 128 = omega (arith, made.few) in
    bits_indexed ds c.args.net.now c.place_at.new.net c.args.cells.now c.args.decl.now c.args.holder p
    c.args.start.now e
    count c.in_ok-place.place made.some few
    (indexed_count ds c.args.decl.now p c.args.start.now e no_names count (c.requires.sized p)
    (sym (ap (λ b. index_of (operand_of b.decls no_names e)) c.names_over.ensures) ∙ made.value no_names)
    made.some made.few)
    (λ v. sym (index_in ds v e) ∙ sym (ap (λ b. index_of (operand_of b.decls (cells_in v) e)) c.names_over.ensures)
    ∙ made.value (cells_in v))
    c.in_ok-place.ensures
