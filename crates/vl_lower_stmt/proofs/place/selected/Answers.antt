use Rattle.std.specs.Prelude.{◌≡◌, IsSome}
use Rattle.std.proofs.Common.{ap, sym, ◌∙◌, subst, rules}
use Rattle.vl_tree.specs.Expr.{Selects, bit, indexed, part, whole}
use Rattle.vl_tree.specs.ExprView.{with_select}
use Rattle.vl_size.specs.Size.{vector_size}
use Rattle.vl_mean.specs.FlatLaw.{flat_scopes}
use Rattle.vl_mean.specs.Targets.{are_fixed}
use Rattle.vl_flow_cells.proofs.FixedSelects.{bit_fixed, indexed_fixed}
use Rattle.vl_lower_stmt.specs.Located.{HasBits}
use Rattle.vl_lower_stmt.proofs.Bits.{index_sized}
use Rattle.vl_lower_stmt.proofs.place.selected.Goals as goal

-- ---- a bit

pub bit_slot-requires-clause-sized : goal.bit_slot-requires-clause-sized
bit_slot-requires-clause-sized c =
    let ds = c.args.layout.decls.now in
    let d = c.args.decl.now in
    let inner : c.deref.result.now ≡ c.in-Bit.index.value = search rules in
    let all : with_select c.args.select.now whole ≡ bit c.in-Bit.field-0 c.deref.result.now whole =
    ap (λ x. with_select x whole) c.in-Bit.is ∙ ap (λ e. bit c.in-Bit.field-0 e whole) (sym inner) in
    let P : Selects → Type 0 = λ ss. IsSome (vector_size ds d ss) in
    index_sized ds d c.in-Bit.field-0 c.deref.result.now (subst P all c.requires.sized)

pub bit_slot-requires-clause-fixed : goal.bit_slot-requires-clause-fixed
bit_slot-requires-clause-fixed c = λ fix.
    let ds = c.args.layout.decls.now in
    let inner : c.deref.result.now ≡ c.in-Bit.index.value = search rules in
    let all : with_select c.args.select.now whole ≡ bit c.in-Bit.field-0 c.deref.result.now whole =
    ap (λ x. with_select x whole) c.in-Bit.is ∙ ap (λ e. bit c.in-Bit.field-0 e whole) (sym inner) in
    (bit_fixed ds c.in-Bit.field-0 c.deref.result.now whole
    (ap (are_fixed (flat_scopes ds)) (sym all) ∙ c.requires.fixed fix)).0

pub returns-in_ok-slot-in-Bit-clause-bits : goal.returns-in_ok-slot-in-Bit-clause-bits
returns-in_ok-slot-in-Bit-clause-bits c =
    let inner : c.deref.result.now ≡ c.in-Bit.index.value = search rules in
    let all : with_select c.args.select.now whole ≡ bit c.in-Bit.field-0 c.deref.result.now whole =
    ap (λ x. with_select x whole) c.in-Bit.is ∙ ap (λ e. bit c.in-Bit.field-0 e whole) (sym inner) in
    let P : Selects → Type 0 = λ ss. HasBits c.args.layout.decls.now c.args.net.now c.bit_slot.new.net c.args.cells.now
    c.args.decl.now ss c.in_ok-slot-in-Bit.slot in
    subst P (sym all) (c.in_ok-slot-in-Bit.ensures.bits c.in-Bit.field-0)

-- ---- a part

pub part_slot-requires-clause-sized : goal.part_slot-requires-clause-sized
part_slot-requires-clause-sized c = λ p.
    let ds = c.args.layout.decls.now in
    let d = c.args.decl.now in
    let left : c.deref-in-Part.result.now ≡ c.in-Part.left.value = search rules in
    let right : c.deref-in-Part-2.result.now ≡ c.in-Part.right.value = search rules in
    let all : with_select c.args.select.now whole
    ≡ part c.in-Part.field-0 c.deref-in-Part.result.now c.deref-in-Part-2.result.now whole =
    ap (λ x. with_select x whole) c.in-Part.is ∙ (λ i. part c.in-Part.field-0 (sym left i) (sym right i) whole) in
    let P : Selects → Type 0 = λ ss. IsSome (vector_size ds d ss) in subst P all c.requires.sized

pub returns-in-Part-clause-bits : goal.returns-in-Part-clause-bits
returns-in-Part-clause-bits c =
    let left : c.deref-in-Part.result.now ≡ c.in-Part.left.value = search rules in
    let right : c.deref-in-Part-2.result.now ≡ c.in-Part.right.value = search rules in
    let all : with_select c.args.select.now whole
    ≡ part c.in-Part.field-0 c.deref-in-Part.result.now c.deref-in-Part-2.result.now whole =
    ap (λ x. with_select x whole) c.in-Part.is ∙ (λ i. part c.in-Part.field-0 (sym left i) (sym right i) whole) in
    let P : Selects → Type 0 = λ ss. HasBits c.args.layout.decls.now c.args.net.now c.args.net.now c.args.cells.now
    c.args.decl.now ss c.part_slot.result in
    subst P (sym all) (c.part_slot.ensures.bits c.args.net.now c.in-Part.field-0)

-- ---- so many bits

pub indexed_slot-requires-clause-sized : goal.indexed_slot-requires-clause-sized
indexed_slot-requires-clause-sized c = λ p.
    let ds = c.args.layout.decls.now in
    let d = c.args.decl.now in
    let start : c.deref-in-Indexed.result.now ≡ c.in-Indexed.start.value = search rules in
    let count : c.deref-in-Indexed-2.result.now ≡ c.in-Indexed.bits.value = search rules in
    let all : with_select c.args.select.now whole
    ≡ indexed c.in-Indexed.field-0 c.deref-in-Indexed.result.now c.deref-in-Indexed-2.result.now whole =
    ap (λ x. with_select x whole) c.in-Indexed.is
    ∙ (λ i. indexed c.in-Indexed.field-0 (sym start i) (sym count i) whole) in
    let P : Selects → Type 0 = λ ss. IsSome (vector_size ds d ss) in subst P all c.requires.sized

pub indexed_slot-requires-clause-fixed : goal.indexed_slot-requires-clause-fixed
indexed_slot-requires-clause-fixed c = λ fix.
    let ds = c.args.layout.decls.now in
    let start : c.deref-in-Indexed.result.now ≡ c.in-Indexed.start.value = search rules in
    let count : c.deref-in-Indexed-2.result.now ≡ c.in-Indexed.bits.value = search rules in
    let all : with_select c.args.select.now whole
    ≡ indexed c.in-Indexed.field-0 c.deref-in-Indexed.result.now c.deref-in-Indexed-2.result.now whole =
    ap (λ x. with_select x whole) c.in-Indexed.is
    ∙ (λ i. indexed c.in-Indexed.field-0 (sym start i) (sym count i) whole) in
    indexed_fixed ds c.in-Indexed.field-0 c.deref-in-Indexed.result.now c.deref-in-Indexed-2.result.now whole
    (ap (are_fixed (flat_scopes ds)) (sym all) ∙ c.requires.fixed fix)

pub returns-in_ok-slot-in-Indexed-clause-bits : goal.returns-in_ok-slot-in-Indexed-clause-bits
returns-in_ok-slot-in-Indexed-clause-bits c =
    let start : c.deref-in-Indexed.result.now ≡ c.in-Indexed.start.value = search rules in
    let count : c.deref-in-Indexed-2.result.now ≡ c.in-Indexed.bits.value = search rules in
    let all : with_select c.args.select.now whole
    ≡ indexed c.in-Indexed.field-0 c.deref-in-Indexed.result.now c.deref-in-Indexed-2.result.now whole =
    ap (λ x. with_select x whole) c.in-Indexed.is
    ∙ (λ i. indexed c.in-Indexed.field-0 (sym start i) (sym count i) whole) in
    let P : Selects → Type 0 = λ ss. HasBits c.args.layout.decls.now c.args.net.now c.indexed_slot.new.net
    c.args.cells.now
    c.args.decl.now ss c.in_ok-slot-in-Indexed.slot in
    subst P (sym all) (c.in_ok-slot-in-Indexed.ensures.bits c.in-Indexed.field-0)
