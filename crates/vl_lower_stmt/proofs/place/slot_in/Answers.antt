use Rattle.std.specs.Prelude.{IsSome, pos}
use Rattle.std.proofs.Common.{ap, sym, ◌∙◌, subst, refl}
use Rattle.vl_tree.specs.Expr.{Selects}
use Rattle.vl_tree.specs.ExprView.{selects}
use Rattle.vl_size.specs.Size.{vector_size}
use Rattle.vl_mean.specs.FlatLaw.{flat_scopes}
use Rattle.vl_mean.specs.Targets.{are_fixed}
use Rattle.vl_lower_assign.specs.declared.spread.BitPlace.TheVariants as place
use Rattle.vl_lower_assign.specs.declared.slot.Slot.{Slot}
use Rattle.vl_lower_expr.proofs.Sized.{no_select, only_select}
use Rattle.vl_lower_stmt.specs.Located.{HasBits}
use Rattle.vl_lower_stmt.proofs.Bits.{bits_whole}
use Rattle.vl_lower_stmt.proofs.place.slot_in.Goals as goal

pub returns-in-None-clause-bits : goal.returns-in-None-clause-bits
returns-in-None-clause-bits c =
    let d = c.args.decl.now in
    let none = no_select c.args.all.now c.in-None.ensures.cases in
    let slot : Slot = record {
      holder = c.args.holder;
      place = place.Fixed (pos 0);
      count = d.width;
      width = d.width;
    } in
    let P : Selects → Type 0 = λ ss. HasBits c.args.layout.decls.now c.args.net.now c.args.net.now c.args.cells.now d
    ss slot in
    subst P (sym none)
    (bits_whole c.args.layout.decls.now c.args.net.now c.args.cells.now d c.args.holder c.requires.shaped.some_bits
    c.requires.shaped.few_bits refl)

pub selected-requires-clause-sized : goal.selected-requires-clause-sized
selected-requires-clause-sized c =
    let ds = c.args.layout.decls.now in
    let d = c.args.decl.now in
    let x = c.in-Some.select.now in
    let xs = c.in-Some._behind.now in
    let all = ap selects c.in-Some.ensures.cases.0 in
    let P : Selects → Type 0 = λ ss. IsSome (vector_size ds d ss) in
    let sized = subst P all c.requires.sized in subst P (only_select ds d x xs sized) sized

pub selected-requires-clause-fixed : goal.selected-requires-clause-fixed
selected-requires-clause-fixed c = λ fix.
    let ds = c.args.layout.decls.now in
    let d = c.args.decl.now in
    let x = c.in-Some.select.now in
    let xs = c.in-Some._behind.now in
    let all = ap selects c.in-Some.ensures.cases.0 in
    let P : Selects → Type 0 = λ ss. IsSome (vector_size ds d ss) in
    let one = all ∙ only_select ds d x xs (subst P all c.requires.sized) in
    ap (are_fixed (flat_scopes ds)) (sym one) ∙ sym (c.are_fixed-fixed.ensures ds) ∙ fix

pub returns-in_ok-slot-in-Some-clause-bits : goal.returns-in_ok-slot-in-Some-clause-bits
returns-in_ok-slot-in-Some-clause-bits c =
    let ds = c.args.layout.decls.now in
    let d = c.args.decl.now in
    let x = c.in-Some.select.now in
    let xs = c.in-Some._behind.now in
    let all = ap selects c.in-Some.ensures.cases.0 in
    let P : Selects → Type 0 = λ ss. IsSome (vector_size ds d ss) in
    let one = all ∙ only_select ds d x xs (subst P all c.requires.sized) in
    let Q : Selects → Type 0 = λ ss. HasBits ds c.args.net.now c.selected.new.net c.args.cells.now d ss
    c.in_ok-slot-in-Some.slot in
    subst Q (sym one) c.in_ok-slot-in-Some.ensures.bits
