use Rattle.std.proofs.Common.{◌≡◌, ◌∙◌, [], ap, sym}
use Rattle.std.proofs.lemmas.Result.{IfOk-weaker}
use Rattle.fv_text.specs.declared.pos.Pos.{Pos}
use Rattle.vl_tree.specs.Expr.{whole, bit, part, indexed}
use Rattle.vl_tree.specs.ExprView.{with_select}
use Rattle.vl_size.specs.declared.decl.Decl.{Decl}
use Rattle.vl_size.specs.Size.{vector_size}
use Rattle.vl_mean_flat.specs.FullNames.{flat_expr, flat_selects}
use Rattle.vl_elab_emit.proofs.Several.{bit_selected, part_selected, indexed_selected}
use Rattle.vl_elab_emit.proofs.bits.select_bits.Goals as goal

pub returns-in-Bit : goal.returns-in-Bit
returns-in-Bit c =
    IfOk-weaker c.bit_bits.result
    (λ o. (d : Decl) (p : Pos)
    → o ≡ vector_size [] d (bit p (flat_expr c.args.scopes.now c.deref.result.now) whole))
    (λ o. o ≡ vector_size [] c.args.decl.now (flat_selects c.args.scopes.now (with_select c.args.select.now whole)))
    (λ o h. bit_selected c.args.scopes.now c.args.decl.now c.in-Bit.field-0 c.deref.result.now
    (with_select c.args.select.now whole) o
    (ap (λ s. with_select s whole) c.in-Bit.is ∙ ap (λ x. bit c.in-Bit.field-0 x whole) (sym c.deref.ensures))
    (h c.args.decl.now c.in-Bit.field-0)) c.bit_bits.ensures

pub returns-in-Part : goal.returns-in-Part
returns-in-Part c =
    IfOk-weaker c.part_bits.result
    (λ o. (p : Pos) → o ≡ vector_size [] c.args.decl.now (part p
    (flat_expr c.args.scopes.now c.deref-in-Part.result.now)
    (flat_expr c.args.scopes.now c.deref-in-Part-2.result.now) whole))
    (λ o. o ≡ vector_size [] c.args.decl.now (flat_selects c.args.scopes.now (with_select c.args.select.now whole)))
    (λ o h. part_selected c.args.scopes.now c.args.decl.now c.in-Part.field-0 c.deref-in-Part.result.now
    c.deref-in-Part-2.result.now (with_select c.args.select.now whole) o
    (ap (λ s. with_select s whole) c.in-Part.is
    ∙ (λ i. part c.in-Part.field-0 (sym c.deref-in-Part.ensures i) (sym c.deref-in-Part-2.ensures i) whole))
    (h c.in-Part.field-0)) c.part_bits.ensures

pub returns-in-Indexed : goal.returns-in-Indexed
returns-in-Indexed c =
    IfOk-weaker c.indexed_bits.result
    (λ o. (d : Decl) (p : Pos) → o ≡ vector_size [] d (indexed p
    (flat_expr c.args.scopes.now c.deref-in-Indexed.result.now)
    (flat_expr c.args.scopes.now c.deref-in-Indexed-2.result.now) whole))
    (λ o. o ≡ vector_size [] c.args.decl.now (flat_selects c.args.scopes.now (with_select c.args.select.now whole)))
    (λ o h. indexed_selected c.args.scopes.now c.args.decl.now c.in-Indexed.field-0 c.deref-in-Indexed.result.now
    c.deref-in-Indexed-2.result.now (with_select c.args.select.now whole) o
    (ap (λ s. with_select s whole) c.in-Indexed.is
    ∙ (λ i. indexed c.in-Indexed.field-0 (sym c.deref-in-Indexed.ensures i) (sym c.deref-in-Indexed-2.ensures i)
    whole)) (h c.args.decl.now c.in-Indexed.field-0)) c.indexed_bits.ensures
