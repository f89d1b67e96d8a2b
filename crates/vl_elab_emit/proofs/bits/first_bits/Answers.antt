use Rattle.std.proofs.Common.{◌≡◌, ◌∙◌, [], ap, sym}
use Rattle.std.proofs.lemmas.Result.{IfOk-weaker}
use Rattle.fv_text.specs.declared.pos.Pos.{Pos}
use Rattle.vl_tree.specs.Expr.{bit}
use Rattle.vl_tree.specs.ExprView.{selects, with_select}
use Rattle.vl_size.specs.Size.{word_size}
use Rattle.vl_mean_flat.specs.FullNames.{flat_expr, flat_selects}
use Rattle.vl_elab_emit.proofs.Several.{word_selected, no_word_part, no_word_indexed}
use Rattle.vl_elab_emit.proofs.bits.first_bits.Goals as goal

pub returns-in-Bit : goal.returns-in-Bit
returns-in-Bit c =
    IfOk-weaker c.word_bits.result
    (λ o. (p : Pos) → o ≡ word_size [] c.args.decl.now (bit p
    (flat_expr c.args.scopes.now c.deref.result.now) (flat_selects c.args.scopes.now (selects c.args.rest.now))))
    (λ o. o ≡ word_size [] c.args.decl.now (flat_selects c.args.scopes.now
    (with_select c.args.first.now (selects c.args.rest.now))))
    (λ o h. word_selected c.args.scopes.now c.args.decl.now c.in-Bit.field-0 c.deref.result.now
    (with_select c.args.first.now (selects c.args.rest.now)) (selects c.args.rest.now) o
    (ap (λ s. with_select s (selects c.args.rest.now)) c.in-Bit.is
    ∙ ap (λ x. bit c.in-Bit.field-0 x (selects c.args.rest.now)) (sym c.deref.ensures)) (h c.in-Bit.field-0))
    c.word_bits.ensures

pub returns-in-Part : goal.returns-in-Part
returns-in-Part c =
    no_word_part c.args.scopes.now c.args.decl.now c.in-Part.field-0 c.in-Part.field-1.value c.in-Part.field-2.value
    (with_select c.args.first.now (selects c.args.rest.now)) (selects c.args.rest.now)
    (ap (λ s. with_select s (selects c.args.rest.now)) c.in-Part.is)

pub returns-in-Indexed : goal.returns-in-Indexed
returns-in-Indexed c =
    no_word_indexed c.args.scopes.now c.args.decl.now c.in-Indexed.field-0 c.in-Indexed.field-1.value
    c.in-Indexed.field-2.value (with_select c.args.first.now (selects c.args.rest.now)) (selects c.args.rest.now)
    (ap (λ s. with_select s (selects c.args.rest.now)) c.in-Indexed.is)
