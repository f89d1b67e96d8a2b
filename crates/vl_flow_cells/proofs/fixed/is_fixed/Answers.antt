use Rattle.std.proofs.Common.{rules, ◌≡◌, ap, ◌∙◌}
use Rattle.vl_tree.specs.ExprView.{with_select}
use Rattle.vl_size.specs.Size.{is_constant}
use Rattle.vl_mean.specs.FlatLaw.{flat_scopes}
use Rattle.vl_mean.specs.Targets.{are_fixed}
use Rattle.vl_flow_cells.proofs.FixedSelects.{fixed_bit, fixed_indexed}
use Rattle.vl_flow_cells.proofs.fixed.is_fixed.Goals as goal

pub returns-in-Bit : goal.returns-in-Bit
returns-in-Bit c ds rest =
    let i = c.in-Bit.index.value in
    let inner : c.deref.result.now ≡ i = search rules in
    ap (λ s. are_fixed (flat_scopes ds) (with_select s rest)) c.in-Bit.is
    ∙ fixed_bit ds c.in-Bit.field-0 i rest c.is_constant.result (c.is_constant.ensures ∙ ap is_constant inner)

pub returns-in-Indexed : goal.returns-in-Indexed
returns-in-Indexed c ds rest =
    let i = c.in-Indexed.start.value in
    let inner : c.deref-in-Indexed.result.now ≡ i = search rules in
    ap (λ s. are_fixed (flat_scopes ds) (with_select s rest)) c.in-Indexed.is
    ∙ fixed_indexed ds c.in-Indexed.field-0 i c.in-Indexed.field-2.value rest c.is_constant-in-Indexed.result
    (c.is_constant-in-Indexed.ensures ∙ ap is_constant inner)
