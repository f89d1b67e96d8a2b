use Rattle.std.proofs.Common.{◌∙◌, ap, sym, []}
use Rattle.vl_tree.specs.Item.{items}
use Rattle.vl_mean.specs.Declarations.{header_parameters}
use Rattle.vl_mean.specs.Walk.{parameter_names}
use Rattle.vl_elab_spec.specs.Meanings.{parameters_of}
use Rattle.vl_elab_params.specs.Entered.{with_later}
use Rattle.vl_elab_params.proofs.LaterNames.{later_append}
use Rattle.vl_elab_params.proofs.pending.all_pending.Goals as goal

pub returns : goal.returns
returns c =
    let xs = parameter_names (header_parameters c.args.parameters.now) in
    let ys = parameters_of (items c.args.all.now) in
    c.in_ok-add_items.ensures
    ∙ ap (λ l. with_later l ys) (c.in_ok-add_header.ensures ∙ ap (λ l. with_later l xs) c.new-level.ensures)
    ∙ sym (later_append [] xs ys)
