use Rattle.std.proofs.Common.{◌∙◌, ap, false}
use Rattle.vl_tree.specs.Item.{items}
use Rattle.vl_mean.specs.Declarations.{header_parameters}
use Rattle.vl_mean.specs.Walk.{parameter_names}
use Rattle.vl_elab_spec.specs.Meanings.{items_names}
use Rattle.vl_elab_params.specs.Entered.{with_later, port_texts}
use Rattle.vl_elab_params.proofs.LaterNames.{later_three}
use Rattle.vl_elab_params.proofs.behind.all_behind.Goals as goal

pub returns : goal.returns
returns c =
    let xs = parameter_names (header_parameters c.args.parameters.now) in
    let ys = port_texts false c.args.ports.now in
    let zs = items_names (items c.args.all.now) in
    c.in_ok-add_items.ensures
    ∙ ap (λ l. with_later l zs) (c.in_ok-add_ports.ensures
    ∙ ap (λ l. with_later l ys) (c.in_ok-add_header.ensures ∙ ap (λ l. with_later l xs) c.new-level.ensures))
    ∙ later_three _ xs ys zs
