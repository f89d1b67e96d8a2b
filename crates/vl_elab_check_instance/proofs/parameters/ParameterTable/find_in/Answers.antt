use Rattle.std.proofs.Common.{ap, sym, ◌∙◌, ◌++◌}
use Rattle.std.specs.Option.{option_copied}
use Rattle.std.specs.Prelude.{None}
use Rattle.vl_tree.specs.Item.{items}
use Rattle.vl_mean.specs.Declarations.{header_parameters}
use Rattle.vl_elab_spec.specs.Items.{items_parameters}
use Rattle.vl_elab_check_instance.specs.Parameters.{found_at, spot_in}
use Rattle.vl_elab_check_instance.proofs.Found.{found_here}
use Rattle.vl_elab_check_instance.proofs.parameters.ParameterTable.find_in.Goals as goal

pub returns-in-None : goal.returns-in-None
returns-in-None c =
    let hs = c.args.headers.now in
    let xs = c.args.all.now in
    found_here hs xs (spot_in c.args.self.now) (header_parameters hs ++ items_parameters (items xs)) c.args.name.now
    c.bytes.result.now (option_copied c.get.result) None c.requires c.bytes.ensures c.get.ensures.value
    (ap (λ o. found_at hs xs (option_copied o)) (sym c.in-None.is))

pub returns-in-Some : goal.returns-in-Some
returns-in-Some c =
    let hs = c.args.headers.now in
    let xs = c.args.all.now in
    found_here hs xs (spot_in c.args.self.now) (header_parameters hs ++ items_parameters (items xs)) c.args.name.now
    c.bytes.result.now (option_copied c.get.result) (option_copied c.parameter_at.result) c.requires c.bytes.ensures
    c.get.ensures.value
    (c.parameter_at.ensures ∙ ap (λ o. found_at hs xs (option_copied o)) (sym c.in-Some.is))
