use Rattle.std.proofs.Common.{◌∙◌, ◌++◌}
use Rattle.vl_tree.specs.Item.{items}
use Rattle.vl_mean.specs.Declarations.{header_parameters}
use Rattle.vl_mean.specs.Walk.{header_of}
use Rattle.vl_elab_spec.specs.Items.{items_parameters, parameter_named}
use Rattle.vl_elab_check_instance.proofs.Found.{other_lists}
use Rattle.vl_elab_check_instance.proofs.parameters.ParameterTable.find.Goals as goal

pub find_in-requires : goal.find_in-requires
find_in-requires c =
    other_lists c.args.self.now c.header_of.result.now (header_of c.args.module.now.parameters)
    c.as_slice.result.now c.args.module.now.items c.header_of.ensures c.as_slice.ensures c.requires

pub returns : goal.returns
returns c =
    c.find_in.ensures
    ∙ (λ i. parameter_named (header_parameters (c.header_of.ensures i) ++ items_parameters
    (items (c.as_slice.ensures i))) c.args.name.now)
