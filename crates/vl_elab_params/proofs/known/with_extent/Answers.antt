use Rattle.std.proofs.Common.{◌∙◌}
use Rattle.vl_elab_const.specs.Given.{value_given}
use Rattle.vl_elab_params.proofs.Bounded.{extent_few, extent_bits, selected_by}
use Rattle.vl_elab_params.proofs.known.with_extent.Goals as goal

pub returns : goal.returns
returns c =
    c.if_known.ensures
    ∙ selected_by (value_given c.args.given.now) c.args.names.now c.args.parameter.now c.args.extent
    c.may_be_selected.result c.requires c.may_be_selected.ensures c.in_ok-known.known c.in_ok-known.ensures

pub is_known_or-requires-clause-few : goal.is_known_or-requires-clause-few
is_known_or-requires-clause-few c =
    extent_few c.args.names.now c.args.parameter.now.shape.range c.args.extent c.requires

pub is_known_or-requires-clause-bits : goal.is_known_or-requires-clause-bits
is_known_or-requires-clause-bits c =
    extent_bits c.args.names.now c.args.parameter.now.shape.range c.args.extent c.requires
