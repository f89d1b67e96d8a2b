use Rattle.std.proofs.Common.{◌∙◌, sym}
use Rattle.std.specs.Prelude.{◌++◌}
use Rattle.vl_tree.specs.Item.{items}
use Rattle.vl_mean.specs.Declarations.{header_parameters}
use Rattle.vl_mean.specs.Walk.{parameter_names}
use Rattle.vl_elab_spec.specs.Meanings.{parameters_of}
use Rattle.vl_elab_check.proofs.Places.{module_entered}
use Rattle.vl_elab_check.proofs.Plain.{module_plain}
use Rattle.vl_elab_check.proofs.scopes.enter_used.Goals as goal

pub returns-clause-here : goal.returns-clause-here
returns-clause-here c u text modules path inputs given formed e =
    let m = c.args.module.now in
    let inside = c.in_ok-inside.inside in
    module_entered inside.names inside.numbers inside.around inside.clocks c.new-2.result c.in_ok-reached.reached c.args.given
    c.new-2.ensures path m u text modules e
    (c.in_ok-inside.ensures.stands u text inputs given (module_plain m formed))
    (c.in_ok-inside.ensures.around u given) c.in_ok-inside.ensures.parameters
    (λ here k. c.in_ok-reached.ensures here (k ∙ (λ i.
    parameter_names (header_parameters (sym c.header_of-parameters.ensures i))
    ++ parameters_of (items (sym c.as_slice.ensures i))))) given
