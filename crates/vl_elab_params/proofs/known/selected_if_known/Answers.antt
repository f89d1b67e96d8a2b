use Rattle.std.proofs.Common.{◌∙◌, sym}
use Rattle.vl_elab_const.specs.Given.{value_given}
use Rattle.vl_elab_params.proofs.Bounded.{none_selected}
use Rattle.vl_elab_params.proofs.known.selected_if_known.Goals as goal

pub returns-in-None : goal.returns-in-None
returns-in-None c =
    none_selected (value_given c.args.given.now) c.args.names.now c.args.parameter.now
    (sym c.in-None.is ∙ c.in_ok-extent.ensures)
