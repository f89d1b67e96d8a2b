use Rattle.vl_mean.specs.Declarations.{names_of}
use Rattle.vl_elab_spec.specs.Meanings.{item_names}
use Rattle.vl_elab_check.proofs.Places.{goes_further}
use Rattle.vl_elab_check.proofs.steps.pass.Goals as goal

pub returns : goal.returns
returns c at path h =
    let x = c.args.part.now in
    goes_further c.args.inside.now c.args.here.now path at (item_names x) (names_of x) c.pass_item.new.earlier
    c.pass_item.new.reached h (c.in_ok-pass_item.ensures.earlier at.earlier h.known.before)
    (c.in_ok-pass_item.ensures.reached at at.earlier h.known.alike h.known.parameters)
