use Rattle.vl_elab_names.specs.Known.{contains}
use Rattle.vl_elab_check_instance.proofs.Clocks.{joined_are}
use Rattle.vl_elab_check_instance.proofs.inputs.joined_inputs.Goals as goal

pub returns : goal.returns
returns c names known ss x has_value h e =
    joined_are names c.args.numbers.now (contains c.args.clocks.now) known ss x has_value c.args.all.now
    c.in_ok-all_joined.field-0 c.in_ok-all_joined.ensures h e
