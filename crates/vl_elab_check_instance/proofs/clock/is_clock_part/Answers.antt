use Rattle.vl_elab_names.specs.Known.{contains}
use Rattle.vl_elab_check_instance.proofs.Clocks.{no_part}
use Rattle.vl_elab_check_instance.proofs.clock.is_clock_part.Goals as goal

pub returns-in-len1-up : goal.returns-in-len1-up
returns-in-len1-up c =
    no_part (contains c.args.clocks.now) c.args.numbers.now c.args.name.now c.args.all.now c.in-len1-up.len_at_least
