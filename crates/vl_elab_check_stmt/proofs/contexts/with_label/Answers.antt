use Rattle.vl_elab_check_stmt.proofs.Cases.{label_in}
use Rattle.vl_elab_check_stmt.proofs.contexts.with_label.Goals as goal

pub returns-clause-value : goal.returns-clause-value
returns-clause-value c =
    label_in c.args.names.now c.args.context c.in_ok-own.own c.larger.result c.both.result c.args.label.now
    c.in_ok-own.ensures.value c.larger.ensures.value c.both.ensures
