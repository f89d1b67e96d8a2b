use Rattle.std.proofs.Common.{◌∙◌}
use Rattle.vl_mean.specs.FlatLaw.{nodes}
use Rattle.vl_elab_count.proofs.CountSums.{one}
use Rattle.vl_elab_count.proofs.count_items.if_nodes.Goals as goal

pub returns : goal.returns
returns c =
    c.plus.ensures ∙ one (nodes c.args.condition.now) c.expr_nodes.result c.expr_nodes.ensures
