use Rattle.std.proofs.Common.{◌∙◌}
use Rattle.vl_lower_expr.proofs.constants.constant_node.Goals as goal

pub returns-clause-shows : goal.returns-clause-shows
returns-clause-shows c = λ ds v.
    record {
      node = c.in_ok-node.ensures.shows.node;
      value = λ g given. c.in_ok-node.ensures.shows.value g given ∙ c.constant_value-value.ensures.value ds v;
    }
