use Rattle.std.specs.Prelude.{length}
use Rattle.std.proofs.Common.{ap, ◌∙◌}
use Rattle.wn_net.proofs.Kept.{kept_with_node, shown_with_node}
use Rattle.wn_net.proofs.Stays.{builds_by}
use Rattle.wn_net.proofs.net.Net.push.Goals as goal

pub invariant_of-self-2 : goal.invariant_of-self-2
invariant_of-self-2 c =
    kept_with_node _ _ c.args.node c.args.width _ _ _ c.self.invariant c.self.view_is c.requires.fits c.requires.width
    c.in_ok-id.ensures.nodes c.in_ok-id.ensures.widths

pub returns-clause-built : goal.returns-clause-built
returns-clause-built c =
    builds_by _ _ c.args.node c.in_ok-id.id (shown_with_node _ _ c.args.node _ c.self.view_is c.in_ok-id.ensures.nodes)
    (c.in_ok-id.ensures.last ∙ ap (λ n. length n.nodes) c.self.view_is)
