use Rattle.std.proofs.Common.{sym, ◌∙◌}
use Rattle.wn_mem.proofs.Tree.{constant_value}
use Rattle.wn_mem.proofs.constant.constant_of.Goals as goal

pub returns-in-Konst : goal.returns-in-Konst
returns-in-Konst c = λ g.
    constant_value c.args.net.now g c.nodes-nodes.result.now c.args.id c.in-Konst.word _ c.nodes-nodes.ensures.whole
    c.nodes-nodes.ensures.value
    c.requires c.in-Konst.is
    ∙ sym c.value.ensures
