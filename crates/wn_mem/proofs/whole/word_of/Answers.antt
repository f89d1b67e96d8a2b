use Rattle.std.specs.Prelude.{◌<◌, length}
use Rattle.std.proofs.Common.{ap, arith, sym, ◌∙◌}
use Rattle.std.proofs.lemmas.Bool.Decides.{nat_tests}
use Rattle.wn_mem.proofs.Memories.{found_in, word_there, word_value, word_width}
use Rattle.wn_mem.proofs.Tree.{constant_value}
use Rattle.wn_mem.proofs.whole.word_of.Goals as goal

pub returns-in-Some-Konst-clause-there : goal.returns-in-Some-Konst-clause-there
returns-in-Some-Konst-clause-there c =
    let net = c.args.net.now in
    word_there net c.args.id c.in-Read.mem c.in-Read.addr c.nodes-nodes.ensures.whole
    (found_in net c.nodes-nodes.result.now c.args.id _ _ c.nodes-nodes.ensures.value c.requires c.in-Read.is)

pub returns-in-Some-Konst-clause-width : goal.returns-in-Some-Konst-clause-width
returns-in-Some-Konst-clause-width c =
    let net = c.args.net.now in
    word_width net c.args.id c.in-Read.mem c.in-Read.addr c.nodes-nodes.ensures.whole
    (found_in net c.nodes-nodes.result.now c.args.id _ _ c.nodes-nodes.ensures.value c.requires c.in-Read.is)

pub returns-in-Some-Konst-clause-value : goal.returns-in-Some-Konst-clause-value
returns-in-Some-Konst-clause-value c = λ g.
    let net = c.args.net.now in
    let read = c.in-Some-Konst.ensures.lookup in
    let nodes_are = c.nodes-nodes.ensures.value in
    let below : c.in-Read.addr < length net.nodes =
    grind (arith, nat_tests, read.0, ap length nodes_are) in
    word_value net g c.args.id c.in-Read.mem c.in-Read.addr _ c.nodes-nodes.ensures.whole
    (found_in net c.nodes-nodes.result.now c.args.id _ _ nodes_are c.requires c.in-Read.is)
    (constant_value net g c.nodes-nodes.result.now c.in-Read.addr c.in-Some-Konst.number _ c.nodes-nodes.ensures.whole
    nodes_are below (sym read.1 ∙ c.in-Some-Konst.field-0-is)
    ∙ sym c.value.ensures)
