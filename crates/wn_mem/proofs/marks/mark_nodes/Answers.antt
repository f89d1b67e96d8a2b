use Rattle.std.specs.Prelude.{ℕ, List, take}
use Rattle.std.proofs.Common.{arith, ap, sym, ◌∙◌, subst, length-set}
use Rattle.std.proofs.lemmas.List.{take_more_set}
use Rattle.fv_bits.specs.Bits.{low, part}
use Rattle.wn_net.specs.Net.{AreNodesOf, value_at}
use Rattle.wn_net.proofs.Laws.{adds_on, node_on, nodes_on, built_node, value_on}
use Rattle.wn_mem.proofs.Tree.{push_node}
use Rattle.wn_mem.proofs.Telling.{told_next, bit_of_one}
use Rattle.wn_mem.proofs.marks.mark_nodes.Goals as goal

pub loop-index-preserved : goal.loop-index-preserved
loop-index-preserved c =
    let inv = c.loop-index.invariant in
    let built = c.in_ok-mark.ensures.built in
    let i = c.loop-index.index in
    let marks = c.loop-index.marks in
    let P : List ℕ → Type 0 = λ ids. AreNodesOf c.slice.new.self 1 ids in
    record {
      adds = adds_on _ _ _ inv.adds built.adds;
      long = length-set marks i c.in_ok-mark.mark ∙ inv.long;
      shifted = node_on _ _ 16 _ built.adds inv.shifted;
      one = λ g. value_on _ _ g _ built.adds inv.shifted.0 ∙ inv.one g;
      nodes =
          subst P (sym (take_more_set marks i c.in_ok-mark.mark (omega (arith, inv.long))))
          (push_node _ 1 (take i marks) c.in_ok-mark.mark (nodes_on _ _ 1 (take i marks) built.adds inv.nodes)
          (built_node _ _ _ _ _ _ built));
      told = λ g.
          told_next c.loop-index.net c.slice.new.self g marks i c.in_ok-mark.mark
          (low 4 (value_at c.args.net.now g c.args.addr)) built.adds inv.nodes (omega (arith, inv.long))
          (inv.told g)
          (built.value g ∙ ap (part i 1) (inv.one g) ∙ bit_of_one (low 4 (value_at c.args.net.now g c.args.addr)) i);
    }
