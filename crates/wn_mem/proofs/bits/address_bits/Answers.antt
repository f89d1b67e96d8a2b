use Rattle.std.specs.Prelude.{ℕ, List, take}
use Rattle.std.proofs.Common.{arith, sym, ◌∙◌, subst, length-set}
use Rattle.std.proofs.lemmas.List.{take_more_set}
use Rattle.wn_net.specs.Net.{AreNodesOf}
use Rattle.wn_net.proofs.Laws.{adds_on, nodes_on, built_node}
use Rattle.wn_mem.proofs.Tree.{push_node, next_bit}
use Rattle.wn_mem.proofs.bits.address_bits.Goals as goal

pub loop-index-preserved : goal.loop-index-preserved
loop-index-preserved c =
    let inv = c.loop-index.invariant in
    let built = c.in_ok-bit.ensures.built in
    let i = c.loop-index.index in
    let bits = c.loop-index.bits in
    let P : List ℕ → Type 0 = λ ids. AreNodesOf c.slice.new.self 1 ids in
    record {
      adds = adds_on _ _ _ inv.adds built.adds;
      long = length-set bits i c.in_ok-bit.bit ∙ inv.long;
      nodes =
          subst P (sym (take_more_set bits i c.in_ok-bit.bit (omega (arith, inv.long))))
          (push_node _ 1 (take i bits) c.in_ok-bit.bit (nodes_on _ _ 1 (take i bits) built.adds inv.nodes)
          (built_node _ _ _ _ _ _ built));
      value = λ g.
          next_bit c.args.net.now c.loop-index.net c.slice.new.self g bits c.args.addr _ i c.in_ok-bit.bit inv.adds
          built.adds c.requires.addr inv.nodes
          (omega (arith, inv.long)) (omega arith) (inv.value g) (built.value g);
    }
