use Rattle.std.specs.Prelude.{◌+◌, ◌∷◌, ℕ, List}
use Rattle.std.specs.Prelude.{drop}
use Rattle.std.proofs.Common.{ap, sym, subst, arith, ◌∙◌}
use Rattle.std.proofs.lemmas.List.{drop_more, drop_all}
use Rattle.wn_net.specs.declared.node.Node.{Node}
use Rattle.bb_aig.proofs.Growth.{grows_none, grows_on}
use Rattle.bb_blast.specs.Walk.{IsReady, MeansNode}
use Rattle.bb_blast.proofs.Nodes.{words_on}
use Rattle.bb_blast.proofs.Walking.{Blasting, blasting_none, blasting_next, blasted_all, node_ready}
use Rattle.bb_blast.proofs.walk.blast_nodes.Goals as goal

pub loop-node-init : goal.loop-node-init
loop-node-init c = record {
  grows = grows_none c.args.gates.now;
  walk = λ wi given wide fits ins.
      let P : List (List ℕ)
      → Type 0 = λ t. Blasting c.args.gates.now wi given t c.args.nodes.now c.args.nodes.now in
      subst P (sym c.new-table.ensures) (blasting_none c.args.gates.now wi given c.args.nodes.now fits);
}

pub node_word-requires : goal.node_word-requires
node_word-requires c =
    let old = c.args.gates.now in
    let now = c.loop-node.gates in
    let nodes = c.args.nodes.now in
    let i = c.loop-node.node-index in
    let wi = c.requires.input_widths in
    let given = c.requires.given in
    let node = c.node-item.result in
    let walk = c.loop-node.invariant.walk wi given c.requires.small c.requires.fitting c.requires.inputs_are in
    let Q : List Node → Type 0 = λ left. Blasting now wi given c.loop-node.table left nodes in
    let P : List (List ℕ) → Type 0 = λ t. IsReady now c.args.inputs.now t node in
    subst P (sym c.as_slice.ensures)
    (node_ready now wi given c.args.inputs.now c.loop-node.table node (drop (i + 1) nodes) nodes
    (words_on old now wi given c.args.inputs.now c.loop-node.invariant.grows c.requires.inputs_are)
    (subst Q (drop_more nodes i node (omega arith) ∙ ap (λ m. m ∷ drop (i + 1) nodes) (sym c.node-item.is)) walk))

pub loop-node-preserved : goal.loop-node-preserved
loop-node-preserved c =
    let old = c.args.gates.now in
    let now = c.loop-node.gates in
    let new = c.node_word.new.gates in
    let nodes = c.args.nodes.now in
    let i = c.loop-node.node-index in
    let node = c.node-item.result in
    let M : List (List ℕ) → Type 0 = λ t. MeansNode now new c.args.inputs.now t node c.in_ok-word.word in
    let made = subst M c.as_slice.ensures c.in_ok-word.ensures.word in
    record {
      grows = grows_on old now new c.loop-node.invariant.grows c.in_ok-word.ensures.grows;
      walk = λ wi given wide fits ins.
          let Q : List Node → Type 0 = λ left. Blasting now wi given c.loop-node.table left nodes in
          let P : List (List ℕ) → Type 0 = λ t. Blasting new wi given t (drop (i + 1) nodes) nodes in
          let walk = subst Q
          (drop_more nodes i node (omega arith) ∙ ap (λ m. m ∷ drop (i + 1) nodes) (sym c.node-item.is))
          (c.loop-node.invariant.walk wi given wide fits ins) in
          subst P (sym c.in_ok-push.ensures.ok)
          (blasting_next now new wi given c.args.inputs.now c.loop-node.table node (drop (i + 1) nodes) nodes
          c.in_ok-word.word wide c.in_ok-word.ensures.grows
          (words_on old now wi given c.args.inputs.now c.loop-node.invariant.grows ins) made walk);
    }

pub returns-clause-words : goal.returns-clause-words
returns-clause-words c = λ wi given wide fits ins.
    let nodes = c.args.nodes.now in
    let Q : List Node → Type 0 = λ left. Blasting c.loop-node.gates wi given c.loop-node.table left nodes in
    blasted_all c.loop-node.gates wi given c.loop-node.table nodes
    (subst Q (drop_all c.loop-node.node-index nodes (omega arith))
    (c.loop-node.invariant.walk wi given wide fits ins))
