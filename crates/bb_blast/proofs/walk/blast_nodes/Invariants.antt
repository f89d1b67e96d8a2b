use Rattle.std.specs.Prelude.{ℕ, List, [], drop}
use Rattle.bb_aig.specs.Gates.{Grows}
use Rattle.wn_net.specs.Width.{AreFitting}
use Rattle.bb_words.specs.Words.{Numbers, AreWords}
use Rattle.bb_blast.specs.Walk.{sources, AreWidths}
use Rattle.bb_blast.proofs.Walking.{Blasting}
use Rattle.bb_blast.proofs.walk.blast_nodes.Given as goal

abbrev pub invariant-loop-node : goal.invariant-loop-node
invariant-loop-node l = record {
  grows : Grows l.fn.gates l.gates;
  walk : (wi : List ℕ) (given : Numbers) → AreWidths wi → AreFitting (sources wi) [] l.nodes
      → AreWords l.fn.gates wi given l.inputs → Blasting l.gates wi given l.table
      (drop l.node-index l.nodes) l.nodes;
}
