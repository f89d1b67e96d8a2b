-- What the clauses of a graph say of the text that says the graph.
use Rattle.std.proofs.Common.{ℕ, ◌+◌, ◌≤◌, List, length, refl, sym, ◌∙◌, subst, arith}
use Rattle.aiger_text.proofs.InputsCounted.{inputs_below}
use Rattle.aiger_text.proofs.NodeLaws.{input_value}
use Rattle.aiger_text.specs.Profile.{IsGraphOf, IsOutput}
use Rattle.aiger_text.specs.Said.{Said}
use Rattle.bb_aig.specs.declared.node.AigNode.{AigNode}
use Rattle.bb_aig.specs.Graph.{IsGraph, inputs_of, lit_at}
use Rattle.bb_blast.specs.Choice.{InputsAreFirst}
use Rattle.bb_clauses.proofs.Joined.{ModelsAreChoices, joined}
use Rattle.bb_clauses.specs.Clauses.{Tells}
use Rattle.cnf_form.specs.Cnf.{Cnf}
use Rattle.lrat_texts.proofs.Formulas.{formula_law}
use Rattle.rvf_graph.specs.Clauses.{AreClausesOf, AreMade, IsEncoded, inputs_in}
use Rattle.rvf_graph.specs.declared.clauses.GraphClauses.{GraphClauses}

-- node 0 is no input
pub inputs_within : (graph : List AigNode) → IsGraph graph → inputs_of graph + 1 ≤ length graph
inputs_within graph g = let less = inputs_below graph g in omega (arith, less)

module _ (said : Said) (graph : List AigNode) (root : ℕ) (g : IsGraph graph) (h : IsGraphOf said graph root) where
  inputs_first : InputsAreFirst graph
  inputs_first = record {
    nodes = λ i below. let n = h.count in h.inputs i (omega (arith, below, n));
    value = λ x i below. let n = h.count in input_value graph g x (i + 1) i (h.inputs i (omega (arith, below, n)));
  }

  clauses_said : (formula : Cnf) → Tells graph root formula → AreClausesOf said formula
  clauses_said formula t =
      let m : ModelsAreChoices (length said.inputs) (λ x. lit_at graph x root) graph formula =
      joined graph root (length said.inputs) (λ x. lit_at graph x root) formula g inputs_first h.count
      (record { there = h.literal; value = λ x. refl }) t in
      record {
        vars = let v = t.vars in let n = h.nodes in omega (arith, v, n);
        before = m.before;
        last = m.last;
        complete = m.complete;
        unique = m.unique;
        output = λ v is. subst (λ b. IsOutput said (inputs_in v) b) (sym (m.verdict v is)) (h.output (inputs_in v));
      }

  pub made_said : (made : GraphClauses) → IsEncoded graph root made → AreMade said made
  made_said made e = record {
    inputs = e.inputs ∙ h.count;
    gates =
        let a = e.gates in
        let i = e.inputs in
        let n = h.nodes in
        let c = h.count in
        omega (arith, a, i, n, c);
    clauses = record {
      formula = e.formula;
      clauses = clauses_said e.formula e.tells;
      text_is = e.text_is;
      read_back = λ few short. (formula_law made.clauses e.formula).0 (e.read_back tt few short);
    };
  }
