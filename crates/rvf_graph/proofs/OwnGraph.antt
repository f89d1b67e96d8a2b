-- The graph of a net with the node of a question is one of the net itself.
use Rattle.std.specs.Prelude.{◌≡◌, refl, ◌↔◌, ℕ, ◌+◌, ◌≤◌, true, List, [], ◌∷◌, length, map}
use Rattle.std.specs.List.{AllByRecursion}
use Rattle.std.proofs.Common.{ap, sym, ◌∙◌, arith, subst}
use Rattle.rv_table.specs.declared.retire.Opts.{Opts}
use Rattle.wn_net.specs.declared.parts.Reg.{Reg}
use Rattle.wn_net.specs.declared.parts.State.{State}
use Rattle.wn_net.specs.Net.{Netlist, IsNet}
use Rattle.wn_run.specs.Runs.{Choices, AreChoicesOf, IsAssumed, cycle_at, inputs_at, mems_from, regs_from, start_number}
use Rattle.wn_run.specs.Runs.{start_of}
use Rattle.rvfi_port.specs.declared.port.Port.{Port}
use Rattle.rvfi_port.specs.Ports.{ArePortNodes}
use Rattle.bb_aig.specs.Graph.{lit_at}
use Rattle.bb_blast.specs.Choice.{numbers_of}
use Rattle.bm_unroll.specs.Frames.{IsBadRun, chosen}
use Rattle.ck_history.specs.Lines.{AddsKnown}
use Rattle.ck_ask.specs.Asked.{IsAsked, given_in}
use Rattle.ck_ask.specs.Questions.{question_cycle}
use Rattle.ck_ask.specs.declared.question.Question.{Question}
use Rattle.bm_decide.specs.Verdicts.{Gives}
use Rattle.bm_decide.proofs.Carried.{bad_gives}
use Rattle.bm_decide.proofs.Sources.{choices_more, fewer_choices, first_is, first_of, more_choices, old_choices, old_widths}
use Rattle.bm_decide.proofs.Sources.{same_chosen}
use Rattle.rvf_graph.specs.RunGraphs.{IsGraphOfRuns}
use Rattle.rvf_graph.specs.declared.graph.RunGraph.{RunGraph}

-- ---- the same start

same_regs : (n i : ℕ) (choices : ℕ → ℕ) (rs : List Reg) → i + length rs ≤ n
    → regs_from (first_of n choices) i rs ≡ regs_from choices i rs
same_regs n i choices [] h = refl
same_regs n i choices (r ∷ rs) h =
    λ j. start_number (first_is n i choices (omega (arith, h)) j) r.init
    ∷ same_regs n (i + 1) choices rs (omega (arith, h)) j

same_start : (net : Netlist) (ch : Choices) → start_of net (more_choices net ch) ≡ start_of net ch
same_start net ch = λ j. record {
  regs = same_regs (length net.regs) 0 ch.regs net.regs (omega arith) j;
  mems = mems_from ch.words 0 net.mems;
}

same_gives : (net : Netlist) (port : Port) (q : Question) (opts : Opts) (ch : Choices)
    → Gives net port q opts (more_choices net ch) ↔ Gives net port q opts ch
same_gives net port q opts ch =
    let S : State → Type 0 = λ s. IsAssumed net (inputs_at net ch) s (question_cycle q)
    × (given_in net (cycle_at net (inputs_at net ch) s) port q opts ≡ true) in
    let to = λ (x : Gives net port q opts (more_choices net ch)). subst S (same_start net ch) x in
    let from = λ (x : Gives net port q opts ch). subst S (sym (same_start net ch)) x in
    (to, from)

-- ---- the graph

pub own_graph : (old new : Netlist) (registers : ℕ) (port : Port) (q : Question) (opts : Opts) (bad : ℕ) (r : RunGraph)
    → IsNet old → IsNet new → AddsKnown old new registers → ArePortNodes old port → IsAsked new port q opts bad
    → IsGraphOfRuns new (question_cycle q) (IsBadRun new bad (question_cycle q)) r
    → IsGraphOfRuns old (question_cycle q) (Gives old port q opts) r
own_graph old new registers port q opts bad r own grown known nodes asked h =
    let adds = known.adds in
    let K = question_cycle q in
    let are = h.bits.sources in
    let on = λ (ch : Choices) (of : AreChoicesOf old ch). choices_more old new ch adds of in
    let same = λ (ch : Choices). same_chosen old new registers K ch r.bits.sources known are in
    record {
      bits = record {
        sources = old_choices old new registers K r.bits.sources known are;
        distinct = h.bits.distinct;
        widths = h.bits.widths ∙ old_widths old new registers K r.bits.sources known are;
        places = h.bits.places;
      };
      literal = h.literal;
      count = h.count;
      some = λ x.
          let s = h.some x in
          record {
            values = s.values;
            same = s.same;
            chooses = record {
              ch = s.chooses.ch;
              of_net = fewer_choices old new s.chooses.ch adds s.chooses.of_net;
              same = s.chooses.same;
            };
          };
      complete = λ ch of.
          let made = h.complete (more_choices old ch) (on ch of) in
          (made.0, made.1 ∙ same ch);
      output = λ x ch of is.
          let bad_one = h.output x (more_choices old ch) (on ch of) (same ch ∙ is) in
          let bad_two = bad_gives old new port q opts bad (more_choices old ch) own grown adds nodes asked (on ch of) in
          let bad_three = same_gives old port q opts ch in
          let to = λ (t : lit_at r.graph x r.root ≡ true). bad_three.0 (bad_two.0 (bad_one.0 t)) in
          let from = λ (g : Gives old port q opts ch). bad_one.1 (bad_two.1 (bad_three.1 g)) in
          (to, from);
    }
