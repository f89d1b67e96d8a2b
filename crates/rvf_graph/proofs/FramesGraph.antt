-- The graph of frames is that of the runs of the net.
use Rattle.std.specs.Prelude.{◌≡◌, refl, ◌↔◌, ℕ, ◌+◌, ◌<◌, ◌++◌, ◌∷◌, [], pos, Bool, true, List, length, map, slice_index, sum}
use Rattle.std.specs.List.{AllByRecursion}
use Rattle.std.proofs.Common.{ap, sym, ◌∙◌, arith, subst}
use Rattle.std.proofs.lemmas.List.{append_cancel_right, length-map}
use Rattle.wn_net.specs.Net.{Netlist}
use Rattle.wn_run.specs.Runs.{Choices, AreChoicesOf}
use Rattle.cnf_form.specs.Cnf.{Cnf}
use Rattle.bb_aig.specs.Graph.{IsGraph, inputs_of, lit_at}
use Rattle.bb_aig.specs.Gates.{IsMade}
use Rattle.bb_words.specs.Words.{AreWords}
use Rattle.bb_blast.specs.declared.blasted.Blasted.{Blasted}
use Rattle.bb_blast.specs.Choice.{InputsAreFirst, all_places, numbers_of}
use Rattle.bb_blast.specs.Walk.{all_other_than_0, values_by, widths_by}
use Rattle.bb_clauses.specs.Clauses.{Tells, clauses_before}
use Rattle.bb_clauses.specs.Models.{AreTrue, ModelsAreNumbers, read_at}
use Rattle.bb_clauses.proofs.GatesModels.{tells}
use Rattle.bb_clauses.proofs.Joined.{ModelsAreChoices, inputs_in, joined}
use Rattle.bb_clauses.proofs.Reading.{by_numbers, read_is}
use Rattle.bm_unroll.specs.declared.frames.Frames.{Frames}
use Rattle.bm_unroll.specs.Frames.{AreChosen, AreDistinct, HasRoots, HasWatch, IsBadRun, IsChoice, chosen, source_width}
use Rattle.bm_unroll.specs.Frames.{values_under}
use Rattle.bm_decide.specs.Runs.{ModelsAreRuns, values_in}
use Rattle.bm_decide.specs.Verdicts.{AreBitsOf}
use Rattle.bm_decide.proofs.Joining.{all_tested, models_are_runs, tested_all}
use Rattle.rvf_graph.specs.RunGraphs.{IsGraphOfRuns, run_graph_of}
use Rattle.rvf_graph.proofs.Numbered.{all_many}

module _ (net : Netlist) (bad cycle : ℕ) (watch : List ℕ) (f : Frames) (b : Blasted) (whole : IsGraph b.graph)
    (places : b.places ≡ all_places 0 0 f.widths) (first : InputsAreFirst b.graph)
    (count : inputs_of b.graph ≡ sum f.widths)
    (made : IsMade b.graph (λ x. all_other_than_0 (values_by f.widths f.nodes (numbers_of f.widths x)) f.roots) b.root)
    (words : AreWords b.graph (map (λ i. slice_index (widths_by f.widths f.nodes) i) f.watch)
    (λ x. map (λ i. slice_index (values_by f.widths f.nodes (numbers_of f.widths x)) i) f.watch) b.watch)
    (chosen_are : AreChosen net f.widths f.sources) (roots : HasRoots net bad cycle f)
    (watched : HasWatch net watch cycle f) where
  -- the clauses of the graph, which nobody makes: what is known of them is known of the graph
  abbrev formula : Cnf
  formula = record {
    vars = length b.graph;
    clauses = clauses_before b.graph b.root ++ (pos (length b.graph) ∷ []) ∷ [];
  }

  tells_graph : Tells b.graph b.root formula
  tells_graph = tells b.graph b.root formula whole made.there refl refl

  abbrev holds : List ℕ → Bool
  holds numbers = all_other_than_0 (values_by f.widths f.nodes numbers) f.roots

  abbrev shown : List ℕ → List ℕ
  shown numbers = map (λ i. slice_index (values_by f.widths f.nodes numbers) i) f.watch

  choices : ModelsAreChoices (sum f.widths) (λ x. holds (numbers_of f.widths x)) b.graph formula
  choices =
      joined b.graph b.root (sum f.widths) (λ x. holds (numbers_of f.widths x)) formula whole first count made
      tells_graph

  abbrev own : ℕ → ℕ
  own i = slice_index (widths_by f.widths f.nodes) i

  each : (ns : List ℕ) → length b.watch ≡ length (shown ns)
  each ns =
      words.each ∙ length-map f.watch own
      ∙ sym (length-map f.watch (λ i. slice_index (values_by f.widths f.nodes ns) i))

  numbers : ModelsAreNumbers f.widths (read_at b.places f.widths) holds shown b.watch formula
  numbers = by_numbers b.places f.widths holds b.graph shown (map own f.watch) b.watch formula places words each choices

  runs : ModelsAreRuns net (IsBadRun net bad cycle) (values_in net cycle watch) f.sources (read_at b.places f.widths)
      b.watch formula
  runs = models_are_runs net bad cycle watch f b.places b.watch formula places numbers chosen_are roots watched

  same_before : choices.before ≡ runs.before
  same_before =
      append_cancel_right choices.before runs.before ((pos formula.vars ∷ []) ∷ []) (sym choices.last ∙ runs.last)

  output : (x : ℕ → Bool) (ch : Choices) → AreChoicesOf net ch → map (chosen ch) f.sources ≡ numbers_of f.widths x
      → (lit_at b.graph x b.root ≡ true) ↔ IsBadRun net bad cycle ch
  output x ch of same =
      let H : List ℕ → Type 0 = λ ns. holds ns ≡ true in
      let to = λ (t : lit_at b.graph x b.root ≡ true).
      (roots ch of).0 (all_tested (values_under f ch) f.roots (subst H (sym same) (sym (made.value x) ∙ t))) in
      let from = λ (is : IsBadRun net bad cycle ch).
      made.value x ∙ subst H same (tested_all (values_under f ch) f.roots ((roots ch of).1 is)) in
      (to, from)

  pub is_graph : AllByRecursion (IsChoice net cycle) f.sources → AreDistinct f.sources
      → f.widths ≡ map (source_width net) f.sources → IsGraphOfRuns net cycle (IsBadRun net bad cycle) (run_graph_of f b)
  is_graph sources distinct widths = record {
    bits = record { sources = sources; distinct = distinct; widths = widths; places = places };
    literal = made.there;
    count = count ∙ sym (all_many 0 0 f.widths) ∙ sym (ap length places);
    some = λ x.
        let m = choices.complete x in
        let c = runs.choice m.0 (subst (λ cs. AreTrue cs m.0) same_before m.1) in
        record {
          values = inputs_in m.0;
          same = λ i less. m.2 i (omega (arith, less, count));
          chooses = record {
            ch = c.ch;
            of_net = c.of_net;
            same = c.same ∙ read_is m.0 b.places f.widths places;
          };
        };
    complete = λ ch of.
        let m = runs.complete ch of in
        (inputs_in m.0, sym (read_is m.0 b.places f.widths places) ∙ m.2);
    output = output;
  }
