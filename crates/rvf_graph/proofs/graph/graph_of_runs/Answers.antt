use Rattle.std.specs.Prelude.{ℕ, List, [], map, slice_index, sum}
use Rattle.std.proofs.Common.{ap, sym, ◌∙◌, subst}
use Rattle.wn_net.specs.declared.node.Node.{Node}
use Rattle.bb_aig.specs.Gates.{IsMade}
use Rattle.bb_words.specs.Words.{AreWords}
use Rattle.bb_blast.specs.Choice.{all_places, numbers_of}
use Rattle.bb_blast.specs.Walk.{all_other_than_0, values_by, widths_by}
use Rattle.bm_unroll.specs.Frames.{IsBadRun}
use Rattle.rvf_graph.specs.RunGraphs.{IsGraphOfRuns}
use Rattle.rvf_graph.proofs.FramesGraph.{is_graph}
use Rattle.rvf_graph.proofs.graph.graph_of_runs.Goals as goal

pub returns : goal.returns
returns c =
    let net = c.args.net.now in
    let f = c.in_ok-frames.frames in
    let b = c.in_ok-blasted.blasted in
    let ns = c.as_slice-nodes.result.now in
    let rs = c.as_slice-roots.result.now in
    let ids = c.as_slice-watched.result.now in
    let Made : List ℕ → List Node → List ℕ → Type 0 = λ ws nodes roots.
    IsMade b.graph (λ x. all_other_than_0 (values_by ws nodes (numbers_of ws x)) roots) b.root in
    let made_w : List ℕ → Type 0 = λ ws. Made ws ns rs in
    let made_n : List Node → Type 0 = λ nodes. Made f.widths nodes rs in
    let made_r : List ℕ → Type 0 = λ roots. Made f.widths f.nodes roots in
    let made = subst made_r c.as_slice-roots.ensures (subst made_n c.as_slice-nodes.ensures
    (subst made_w c.as_slice-widths.ensures c.in_ok-blasted.ensures.root)) in
    let Words : List ℕ → List Node → List ℕ → Type 0 = λ ws nodes watch.
    AreWords b.graph (map (λ i. slice_index (widths_by ws nodes) i) watch)
    (λ x. map (λ i. slice_index (values_by ws nodes (numbers_of ws x)) i) watch) b.watch in
    let words_w : List ℕ → Type 0 = λ ws. Words ws ns ids in
    let words_n : List Node → Type 0 = λ nodes. Words f.widths nodes ids in
    let words_i : List ℕ → Type 0 = λ watch. Words f.widths f.nodes watch in
    let words = subst words_i c.as_slice-watched.ensures (subst words_n c.as_slice-nodes.ensures
    (subst words_w c.as_slice-widths.ensures c.in_ok-blasted.ensures.watch)) in
    let places = c.in_ok-blasted.ensures.places ∙ ap (all_places 0 0) c.as_slice-widths.ensures in
    let count = c.in_ok-blasted.ensures.inputs ∙ ap sum c.as_slice-widths.ensures in
    subst (IsGraphOfRuns net c.args.cycle (IsBadRun net c.args.bad c.args.cycle)) (sym c.run_graph.ensures)
    (is_graph net c.args.bad c.args.cycle [] f b c.len.ensures.whole places c.in_ok-blasted.ensures.first count made
    words c.in_ok-frames.ensures.chosen c.in_ok-frames.ensures.roots c.in_ok-frames.ensures.watch
    c.in_ok-frames.ensures.sources c.in_ok-frames.ensures.distinct c.in_ok-frames.ensures.widths)
