use Rattle.std.specs.Prelude.{◌≡◌, ◌<◌, ℕ, Bool, List, length, map, slice_index}
use Rattle.std.specs.List.{AllByRecursion}
use Rattle.std.proofs.Common.{ap, sym, ◌∙◌, subst}
use Rattle.bb_aig.specs.declared.node.AigNode.{AigNode}
use Rattle.bb_aig.specs.Graph.{inputs_of}
use Rattle.bb_aig.specs.Gates.{Grows, IsMade}
use Rattle.bb_words.specs.Words.{AreWords}
use Rattle.bb_blast.specs.Choice.{InputsAreFirst, HasInputsAlone, numbers_of}
use Rattle.bb_blast.specs.Walk.{Reads, AreReady, values_by, widths_by, all_other_than_0}
use Rattle.bb_blast.proofs.Nodes.{words_on}
use Rattle.bb_aig.proofs.Growth.{grows_on}
use Rattle.bb_blast.proofs.Sources.{no_inputs, inputs_on}
use Rattle.bb_blast.proofs.Joining.{ready, walked, roots_ready, ids_there, all_there, watch_words}
use Rattle.bb_blast.proofs.blasted.blast.Goals as goal

pub add_sources-requires-clause-first : goal.add_sources-requires-clause-first
add_sources-requires-clause-first c =
    let P : List AigNode → Type 0 = λ g. HasInputsAlone g in subst P (sym c.new-aig.ensures) no_inputs

pub add_sources-requires-clause-none : goal.add_sources-requires-clause-none
add_sources-requires-clause-none c = ap inputs_of c.new-aig.ensures

pub blast_nodes-requires : goal.blast_nodes-requires
blast_nodes-requires c =
    let P : List AigNode → Type 0 = λ g. AreReady g c.as_slice.result.now c.args.nodes.now in
    subst P (sym c.new-gates.ensures)
    (ready c.add_sources.new.aig c.args.widths.now c.args.nodes.now c.as_slice.result.now c.requires.small
    c.requires.fitting c.in_ok-given.ensures.inputs c.in_ok-given.ensures.counted
    (c.as_slice.ensures ∙ c.in_ok-given.ensures.words))

pub all_set-requires : goal.all_set-requires
all_set-requires c =
    let wi = c.args.widths.now in
    let nodes = c.args.nodes.now in
    let words = walked c.add_sources.new.aig c.new-gates.result c.blast_nodes.new.gates wi nodes c.as_slice.result.now
    c.in_ok-table.table c.requires.small c.requires.fitting c.in_ok-given.ensures.inputs c.in_ok-given.ensures.counted
    (c.as_slice.ensures ∙ c.in_ok-given.ensures.words) c.new-gates.ensures c.in_ok-table.ensures.words in
    let P : List (List ℕ) → Type 0 = λ t. Reads c.blast_nodes.new.gates t
    (λ ws. AllByRecursion (λ i. i < length ws) c.args.roots.now) in
    subst P (sym c.as_slice-2.ensures)
    (roots_ready c.blast_nodes.new.gates wi nodes c.in_ok-table.table c.args.roots.now c.requires.small
    c.requires.fitting words c.requires.roots)

pub watched-requires : goal.watched-requires
watched-requires c =
    let wi = c.args.widths.now in
    let nodes = c.args.nodes.now in
    let words = walked c.add_sources.new.aig c.new-gates.result c.blast_nodes.new.gates wi nodes c.as_slice.result.now
    c.in_ok-table.table c.requires.small c.requires.fitting c.in_ok-given.ensures.inputs c.in_ok-given.ensures.counted
    (c.as_slice.ensures ∙ c.in_ok-given.ensures.words) c.new-gates.ensures c.in_ok-table.ensures.words in
    let e : length (widths_by wi nodes) ≡ length c.as_slice-3.result.now =
    sym (ap length c.as_slice-3.ensures ∙ words.each) in
    all_there (length (widths_by wi nodes)) (length c.as_slice-3.result.now) c.args.watch.now e
    (ids_there wi nodes c.args.watch.now c.requires.watch)

pub returns-clause-root : goal.returns-clause-root
returns-clause-root c =
    let wi = c.args.widths.now in
    let nodes = c.args.nodes.now in
    let words = walked c.add_sources.new.aig c.new-gates.result c.blast_nodes.new.gates wi nodes c.as_slice.result.now
    c.in_ok-table.table c.requires.small c.requires.fitting c.in_ok-given.ensures.inputs c.in_ok-given.ensures.counted
    (c.as_slice.ensures ∙ c.in_ok-given.ensures.words) c.new-gates.ensures c.in_ok-table.ensures.words in
    let T : List (List ℕ) → Type 0 = λ t. AreWords c.blast_nodes.new.gates (widths_by wi nodes)
    (λ x. values_by wi nodes (numbers_of wi x)) t in
    let P : List AigNode → Type 0 = λ g. IsMade g
    (λ x. all_other_than_0 (values_by wi nodes (numbers_of wi x)) c.args.roots.now) c.in_ok-root.root in
    subst P (sym c.into_graph.ensures)
    (c.in_ok-root.ensures.made (widths_by wi nodes) (λ x. values_by wi nodes (numbers_of wi x))
    (ids_there wi nodes c.args.roots.now c.requires.roots) (subst T (sym c.as_slice-2.ensures) words))

pub returns-clause-watch : goal.returns-clause-watch
returns-clause-watch c =
    let wi = c.args.widths.now in
    let nodes = c.args.nodes.now in
    let words = walked c.add_sources.new.aig c.new-gates.result c.blast_nodes.new.gates wi nodes c.as_slice.result.now
    c.in_ok-table.table c.requires.small c.requires.fitting c.in_ok-given.ensures.inputs c.in_ok-given.ensures.counted
    (c.as_slice.ensures ∙ c.in_ok-given.ensures.words) c.new-gates.ensures c.in_ok-table.ensures.words in
    let means = λ (x : ℕ → Bool). values_by wi nodes (numbers_of wi x) in
    let widths = map (λ i. slice_index (widths_by wi nodes) i) c.args.watch.now in
    let T : List (List ℕ) → Type 0 = λ t. AreWords c.all_set.new.gates (widths_by wi nodes) means t in
    let P : List AigNode → Type 0 = λ g. AreWords g widths (λ x. map (λ i. slice_index
    (means x) i) c.args.watch.now)
    c.in_ok-watch.watch in
    let Q : List (List ℕ) → Type 0 = λ t. AreWords c.all_set.new.gates widths
    (λ x. map (λ i. slice_index (means x) i) c.args.watch.now) t in
    let later = words_on c.blast_nodes.new.gates c.all_set.new.gates (widths_by wi nodes) means c.in_ok-table.table
    c.in_ok-root.ensures.grows words in
    subst P (sym c.into_graph.ensures)
    (subst Q (sym c.in_ok-watch.ensures)
    (watch_words c.all_set.new.gates (widths_by wi nodes) means c.as_slice-3.result.now c.args.watch.now
    (subst T (sym c.as_slice-3.ensures) later) (ids_there wi nodes c.args.watch.now c.requires.watch)))

pub returns-clause-inputs : goal.returns-clause-inputs
returns-clause-inputs c =
    ap inputs_of c.into_graph.ensures ∙ c.in_ok-root.ensures.grows.counted ∙ c.in_ok-table.ensures.grows.counted
    ∙ ap inputs_of c.new-gates.ensures ∙ c.in_ok-given.ensures.counted

pub returns-clause-first : goal.returns-clause-first
returns-clause-first c =
    let start = c.add_sources.new.aig in
    let end = c.all_set.new.gates in
    let P : List AigNode → Type 0 = λ g. InputsAreFirst g in
    let Q : List AigNode → Type 0 = λ g. Grows g end in
    subst P (sym c.into_graph.ensures)
    (inputs_on start end c.in_ok-given.ensures.inputs
    (subst Q c.new-gates.ensures
    (grows_on c.new-gates.result c.blast_nodes.new.gates end c.in_ok-table.ensures.grows c.in_ok-root.ensures.grows)))
