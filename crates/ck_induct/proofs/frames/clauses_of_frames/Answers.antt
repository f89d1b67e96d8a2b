use Rattle.std.specs.Prelude.{◌<◌, ℕ, List, [], length, map, slice_index}
use Rattle.std.specs.List.{AllByRecursion}
use Rattle.std.proofs.Common.{ap, sym, ◌∙◌, subst, arith}
use Rattle.wn_net.specs.declared.node.Node.{Node}
use Rattle.wn_net.specs.Width.{IsWidth, AreFitting}
use Rattle.bb_blast.specs.Choice.{all_places}
use Rattle.bb_blast.specs.Walk.{AreWidths, all_other_than_0, sources, values_by}
use Rattle.bb_clauses.specs.Models.{ModelsAreNumbers, read_at}
use Rattle.bm_unroll.proofs.Items.{all_at}
use Rattle.ck_induct.proofs.frames.clauses_of_frames.Goals as goal

pub clauses_of_nodes-requires-clause-small : goal.clauses_of_nodes-requires-clause-small
clauses_of_nodes-requires-clause-small c =
    let f = c.args.frames in
    let P : List ℕ → Type 0 = λ ws. AreWidths ws in
    subst P (sym c.as_slice-widths.ensures) (λ i below. all_at IsWidth 0 f.widths i c.requires.widths below)

pub clauses_of_nodes-requires-clause-few : goal.clauses_of_nodes-requires-clause-few
clauses_of_nodes-requires-clause-few c =
    omega (arith, ap length c.as_slice-widths.ensures, c.requires.each, c.requires.few)

pub clauses_of_nodes-requires-clause-fitting : goal.clauses_of_nodes-requires-clause-fitting
clauses_of_nodes-requires-clause-fitting c =
    let f = c.args.frames in
    let W : List ℕ → Type 0 = λ ws. AreFitting (sources ws) [] c.as_slice-nodes.result.now in
    let N : List Node → Type 0 = λ ns. AreFitting (sources f.widths) [] ns in
    subst W (sym c.as_slice-widths.ensures) (subst N (sym c.as_slice-nodes.ensures) c.requires.nodes)

pub clauses_of_nodes-requires-clause-roots : goal.clauses_of_nodes-requires-clause-roots
clauses_of_nodes-requires-clause-roots c =
    let f = c.args.frames in
    let N : List Node → Type 0 = λ ns. AllByRecursion (λ i. i < length ns) c.as_slice-roots.result.now in
    let R : List ℕ → Type 0 = λ ids. AllByRecursion (λ i. i < length f.nodes) ids in
    subst N (sym c.as_slice-nodes.ensures) (subst R (sym c.as_slice-roots.ensures) c.requires.roots)

pub clauses_of_nodes-requires-clause-watch : goal.clauses_of_nodes-requires-clause-watch
clauses_of_nodes-requires-clause-watch c =
    let f = c.args.frames in
    let N : List Node → Type 0 = λ ns. AllByRecursion (λ i. i < length ns) c.as_slice-watched.result.now in
    let R : List ℕ → Type 0 = λ ids. AllByRecursion (λ i. i < length f.nodes) ids in
    subst N (sym c.as_slice-nodes.ensures) (subst R (sym c.as_slice-watched.ensures) c.requires.watch)

pub returns-clause-models : goal.returns-clause-models
returns-clause-models c =
    let f = c.args.frames in
    let formula = c.in_ok-encoded.encoded.formula in
    let b = c.in_ok-encoded.encoded in
    let ns = c.as_slice-nodes.result.now in
    let rs = c.as_slice-roots.result.now in
    let ids = c.as_slice-watched.result.now in
    let Of : List ℕ → List Node → List ℕ → List ℕ → Type 0 = λ ws nodes roots watch.
    ModelsAreNumbers ws (read_at b.places ws) (λ numbers. all_other_than_0 (values_by ws nodes numbers) roots)
    (λ numbers. map (λ i. slice_index (values_by ws nodes numbers) i) watch) b.watch formula in
    let W : List ℕ → Type 0 = λ ws. Of ws ns rs ids in
    let N : List Node → Type 0 = λ nodes. Of f.widths nodes rs ids in
    let R : List ℕ → Type 0 = λ roots. Of f.widths f.nodes roots ids in
    let I : List ℕ → Type 0 = λ watch. Of f.widths f.nodes f.roots watch in
    subst I c.as_slice-watched.ensures (subst R c.as_slice-roots.ensures (subst N c.as_slice-nodes.ensures
    (subst W c.as_slice-widths.ensures c.in_ok-encoded.ensures.models)))

pub returns-clause-places : goal.returns-clause-places
returns-clause-places c = c.in_ok-encoded.ensures.places ∙ ap (all_places 0 0) c.as_slice-widths.ensures
