use Rattle.std.specs.Prelude.{◌≡◌, Option, length, map, slice_index, sum, ℕ, List, IfSome}
use Rattle.std.proofs.Common.{sym, subst, ◌∙◌}
use Rattle.std.proofs.lemmas.List.{length-map}
use Rattle.bb_blast.specs.Choice.{numbers_of}
use Rattle.bb_blast.specs.Walk.{values_by, widths_by, all_other_than_0}
use Rattle.bb_clauses.proofs.Joined.{joined}
use Rattle.bb_clauses.proofs.Reading.{by_numbers}
use Rattle.bb_cuts.specs.declared.network.CutClauses.{CutClauses}
use Rattle.bb_cuts.specs.Variables.{TellsCuts}
use Rattle.bb_cuts.proofs.CutModels.{cut_models, words_wide}
use Rattle.bb_cuts.proofs.nodes.clauses_of_nodes.Goals as goal

pub returns-in-Some-clause-models : goal.returns-in-Some-clause-models
returns-in-Some-clause-models c =
    let wi = c.args.widths.now in
    let b = c.in_ok-blasted.blasted in
    let ids = c.args.watch.now in
    let own = λ (i : ℕ). slice_index (widths_by wi c.args.nodes.now) i in
    let holds = λ (numbers : List ℕ). all_other_than_0 (values_by wi c.args.nodes.now numbers) c.args.roots.now in
    let shown = λ (numbers : List ℕ). map (λ i. slice_index (values_by wi c.args.nodes.now numbers) i) ids in
    let each : (ns : List ℕ) → length b.watch ≡ length (shown ns) = λ ns.
    c.in_ok-blasted.ensures.watch.each ∙ length-map ids own
    ∙ sym (length-map ids (λ i. slice_index (values_by wi c.args.nodes.now ns) i)) in
    let P : Option CutClauses → Type 0 = λ o. IfSome o (λ t. TellsCuts b.graph b.root b.watch t.words t.formula) in
    cut_models b.places wi holds b.graph b.root shown (map own ids) b.watch c.in-Some.told.words
    c.in-Some.told.formula c.len.ensures.whole c.in_ok-blasted.ensures.first c.in_ok-blasted.ensures.inputs
    c.in_ok-blasted.ensures.root c.in_ok-blasted.ensures.places c.in_ok-blasted.ensures.watch each
    (subst P c.in-Some.is c.in_ok-told.ensures)

pub returns-in-Some-clause-watch : goal.returns-in-Some-clause-watch
returns-in-Some-clause-watch c =
    let b = c.in_ok-blasted.blasted in
    let P : Option CutClauses → Type 0 = λ o. IfSome o (λ t. TellsCuts b.graph b.root b.watch t.words t.formula) in
    let told = subst P c.in-Some.is c.in_ok-told.ensures in
    told.wide ∙ words_wide b.graph _ _ b.watch c.in_ok-blasted.ensures.watch

pub returns-clause-models : goal.returns-clause-models
returns-clause-models c =
    let wi = c.args.widths.now in
    let b = c.in_ok-blasted.blasted in
    let ids = c.args.watch.now in
    let own = λ (i : ℕ). slice_index (widths_by wi c.args.nodes.now) i in
    let holds = λ (numbers : List ℕ). all_other_than_0 (values_by wi c.args.nodes.now numbers) c.args.roots.now in
    let shown = λ (numbers : List ℕ). map (λ i. slice_index (values_by wi c.args.nodes.now numbers) i) ids in
    let each : (ns : List ℕ) → length b.watch ≡ length (shown ns) = λ ns.
    c.in_ok-blasted.ensures.watch.each ∙ length-map ids own
    ∙ sym (length-map ids (λ i. slice_index (values_by wi c.args.nodes.now ns) i)) in
    by_numbers b.places wi holds b.graph shown (map own ids) b.watch c.in_ok-formula.formula
    c.in_ok-blasted.ensures.places c.in_ok-blasted.ensures.watch each
    (joined b.graph b.root (sum wi) (λ x. holds (numbers_of wi x))
    c.in_ok-formula.formula c.len.ensures.whole c.in_ok-blasted.ensures.first c.in_ok-blasted.ensures.inputs
    c.in_ok-blasted.ensures.root c.in_ok-formula.ensures)

pub returns-clause-watch : goal.returns-clause-watch
returns-clause-watch c = words_wide c.in_ok-blasted.blasted.graph _ _ c.in_ok-blasted.blasted.watch
    c.in_ok-blasted.ensures.watch
