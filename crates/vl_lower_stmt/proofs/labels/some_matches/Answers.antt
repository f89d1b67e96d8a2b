use Rattle.std.specs.Prelude.{bit_or}
use Rattle.std.proofs.Common.{◌≡◌, ◌+◌, ◌≤◌, ◌++◌, ◌∷◌, [], List, length, take, sym, subst, arith}
use Rattle.std.proofs.lemmas.Grind.{common_steps}
use Rattle.std.proofs.lemmas.List.{take_all}
use Rattle.vl_tree.specs.Expr.{Expr}
use Rattle.vl_lower_assign.proofs.Behind.{cells_on}
use Rattle.wn_net.specs.Net.{value_at}
use Rattle.wn_net.specs.Changes.{Shows}
use Rattle.wn_net.proofs.Laws.{node_on}
use Rattle.vl_lower_expr.proofs.Compose.{shown}
use Rattle.vl_lower_stmt.specs.Executes.{Matches}
use Rattle.vl_lower_stmt.proofs.StepsLabels.{matches_more, matches_none}
use Rattle.vl_lower_stmt.proofs.labels.some_matches.Goals as goal

pub loop-label-init : goal.loop-label-init
loop-label-init c =
    let word = c.args.word in
    matches_none c.args.layout.decls.now c.args.cells.now word.kind word.context.width word.context.signed word.node
    _ _ _
    c.in_ok-some.ensures.adds c.in_ok-some.ensures.shows

pub label_matches-requires-clause-cells : goal.label_matches-requires-clause-cells
label_matches-requires-clause-cells c =
    cells_on c.args.net.now c.loop-label.net c.args.layout.decls.now c.args.cells.now c.loop-label.invariant.adds
    c.requires.cells

pub label_matches-requires-clause-word : goal.label_matches-requires-clause-word
label_matches-requires-clause-word c =
    node_on c.args.net.now c.loop-label.net c.args.word.context.width c.args.word.node c.loop-label.invariant.adds
    c.requires.word

pub loop-label-preserved : goal.loop-label-preserved
loop-label-preserved c =
    let word = c.args.word in
    let xs = c.args.labels.now in
    let i = c.loop-label.label-index in
    let e = c.label-item.result in
    let built = c.in_ok-some-2.ensures.built in
    let more : take (i + 1) xs ≡ take i xs ++ e ∷ [] = grind (arith, common_steps) in
    let P : List Expr → Type 0 = λ es. Matches c.args.layout.decls.now c.args.net.now c.or.new.self c.args.cells.now
    word.kind word.context.width word.context.signed word.node es c.in_ok-some-2.some in
    subst P (sym more)
    (matches_more c.args.layout.decls.now c.args.cells.now word.kind word.context.width word.context.signed word.node
    c.args.net.now c.loop-label.net c.label_matches.new.net c.or.new.self (take i xs) e c.loop-label.some
    c.in_ok-one.one c.in_ok-some-2.some c.requires.cells c.requires.word c.loop-label.invariant c.in_ok-one.ensures
    built.adds
    (subst (λ w. Shows c.label_matches.new.net c.or.new.self w
    (λ g. bit_or (value_at c.label_matches.new.net g c.loop-label.some) (value_at c.label_matches.new.net g
    c.in_ok-one.one))
    c.in_ok-some-2.some)
    (node_on c.loop-label.net c.label_matches.new.net 1 c.loop-label.some c.in_ok-one.ensures.adds
    c.loop-label.invariant.node).1
    (shown _ _ _ _ _ _ built)))

pub returns : goal.returns
returns c =
    let word = c.args.word in
    let xs = c.args.labels.now in
    let i = c.loop-label.label-index in
    let past : length xs ≤ i = grind (arith, common_steps) in
    let P : List Expr → Type 0 = λ es. Matches c.args.layout.decls.now c.args.net.now c.loop-label.net c.args.cells.now
    word.kind word.context.width word.context.signed word.node es c.loop-label.some in
    subst P (take_all i xs past) c.loop-label.invariant
