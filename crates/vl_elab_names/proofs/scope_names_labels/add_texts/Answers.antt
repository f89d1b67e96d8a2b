use Rattle.std.proofs.Common.{◌≡◌, ◌+◌, ◌++◌, [], ◌∷◌, ap, arith}
use Rattle.std.specs.Prelude.{drop}
use Rattle.std.proofs.lemmas.Grind.{common_steps}
use Rattle.vl_elab_names.proofs.Ahead.{on, ended}
use Rattle.vl_elab_names.proofs.scope_names_labels.add_texts.Goals as goal

pub loop-text-preserved : goal.loop-text-preserved
loop-text-preserved c =
    let rest = drop (c.loop-text.text-index + 1) c.args.all.now in
    let front : drop c.loop-text.text-index c.args.all.now ≡ c.text-item.result
    ∷ drop (c.loop-text.text-index + 1) c.args.all.now = grind (arith, common_steps) in
    on c.loop-text.names c.add.new.names (c.text-item.result ∷ [])
    rest
    (drop c.loop-text.text-index c.args.all.now) (c.args.names.now ++ c.args.all.now)
    c.in_ok-add.ensures (ap (λ xs. xs) front) c.loop-text.invariant

pub returns : goal.returns
returns c =
    let gone : drop c.loop-text.text-index c.args.all.now ≡ [] = grind (arith, common_steps) in
    ended c.loop-text.names (drop c.loop-text.text-index c.args.all.now) (c.args.names.now ++ c.args.all.now)
    (ap (λ xs. xs) gone) c.loop-text.invariant
