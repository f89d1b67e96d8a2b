use Rattle.std.proofs.Common.{◌≡◌, ◌∙◌, ◌+◌, [], ◌∷◌, ap, sym, arith}
use Rattle.std.specs.Prelude.{drop}
use Rattle.std.proofs.lemmas.Grind.{common_steps}
use Rattle.std.specs.Prelude.{map}
use Rattle.vl_elab_params.specs.Passed.{with_all_passed}
use Rattle.vl_elab_params.proofs.names.pass_declared.Goals as goal

pub loop-name-preserved : goal.loop-name-preserved
loop-name-preserved c =
    let pending = c.args.pending.now in
    let names = c.args.names.now in
    let rest = drop (c.loop-name.name-index + 1) c.args.all.now in
    let front : drop c.loop-name.name-index c.args.all.now ≡ c.name-item.result
    ∷ drop (c.loop-name.name-index + 1) c.args.all.now = grind (arith, common_steps) in
    ap (λ l. with_all_passed pending names l (map (λ x. x.name) rest)) c.in_ok-pass_name.ensures
    ∙ ap (λ xs. with_all_passed pending names c.loop-name.passed (map (λ x. x.name) xs)) (sym front)
    ∙ c.loop-name.invariant

pub returns : goal.returns
returns c =
    let pending = c.args.pending.now in
    let names = c.args.names.now in
    let gone : drop c.loop-name.name-index c.args.all.now ≡ [] = grind (arith, common_steps) in
    ap (λ xs. with_all_passed pending names c.loop-name.passed (map (λ x. x.name) xs)) (sym gone)
    ∙ c.loop-name.invariant
