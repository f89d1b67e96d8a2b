use Rattle.std.proofs.Common.{◌≡◌, ◌∙◌, ◌+◌, [], ◌∷◌, ap, sym, arith}
use Rattle.std.specs.Prelude.{drop}
use Rattle.std.proofs.lemmas.Grind.{common_steps}
use Rattle.vl_elab_params.specs.Passed.{with_all_passed}
use Rattle.vl_elab_params.proofs.names.pass_texts.Goals as goal

pub loop-text-preserved : goal.loop-text-preserved
loop-text-preserved c =
    let front : drop c.loop-text.text-index c.args.all.now ≡ c.text-item.result
    ∷ drop (c.loop-text.text-index + 1) c.args.all.now = grind (arith, common_steps) in
    ap (λ l. with_all_passed c.args.pending.now c.args.names.now l (drop (c.loop-text.text-index + 1) c.args.all.now))
    c.in_ok-pass_name.ensures
    ∙ ap (λ xs. with_all_passed c.args.pending.now c.args.names.now c.loop-text.passed xs) (sym front)
    ∙ c.loop-text.invariant

pub returns : goal.returns
returns c =
    let gone : drop c.loop-text.text-index c.args.all.now ≡ [] = grind (arith, common_steps) in
    ap (λ xs. with_all_passed c.args.pending.now c.args.names.now c.loop-text.passed xs) (sym gone)
    ∙ c.loop-text.invariant
