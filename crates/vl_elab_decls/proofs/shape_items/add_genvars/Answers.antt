use Rattle.std.proofs.Common.{◌≡◌, ◌∙◌, ◌+◌, [], ◌∷◌, ap, sym, arith}
use Rattle.std.specs.Prelude.{drop}
use Rattle.std.proofs.lemmas.Grind.{common_steps}
use Rattle.vl_elab_decls.specs.Objects.{with_genvars}
use Rattle.vl_elab_decls.proofs.shape_items.add_genvars.Goals as goal

pub loop-text-preserved : goal.loop-text-preserved
loop-text-preserved c =
    let front : drop c.loop-text.text-index c.args.all.now ≡ c.text-item.result
    ∷ drop (c.loop-text.text-index + 1) c.args.all.now = grind (arith, common_steps) in
    ap (λ s. with_genvars s (drop (c.loop-text.text-index + 1) c.args.all.now)) c.in_ok-add_genvar.ensures
    ∙ ap (λ xs. with_genvars c.loop-text.level xs) (sym front) ∙ c.loop-text.invariant

pub returns : goal.returns
returns c =
    let gone : drop c.loop-text.text-index c.args.all.now ≡ [] = grind (arith, common_steps) in
    ap (λ xs. with_genvars c.loop-text.level xs) (sym gone) ∙ c.loop-text.invariant
