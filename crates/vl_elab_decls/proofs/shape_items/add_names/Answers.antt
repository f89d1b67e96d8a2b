use Rattle.std.proofs.Common.{◌≡◌, ◌∙◌, ◌+◌, [], ◌∷◌, ap, sym, arith}
use Rattle.std.specs.Prelude.{drop}
use Rattle.std.proofs.lemmas.Grind.{common_steps}
use Rattle.vl_elab_decls.specs.Objects.{with_declared}
use Rattle.vl_elab_decls.proofs.shape_items.add_names.Goals as goal

pub loop-name-preserved : goal.loop-name-preserved
loop-name-preserved c =
    let front : drop c.loop-name.name-index c.args.all.now ≡ c.name-item.result
    ∷ drop (c.loop-name.name-index + 1) c.args.all.now = grind (arith, common_steps) in
    ap (λ s. with_declared c.args.names.now c.args.form s (drop (c.loop-name.name-index + 1) c.args.all.now))
    c.in_ok-add_name.ensures
    ∙ ap (λ xs. with_declared c.args.names.now c.args.form c.loop-name.level xs) (sym front) ∙ c.loop-name.invariant

pub returns : goal.returns
returns c =
    let gone : drop c.loop-name.name-index c.args.all.now ≡ [] = grind (arith, common_steps) in
    ap (λ xs. with_declared c.args.names.now c.args.form c.loop-name.level xs) (sym gone) ∙ c.loop-name.invariant
