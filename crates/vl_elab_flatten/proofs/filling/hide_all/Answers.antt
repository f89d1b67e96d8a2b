use Rattle.std.proofs.Common.{◌≡◌, ◌∙◌, ◌+◌, [], ◌∷◌, ap, sym, arith}
use Rattle.std.specs.Prelude.{drop}
use Rattle.std.proofs.lemmas.Grind.{common_steps}
use Rattle.vl_elab_flatten.specs.Levels.{hidden}
use Rattle.vl_elab_flatten.proofs.filling.hide_all.Goals as goal

pub loop-decl-preserved : goal.loop-decl-preserved
loop-decl-preserved c =
    let front : drop c.loop-decl.decl-index c.args.decls.now ≡ c.decl-item.result
    ∷ drop (c.loop-decl.decl-index + 1) c.args.decls.now = grind (arith, common_steps) in
    ap (λ l. hidden l (drop (c.loop-decl.decl-index + 1) c.args.decls.now)) c.in_ok-hide_one.ensures
    ∙ ap (hidden c.loop-decl.level) (sym front) ∙ c.loop-decl.invariant

pub returns : goal.returns
returns c =
    let gone : drop c.loop-decl.decl-index c.args.decls.now ≡ [] = grind (arith, common_steps) in
    ap (hidden c.loop-decl.level) (sym gone) ∙ c.loop-decl.invariant
