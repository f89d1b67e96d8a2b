use Rattle.std.proofs.Common.{◌≡◌, ◌+◌, ◌++◌, [], ◌∷◌, ap, arith}
use Rattle.std.specs.Prelude.{drop}
use Rattle.std.proofs.lemmas.Grind.{common_steps}
use Rattle.std.specs.Prelude.{map}
use Rattle.vl_elab_names.proofs.Ahead.{on, ended}
use Rattle.vl_elab_names.proofs.scope_names_labels.add_decls.Goals as goal

pub loop-decl-preserved : goal.loop-decl-preserved
loop-decl-preserved c =
    let rest = drop (c.loop-decl.decl-index + 1) c.args.all.now in
    let front : drop c.loop-decl.decl-index c.args.all.now ≡ c.decl-item.result
    ∷ drop (c.loop-decl.decl-index + 1) c.args.all.now = grind (arith, common_steps) in
    on c.loop-decl.names c.add.new.names (c.decl-item.result.name ∷ [])
    (map (λ d. d.name) rest)
    (map (λ d. d.name) (drop c.loop-decl.decl-index c.args.all.now))
    (c.args.names.now ++ map (λ d. d.name) c.args.all.now)
    c.in_ok-add.ensures (ap (λ xs. map (λ d. d.name) xs) front) c.loop-decl.invariant

pub returns : goal.returns
returns c =
    let gone : drop c.loop-decl.decl-index c.args.all.now ≡ [] = grind (arith, common_steps) in
    ended c.loop-decl.names (map (λ d. d.name) (drop c.loop-decl.decl-index c.args.all.now))
    (c.args.names.now ++ map (λ d. d.name) c.args.all.now)
    (ap (λ xs. map (λ d. d.name) xs) gone) c.loop-decl.invariant
