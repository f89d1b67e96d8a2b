use Rattle.std.proofs.Common.{◌≡◌, ◌+◌, ◌++◌, [], ◌∷◌, ap, arith}
use Rattle.std.specs.Prelude.{drop}
use Rattle.std.proofs.lemmas.Grind.{common_steps}
use Rattle.vl_elab_decls.specs.Forms.{HasWords, all_with, one_with}
use Rattle.vl_elab_decls.proofs.Going.{goes_first, goes_last, goes_on}
use Rattle.vl_elab_decls.proofs.decls_items.add_names.Goals as goal

pub loop-name-init : goal.loop-name-init
loop-name-init c ss h k = goes_first HasWords c.args.decls.now (all_with ss c.args.form c.args.all.now) k

pub loop-name-preserved : goal.loop-name-preserved
loop-name-preserved c ss h k =
    let x = c.name-item.result in
    let rest = drop (c.loop-name.name-index + 1) c.args.all.now in
    let front : drop c.loop-name.name-index c.args.all.now ≡ c.name-item.result
    ∷ drop (c.loop-name.name-index + 1) c.args.all.now = grind (arith, common_steps) in
    goes_on HasWords (c.args.decls.now ++ all_with ss c.args.form c.args.all.now) c.loop-name.decls
    c.add_name.new.decls (one_with ss c.args.form x ∷ []) (all_with ss c.args.form rest)
    (all_with ss c.args.form (drop c.loop-name.name-index c.args.all.now)) (ap (all_with ss c.args.form) front)
    (λ w. c.in_ok-add_name.ensures ss h w.0) (c.loop-name.invariant ss h k)

pub returns : goal.returns
returns c ss h k =
    let gone : drop c.loop-name.name-index c.args.all.now ≡ [] = grind (arith, common_steps) in
    goes_last HasWords (c.args.decls.now ++ all_with ss c.args.form c.args.all.now) c.loop-name.decls
    (all_with ss c.args.form (drop c.loop-name.name-index c.args.all.now)) (ap (all_with ss c.args.form) gone)
    (c.loop-name.invariant ss h k)
