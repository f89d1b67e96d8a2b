use Rattle.std.proofs.Common.{◌≡◌, ◌+◌, ◌∷◌, ◌∙◌, drop, arith}
use Rattle.std.proofs.lemmas.Grind.{common_steps}
use Rattle.fv_base.specs.Store.{names_in}
use Rattle.fv_base.proofs.StoreLemmas.{with_pairs-step}
use Rattle.fv_base.proofs.store.from_pairs.Goals as goal

pub loop-name-preserved : goal.loop-name-preserved
loop-name-preserved c =
    let front : drop c.loop-name.name-index c.args.pairs.now ≡ c.loop-name-item.result
    ∷ drop (c.loop-name.name-index + 1) c.args.pairs.now = grind (arith, common_steps) in
    λ other. with_pairs-step c.loop-name-item.result _ _ (names_in c.loop-name.store)
    (names_in c.put.new.store) _ _ front c.as_bytes.ensures.value c.as_slice.ensures.value c.in_ok-put.ensures.ok
    other
    ∙ c.loop-name.invariant other
