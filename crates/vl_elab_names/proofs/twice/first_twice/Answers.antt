use Rattle.std.proofs.Common.{◌≡◌, ◌∙◌, ◌+◌, ◌∷◌, ap, sym, arith}
use Rattle.std.specs.Prelude.{drop, ◌||◌, bytes_eq}
use Rattle.std.proofs.lemmas.Grind.{common_steps}
use Rattle.vl_elab_names.specs.Known.{contains}
use Rattle.vl_elab_names.specs.Table.{twice_by}
use Rattle.vl_elab_names.proofs.Places.{twice_on}
use Rattle.vl_elab_names.proofs.twice.first_twice.Goals as goal

pub loop-module-init : goal.loop-module-init
loop-module-init c = λ i. twice_by (λ text. c.new-earlier.ensures text i) c.args.all.now

pub loop-module-preserved : goal.loop-module-preserved
loop-module-preserved c =
    let earlier = contains c.loop-module.earlier in
    let front : drop c.loop-module.module-index c.args.all.now ≡ c.module-item.result
    ∷ drop (c.loop-module.module-index + 1) c.args.all.now = grind (arith, common_steps) in
    twice_on earlier (contains c.add.new.self) c.module-item.result
    (drop (c.loop-module.module-index + 1) c.args.all.now) (drop c.loop-module.module-index c.args.all.now) front
    (sym c.contains.ensures ∙ c.if-contains.false)
    (λ text. c.in_ok-add.ensures.ok text
    ∙ ap (λ n. bytes_eq text n || earlier text) c.in_ok-copied-2.ensures)
    ∙ c.loop-module.invariant
