use Rattle.std.proofs.Common.{◌≡◌, ◌∙◌, ap, sym}
use Rattle.std.proofs.lemmas.Result.{IfOk-weaker}
use Rattle.vl_tree.specs.ItemView.{shown}
use Rattle.vl_mean.specs.ConstantFaults.{capped}
use Rattle.vl_mean.specs.Walk.{Place}
use Rattle.vl_elab_spec.specs.Counts as counts
use Rattle.vl_elab_spec.specs.Meanings.{meanings_at}
use Rattle.vl_elab_scope.specs.Alike.{Alike}
use Rattle.vl_elab_const.specs.Numbers.{HaveNumbers}
use Rattle.vl_elab_count.specs.Parts.{TurnsHave}
use Rattle.vl_elab_count.proofs.Numbers.{turns_have}
use Rattle.vl_elab_count.proofs.totals_items.turns_of.Goals as goal

pub returns-in-For-clause-count : goal.returns-in-For-clause-count
returns-in-For-clause-count c =
    let attrs = c.item.inside.attributes in
    let p = c.item.inside.pos in
    let head = c.in-For.head in
    let ns = c.args.names.now in
    let numbers = c.args.numbers.now in
    IfOk-weaker c.loop_nodes.result
    (λ n. (at : Place) → Alike ns (meanings_at at) → HaveNumbers numbers at.scopes
    → n ≡ capped (counts.loop_nodes head at))
    (λ n. (at : Place) → Alike ns (meanings_at at) → HaveNumbers numbers at.scopes → TurnsHave at c.args.item.now n)
    (λ n made at same agree. turns_have at c.args.item.now attrs p c.in-For.field-1 head n
    (sym c.item.view_is ∙ ap (shown attrs p) c.in-For.is) (made at same agree))
    c.loop_nodes.ensures.count
