use Rattle.std.proofs.lemmas.Result.{on_ok_weaker}
use Rattle.vl_elab_const.specs.Given.{value_in}
use Rattle.fv_text.proofs.Lookups.{lookup_after}
use Rattle.vl_elab_const.proofs.Gives.{said_by, value_kept, value_put}
use Rattle.vl_elab_const.proofs.given.add_behind.Goals as goal

pub returns-then-is_some : goal.returns-then-is_some
returns-then-is_some c other =
    let values = value_in c.args.written.now in
    value_kept values c.args.name other c.args.value (said_by values c.bytes.result.now c.args.name c.is_some.result _
    c.get.result c.is_some.ensures c.if-is_some.true c.get.ensures.value c.bytes.ensures)

pub returns : goal.returns
returns c =
    let values = value_in c.args.written.now in
    on_ok_weaker c.put.result (λ made other. value_put values c.args.name other c.args.value _
    (said_by values c.bytes.result.now c.args.name c.is_some.result _ c.get.result c.is_some.ensures
    c.if-is_some.false c.get.ensures.value c.bytes.ensures)
    (lookup_after (λ key. key.items) _ c.args.value other _ _ _ made c.in_ok-key.ensures)) c.put.ensures
