use Rattle.std.proofs.Common.{ap}
use Rattle.std.specs.Prelude.{drop}
use Rattle.std.proofs.lemmas.Result.{on_ok_weaker}
use Rattle.vl_elab_flatten.proofs.OpenBlocks.{turns_numbered}
use Rattle.vl_elab_flatten.proofs.here.open_turn.Goals as goal

pub returns-clause-numbers : goal.returns-clause-numbers
returns-clause-numbers c =
    let here = c.args.here.now in
    turns_numbered c.enter_turn.result c.enter_turn.new.scopes here.scopes here.numbers c.enter_turn.new.numbers
    c.args.variable.now c.args.value c.enter_turn.ensures.scopes c.enter_turn.ensures.numbers

pub returns-clause-beneath : goal.returns-clause-beneath
returns-clause-beneath c =
    on_ok_weaker c.enter_turn.result (λ e. ap (drop 1) e) c.enter_turn.ensures.numbers
