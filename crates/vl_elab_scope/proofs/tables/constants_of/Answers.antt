use Rattle.std.proofs.Common.{◌≡◌, ◌+◌, [], ◌∷◌, arith}
use Rattle.std.specs.Prelude.{drop}
use Rattle.std.proofs.lemmas.Grind.{common_steps}
use Rattle.vl_mean.specs.Params.{constant}
use Rattle.vl_elab_spec.specs.Meanings.{constants}
use Rattle.vl_elab_scope.proofs.Reached.{table_start, table_on, table_end}
use Rattle.vl_elab_scope.proofs.tables.constants_of.Goals as goal

pub loop-text-init : goal.loop-text-init
loop-text-init c other =
    table_start (constants c.args.names.now) (constant c.new-params.result) c.args.texts.now other
    (c.new-params.ensures other)

pub loop-text-preserved : goal.loop-text-preserved
loop-text-preserved c other =
    let front : drop c.loop-text.text-index c.args.texts.now ≡ c.text-item.result
    ∷ drop (c.loop-text.text-index + 1) c.args.texts.now = grind (arith, common_steps) in
    table_on (constants c.args.names.now) (constant c.loop-text.params) (constant c.add_constant.new.params)
    c.args.texts.now c.text-item.result c.loop-text.text-index _ other front (c.in_ok-add_constant.ensures other)
    (c.loop-text.invariant other)

pub returns : goal.returns
returns c other =
    let gone : drop c.loop-text.text-index c.args.texts.now ≡ [] = grind (arith, common_steps) in
    table_end (constants c.args.names.now) (constant c.loop-text.params) c.args.texts.now c.loop-text.text-index _ other
    gone (c.loop-text.invariant other)
