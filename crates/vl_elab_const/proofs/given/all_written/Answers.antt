use Rattle.std.proofs.Common.{◌≡◌, ◌+◌, [], ◌∷◌, arith}
use Rattle.std.specs.Prelude.{drop}
use Rattle.std.specs.Option.{option_copied}
use Rattle.std.proofs.lemmas.Grind.{common_steps}
use Rattle.vl_elab_const.specs.Given.{is_value, value_given}
use Rattle.vl_elab_const.proofs.Gives.{gives_start, gives_on, gives_end}
use Rattle.vl_elab_const.proofs.given.all_written.Goals as goal

pub loop-written-init : goal.loop-written-init
loop-written-init c other =
    gives_start (value_given c.new-given.result) (is_value (option_copied c.args.names)) c.args.numbers.now c.args.all.now other (c.new-given.ensures other)

pub loop-written-preserved : goal.loop-written-preserved
loop-written-preserved c other =
    let front : drop c.loop-written.written-index c.args.all.now ≡ c.written-item.result
    ∷ drop (c.loop-written.written-index + 1) c.args.all.now = grind (arith, common_steps) in
    gives_on (value_given c.loop-written.given other) (value_given c.add_written.new.given other)
    (is_value (option_copied c.args.names)) c.args.numbers.now
    c.written-item.result (drop c.loop-written.written-index c.args.all.now) _ _ other front
    (c.in_ok-add_written.ensures other) (c.loop-written.invariant other)

pub returns : goal.returns
returns c other =
    let gone : drop c.loop-written.written-index c.args.all.now ≡ [] = grind (arith, common_steps) in
    gives_end (value_given c.loop-written.given other) (is_value (option_copied c.args.names)) c.args.numbers.now
    (drop c.loop-written.written-index c.args.all.now) _ other gone (c.loop-written.invariant other)
