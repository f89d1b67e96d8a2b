use Rattle.vcd_dump.proofs.DigitsLemmas.{code_step}
use Rattle.vcd_dump.specs.Digits.{code}
use Rattle.std.proofs.Common.{◌++◌}
use Rattle.vcd_dump.proofs.digits.put_code.Goals as goal

pub loop-rest-preserved : goal.loop-rest-preserved
loop-rest-preserved c = code_step c.loop-rest.out.items c.push.new.self.items
    (c.args.out.now.items ++ code c.args.index) c.loop-rest.rest c.loop-rest-test.true c.loop-rest.invariant
    c.in_ok-push.ensures.items
