use Rattle.std.proofs.Common.{arith}
use Rattle.vcd_dump.proofs.DigitsLemmas.{binary_step}
use Rattle.vcd_dump.proofs.digits.+put_binary.Goals as goal

pub returns : goal.returns
returns t c = binary_step c.args.out.now.items c.put_binary.new.out.items c.push-2.new.self.items c.args.value
    (omega arith) c.in_ok-put_binary.ensures c.in_ok-push-2.ensures.items
