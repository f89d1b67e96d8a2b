use Rattle.std.proofs.Common.{arith}
use Rattle.wn_net.proofs.Small.{mems_alike}
use Rattle.wn_net.proofs.given.mems_fit.Goals as goal

pub returns-then-numbers-mems : goal.returns-then-numbers-mems
returns-then-numbers-mems c =
    (λ e. cc, λ h. absurd (omega (arith, mems_alike c.args.mems.now c.args.numbers.now h)))
