use Rattle.std.proofs.Common.{arith, refl}
use Rattle.wn_net.proofs.Small.{within_below}
use Rattle.wn_net.proofs.given.words_fit.Goals as goal

pub returns : goal.returns
returns c = (
  λ e. record {
    each = omega arith;
    below =
        within_below c.args.words.now c.args.mem.now.width c.loop-word.word-index c.loop-word.invariant (omega arith);
  },
  λ h. refl,
)
