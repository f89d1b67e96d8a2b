use Rattle.std.proofs.Common.{sym}
use Rattle.lrat_check.proofs.Holds.{code_at}
use Rattle.lrat_check.proofs.Opening.{all_read}
use Rattle.lrat_check.proofs.reading.read.Goals as goal

pub has-requires : goal.has-requires
has-requires c = code_at c.args.codes.now c.loop-code.code-index c.requires c.loop-code-test.true

pub is_false-requires : goal.is_false-requires
is_false-requires c = code_at c.args.codes.now c.loop-code.code-index c.requires c.loop-code-test.true

pub lit_of-requires : goal.lit_of-requires
lit_of-requires c = code_at c.args.codes.now c.loop-code.code-index c.requires c.loop-code-test.true

pub returns : goal.returns
returns c =
    sym (all_read c.args.set.now c.args.codes.now c.loop-code.code-index c.loop-code.reading c.loop-code-test.false
    c.loop-code.invariant)
