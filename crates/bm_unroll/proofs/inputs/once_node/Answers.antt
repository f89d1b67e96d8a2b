use Rattle.bm_unroll.proofs.Drafting.{draft_more, extends_none}
use Rattle.std.proofs.Common.{arith}
use Rattle.bm_unroll.proofs.inputs.once_node.Goals as goal

pub returns-in-Some-clause-extends : goal.returns-in-Some-clause-extends
returns-in-Some-clause-extends c = extends_none c.args.draft.now 1 c.requires.room.each

pub returns-in-Some-clause-draft : goal.returns-in-Some-clause-draft
returns-in-Some-clause-draft c = λ net last bound more h choice width low fits past.
    draft_more net last bound more c.args.draft.now fits h

pub returns-in_ok-id-in-None-clause-draft : goal.returns-in_ok-id-in-None-clause-draft
returns-in_ok-id-in-None-clause-draft c = λ net last bound more h choice width low fits past.
    draft_more net last _ more _ (omega (arith, past))
    (c.in_ok-id-in-None.ensures.draft net last bound h choice width (low c.in-None.is))
