use Rattle.std.proofs.Common.{rules}
use Rattle.wn_net.specs.Given.{given}
use Rattle.wn_net.proofs.Moved.{mems_in_by, mems_alike_by, words_below_by, next_state_by}
use Rattle.wn_net.proofs.net.Net.step.Goals as goal

pub move_mems-requires-clause-writes : goal.move_mems-requires-clause-writes
move_mems-requires-clause-writes c =
    mems_in_by _ _ (given c.args.inputs.now c.args.state.now) _ _ c.self.invariant.whole c.self.view_is
    c.requires.given c.eval.ensures
    c.as_slice-2.ensures.value

pub returns-clause-state : goal.returns-clause-state
returns-clause-state c =
    next_state_by _ _ (given c.args.inputs.now c.args.state.now) _ c.self.invariant.whole c.self.view_is
    c.requires.given
    (search rules)

pub move_mems-requires-clause-each : goal.move_mems-requires-clause-each
move_mems-requires-clause-each c =
    mems_alike_by _ _ (given c.args.inputs.now c.args.state.now) _ c.self.view_is c.requires.given
    c.as_slice-2.ensures.value

pub move_mems-requires-clause-words : goal.move_mems-requires-clause-words
move_mems-requires-clause-words c =
    words_below_by _ _ (given c.args.inputs.now c.args.state.now) _ c.self.view_is c.requires.given
    c.as_slice-2.ensures.value
