use Rattle.std.proofs.Common.{◌≡◌}
use Rattle.tr_replay.specs.Values.{all_by}
use Rattle.tr_replay.proofs.Cycles.{shown_here}
use Rattle.tr_replay.proofs.run.run_cycle.Goals as goal

pub returns-clause-shows : goal.returns-clause-shows
returns-clause-shows c =
    let by : c.in_ok-made.made ≡ all_by c.eval.new.values c.args.state.now.mems c.args.names.now.list =
    cc (c.in_ok-made.ensures, c.as_slice.ensures) in
    shown_here c.args.net.now c.args.inputs.now c.args.state.now c.eval.new.values c.args.names.now.list
    c.in_ok-made.made c.eval.ensures by
