use Rattle.std.proofs.Common.{◌≡◌, ◌+◌, arith}
use Rattle.std.proofs.lemmas.Grind.{common_steps}
use Rattle.wn_run.specs.Runs.{inputs_at}
use Rattle.tr_replay.specs.Traces.{choices_of}
use Rattle.tr_replay.proofs.Cycles.{next_here, cycles_here}
use Rattle.tr_replay.proofs.run.run_cycles.Goals as goal

pub loop-k-preserved : goal.loop-k-preserved
loop-k-preserved c =
    let here : c.as_slice.result.now ≡ inputs_at c.args.net.now (choices_of c.args.chosen.now) c.loop-k.k =
    cc (c.in_ok-inputs.ensures, c.as_slice.ensures.value) in
    record {
      state = next_here c.args.net.now (choices_of c.args.chosen.now) c.loop-k.k c.as_slice.result.now c.loop-k.state
          c.run_cycle.new.state here c.loop-k.invariant.state c.in_ok-row.ensures.next;
      room = grind (arith, common_steps);
      made = cycles_here c.args.net.now (choices_of c.args.chosen.now) c.loop-k.k c.as_slice.result.now c.loop-k.state
          c.args.names.now.list c.in_ok-row.row c.loop-k.made c.push.new.self here c.loop-k.invariant.state
          c.in_ok-row.ensures.shows c.loop-k.invariant.made c.in_ok-push.ensures.ok;
    }
