use Rattle.std.proofs.lemmas.Result.{IfOk-weaker}
use Rattle.bm_induct.specs.StepRuns.{IsBaseRun}
use Rattle.bm_unroll.specs.Frames.{IsChoice}
use Rattle.tr_replay.specs.Traces.{choices_of}
use Rattle.ck_induct.proofs.Firsts.{fails_there, met_there}
use Rattle.ck_induct.proofs.Readable.{read_of_net, readable}
use Rattle.ck_induct.proofs.tracing.failing_trace.Goals as goal

pub chosen_of-requires : goal.chosen_of-requires
chosen_of-requires c =
    readable c.args.net.now (IsChoice c.args.net.now c.args.k) c.args.witness.now.bits c.requires.once.bits

pub first_cycle-requires-clause-chosen : goal.first_cycle-requires-clause-chosen
first_cycle-requires-clause-chosen c =
    read_of_net c.args.net.now (IsChoice c.args.net.now c.args.k) c.args.witness.now (choices_of c.in_ok-chosen.chosen)
    c.requires.once.bits c.requires.once.chooses c.in_ok-chosen.ensures

pub replay-requires-clause-chosen : goal.replay-requires-clause-chosen
replay-requires-clause-chosen c =
    read_of_net c.args.net.now (IsChoice c.args.net.now c.args.k) c.args.witness.now (choices_of c.in_ok-chosen.chosen)
    c.requires.once.bits c.requires.once.chooses c.in_ok-chosen.ensures

pub returns : goal.returns
returns c =
    let net = c.args.net.now in
    let ch = choices_of c.in_ok-chosen.chosen in
    let of = read_of_net net (IsChoice net c.args.k) c.args.witness.now ch c.requires.once.bits c.requires.once.chooses
    c.in_ok-chosen.ensures in
    let run : IsBaseRun net c.args.bad c.args.k ch = c.requires.once.bad ch of c.in_ok-chosen.ensures.same in
    let first = c.in_ok-cycle.ensures in
    IfOk-weaker c.replay.result _ _
    (λ trace h. record {
      ch = ch;
      of_net = of;
      cycle = c.in_ok-cycle.cycle;
      some = first.some;
      few = first.few;
      assumed = met_there net c.args.bad c.args.k ch run c.in_ok-cycle.cycle first;
      before = first.before;
      fails = fails_there net c.args.bad c.args.k ch run c.in_ok-cycle.cycle first;
      shown = h;
    }) c.replay.ensures.run
