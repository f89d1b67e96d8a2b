use Rattle.std.proofs.lemmas.Result.{IfOk-weaker}
use Rattle.bm_induct.specs.Halves.{IsStepChoice}
use Rattle.tr_replay.specs.Traces.{choices_of}
use Rattle.ck_induct.proofs.Readable.{read_of_net, readable}
use Rattle.ck_induct.proofs.tracing.stepping_trace.Goals as goal

pub chosen_of-requires : goal.chosen_of-requires
chosen_of-requires c =
    readable c.args.net.now (IsStepChoice c.args.net.now c.args.k) c.args.witness.now.bits c.requires.bits

pub step_trace-requires-clause-chosen : goal.step_trace-requires-clause-chosen
step_trace-requires-clause-chosen c =
    read_of_net c.args.net.now (IsStepChoice c.args.net.now c.args.k) c.args.witness.now
    (choices_of c.in_ok-chosen.chosen) c.requires.bits c.requires.chooses c.in_ok-chosen.ensures

pub returns : goal.returns
returns c =
    let ch = choices_of c.in_ok-chosen.chosen in
    let of = read_of_net c.args.net.now (IsStepChoice c.args.net.now c.args.k) c.args.witness.now ch c.requires.bits
    c.requires.chooses c.in_ok-chosen.ensures in
    IfOk-weaker c.step_trace.result _ _
    (λ trace h. record { ch = ch; of_net = of; same = c.in_ok-chosen.ensures.same; shown = h }) c.step_trace.ensures
