use Rattle.std.proofs.lemmas.Result.{IfOk-weaker}
use Rattle.tr_replay.specs.Traces.{choices_of}
use Rattle.bm_decide.specs.Chosen.{numbers_read}
use Rattle.bm_decide.proofs.Fails.{bits_are_readable, chosen_of_net}
use Rattle.bm_decide.proofs.tracing.witness_trace.Goals as goal

pub chosen_of-requires : goal.chosen_of-requires
chosen_of-requires c =
    bits_are_readable c.args.net.now c.args.cycle c.args.witness.now.bits c.nodes.ensures.whole c.requires.bits

pub replay-requires-clause-chosen : goal.replay-requires-clause-chosen
replay-requires-clause-chosen c =
    chosen_of_net c.args.net.now c.args.cycle c.args.witness.now.bits.sources (numbers_read c.args.witness.now)
    (choices_of c.in_ok-chosen.chosen) c.requires.bits.sources c.requires.chooses c.in_ok-chosen.ensures

pub returns : goal.returns
returns c =
    IfOk-weaker c.replay.result _ _
    (λ trace h. record {
      ch = choices_of c.in_ok-chosen.chosen;
      of_net = chosen_of_net c.args.net.now c.args.cycle c.args.witness.now.bits.sources
          (numbers_read c.args.witness.now) (choices_of c.in_ok-chosen.chosen) c.requires.bits.sources
          c.requires.chooses c.in_ok-chosen.ensures;
      same = c.in_ok-chosen.ensures.same;
      shown = h;
    }) c.replay.ensures.run
