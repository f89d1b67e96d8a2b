use Rattle.std.proofs.Common.{refl}
use Rattle.tr_replay.specs.Traces.{choices_of}
use Rattle.bm_decide.proofs.OneByOne.{have_next}
use Rattle.bm_decide.proofs.choosing.choices.Goals as goal

pub loop-index-preserved : goal.loop-index-preserved
loop-index-preserved c =
    have_next (choices_of c.loop-index.made) (choices_of c.put_source.new.made) c.args.sources.now c.args.numbers.now
    c.loop-index.index _ _ _ c.loop-index-test.true refl c.requires.each c.requires.distinct refl
    c.in_ok-put_source.ensures.own c.in_ok-put_source.ensures.others c.loop-index.invariant
