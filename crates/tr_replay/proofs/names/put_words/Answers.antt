use Rattle.tr_replay.proofs.Each.{word_names_step}
use Rattle.tr_replay.proofs.names.put_words.Goals as goal

pub loop-place-preserved : goal.loop-place-preserved
loop-place-preserved c =
    word_names_step c.loop-place.made c.push.new.self _ c.args.name.now.text c.args.name.now.width c.args.range
    c.loop-place.place c.args.count c.in_ok-word.word c.loop-place-test.true c.loop-place.invariant c.in_ok-word.ensures
    c.in_ok-push.ensures.ok
