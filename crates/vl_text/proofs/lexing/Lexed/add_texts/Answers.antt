use Rattle.vl_text.proofs.Laying.{next_text}
use Rattle.vl_text.proofs.lexing.Lexed.add_texts.Goals as goal

pub loop-text-preserved : goal.loop-text-preserved
loop-text-preserved c =
    next_text c.args.texts.now c.loop-text.text-index _ c.args.self.now c.loop-text.self c.add_text.new.self
    c.loop-text-test.true c.in_ok-add_text.ensures c.loop-text.invariant
