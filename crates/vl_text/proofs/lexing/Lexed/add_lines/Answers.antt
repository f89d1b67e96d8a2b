use Rattle.vl_text.specs.Texts.{text_seen}
use Rattle.vl_text.proofs.Laying.{next_laid}
use Rattle.vl_text.proofs.lexing.Lexed.add_lines.Goals as goal

pub loop-assumption-preserved : goal.loop-assumption-preserved
loop-assumption-preserved c =
    next_laid c.args.assumptions.now c.loop-assumption.assumption-index _ c.args.self.now c.loop-assumption.self
    c.add_text.new.self c.loop-assumption-test.true (text_seen c.text.result) c.text.ensures c.in_ok-add_text.ensures
    c.loop-assumption.invariant
