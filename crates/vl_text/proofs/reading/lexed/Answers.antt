use Rattle.std.proofs.Common.{refl}
use Rattle.std.specs.Prelude.{Ok, Err}
use Rattle.vl_text.specs.Texts.{texts_seen, lines_seen}
use Rattle.vl_text.specs.declared.fault.TextFault.TheVariants.{Lex}
use Rattle.vl_text.proofs.Laying.{laid_answer}
use Rattle.vl_text.proofs.reading.lexed.Goals as goal

pub returns-in-Some : goal.returns-in-Some
returns-in-Some c =
    laid_answer (texts_seen c.args.texts.now) (lines_seen c.args.assumptions.now) c.new-lexed.result
    c.add_texts.new.self c.add_lines.new.self c.new-lexed.ensures c.in_ok-add_texts.ensures c.in_ok-add_lines.ensures
    (Err (Lex c.in-Some.fault)) (rw (c.in-Some.is) refl)

pub returns-in-None : goal.returns-in-None
returns-in-None c =
    laid_answer (texts_seen c.args.texts.now) (lines_seen c.args.assumptions.now) c.new-lexed.result
    c.add_texts.new.self c.add_lines.new.self c.new-lexed.ensures c.in_ok-add_texts.ensures c.in_ok-add_lines.ensures
    (Ok c.add_lines.new.self.tokens) (rw (c.in-None.is) refl)
