use Rattle.std.specs.Prelude.{codes}
use Rattle.aiger_text.proofs.HeaderLaws.{no_header, other_word}
use Rattle.aiger_text.proofs.WordLaws.{words_differ}
use Rattle.aiger_text.proofs.header.Sizes.of_line.Goals as goal

pub returns-in_default-clause-value : goal.returns-in_default-clause-value
returns-in_default-clause-value c = no_header c.args.line.now c.in_default.ensures

pub returns-then-ne-clause-value : goal.returns-then-ne-clause-value
returns-then-ne-clause-value c =
    other_word c.args.line.now c.in-Some.word.now c.in-Some.rest.now c.in-Some.ensures
    (words_differ c.in-Some.word.now c.as_slice.result.now (codes "aag") c.ne.result c.ne.ensures c.if-ne.true
    c.as_slice.ensures)
