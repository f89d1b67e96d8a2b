use Rattle.vl_prep.specs.Macros.{held}
use Rattle.vl_prep.specs.Prep.{Outcome}
use Rattle.vl_text.specs.Places.{with_starts}
use Rattle.vl_text.specs.SourceText.{ArePrepared, AreRead, with_macros}
use Rattle.vl_text.specs.Texts.{lines_seen}
use Rattle.vl_text.proofs.Answering.{answer_behind, answer_stopped, read_answer}
use Rattle.vl_text.proofs.Standing.{answer_among, output_among, pair_at, stopped_at}
use Rattle.vl_text.proofs.reading.read_tokens.Goals as goal

pub returns-in-Ok-clause-exactly : goal.returns-in-Ok-clause-exactly
returns-in-Ok-clause-exactly c =
    let done : Outcome = record { macros = held c.in-Ok.macros; output = c.in-Ok.output.items } in
    rw (c.beside.ensures.seen)
    (answer_behind (ArePrepared c.args.core c.args.tokens.now) (AreRead (lines_seen c.args.assumptions.now)) done
    c.in-Ok.ensures.exactly (with_macros (held c.in-Ok.macros) c.parsed_with.result)
    (read_answer (lines_seen c.args.assumptions.now) done c.parsed_with.result c.parsed_with.ensures.exactly))

pub returns-in-Ok-clause-placed : goal.returns-in-Ok-clause-placed
returns-in-Ok-clause-placed c =
    pair_at (with_starts (lines_seen c.args.assumptions.now) c.args.tokens.now) c.beside.result c.parsed_with.result
    c.beside.ensures.tree
    (answer_among (with_starts (lines_seen c.args.assumptions.now) c.in-Ok.output.items)
    (with_starts (lines_seen c.args.assumptions.now) c.args.tokens.now) c.parsed_with.result
    (output_among (lines_seen c.args.assumptions.now) c.args.tokens.now c.in-Ok.output.items c.in-Ok.ensures.placed)
    c.parsed_with.ensures.placed)

pub returns-in-Err-clause-exactly : goal.returns-in-Err-clause-exactly
returns-in-Err-clause-exactly c =
    answer_stopped (ArePrepared c.args.core c.args.tokens.now) (AreRead (lines_seen c.args.assumptions.now))
    c.in-Err.fault c.in-Err.ensures.exactly

pub returns-in-Err-clause-placed : goal.returns-in-Err-clause-placed
returns-in-Err-clause-placed c =
    stopped_at (lines_seen c.args.assumptions.now) c.args.tokens.now c.in-Err.fault c.in-Err.ensures.placed
