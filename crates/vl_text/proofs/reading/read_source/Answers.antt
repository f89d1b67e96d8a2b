use Rattle.vl_text.specs.SourceText.{AreLaid, FromTokens, reading_seen}
use Rattle.vl_text.specs.Texts.{texts_seen, lines_seen}
use Rattle.vl_text.proofs.Answering.{answer_behind, answer_stopped}
use Rattle.vl_text.proofs.Placing.{placed_behind, nodes_behind, placed_lexing}
use Rattle.vl_text.proofs.reading.read_source.Goals as goal

pub returns-in-Ok-clause-exactly : goal.returns-in-Ok-clause-exactly
returns-in-Ok-clause-exactly c =
    answer_behind (AreLaid (texts_seen c.args.texts.now) (lines_seen c.args.assumptions.now))
    (FromTokens c.args.core (lines_seen c.args.assumptions.now)) c.in-Ok.tokens c.in-Ok.ensures
    (reading_seen c.read_tokens.result)
    (rw (c.as_slice.ensures) at c.read_tokens.ensures.exactly)

pub returns-in-Ok-clause-nodes : goal.returns-in-Ok-clause-nodes
returns-in-Ok-clause-nodes c =
    nodes_behind (texts_seen c.args.texts.now) (lines_seen c.args.assumptions.now) c.in-Ok.tokens c.in-Ok.ensures
    c.read_tokens.result (rw (c.as_slice.ensures) at c.read_tokens.ensures.placed)

pub returns-in-Ok-clause-placed : goal.returns-in-Ok-clause-placed
returns-in-Ok-clause-placed c =
    placed_behind (texts_seen c.args.texts.now) (lines_seen c.args.assumptions.now) c.in-Ok.tokens c.in-Ok.ensures
    c.read_tokens.result (rw (c.as_slice.ensures) at c.read_tokens.ensures.placed)

pub returns-in-Err-clause-exactly : goal.returns-in-Err-clause-exactly
returns-in-Err-clause-exactly c =
    answer_stopped (AreLaid (texts_seen c.args.texts.now) (lines_seen c.args.assumptions.now))
    (FromTokens c.args.core (lines_seen c.args.assumptions.now)) c.in-Err.fault c.in-Err.ensures

pub returns-in-Err-clause-placed : goal.returns-in-Err-clause-placed
returns-in-Err-clause-placed c =
    placed_lexing (texts_seen c.args.texts.now) (lines_seen c.args.assumptions.now) c.in-Err.fault c.in-Err.ensures
