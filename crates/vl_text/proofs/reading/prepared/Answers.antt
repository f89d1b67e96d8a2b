use Rattle.vl_prep.specs.Macros.{held}
use Rattle.vl_text.proofs.Faulty.{prep_at}
use Rattle.vl_text.proofs.Preparing.{prep_ok, prep_err}
use Rattle.vl_text.proofs.reading.prepared.Goals as goal

pub returns-in-Ok-clause-exactly : goal.returns-in-Ok-clause-exactly
returns-in-Ok-clause-exactly c =
    prep_ok c.args.core c.args.tokens.now (held c.in_ok-macros.macros) c.in_ok-macros.ensures.found
    c.in_ok-macros.ensures.one (record { macros = held c.in-Ok.behind; output = c.in-Ok.output.items })
    c.in-Ok.ensures.exactly

pub returns-in-Err-clause-exactly : goal.returns-in-Err-clause-exactly
returns-in-Err-clause-exactly c =
    rw (c.of_prep.ensures)
    (prep_err c.args.core c.args.tokens.now (held c.in_ok-macros.macros) c.in_ok-macros.ensures.found
    c.in_ok-macros.ensures.one c.in-Err.fault c.in-Err.ensures.exactly)

pub returns-in-Err-clause-placed : goal.returns-in-Err-clause-placed
returns-in-Err-clause-placed c =
    rw (c.of_prep.ensures) (prep_at c.args.tokens.now c.in-Err.fault c.in-Err.ensures.placed)
