use Rattle.vl_text.proofs.Faulty.{parse_at}
use Rattle.vl_text.proofs.Parsing.{parse_ok, parse_err}
use Rattle.vl_text.proofs.Standing.{tree_at}
use Rattle.vl_text.proofs.reading.parsed.Goals as goal

pub returns-in-Ok-clause-exactly : goal.returns-in-Ok-clause-exactly
returns-in-Ok-clause-exactly c =
    parse_ok c.args.tokens.now c.in-Ok.source c.in-Ok.ensures.found c.in-Ok.ensures.formed c.in-Ok.ensures.shallow
    c.in-Ok.ensures.one (λ left faulty none. c.in-Ok.ensures.each_faulty_token left faulty none)
    (λ left deep. c.in-Ok.ensures.each_deep_token left deep)

pub returns-in-Ok-clause-placed : goal.returns-in-Ok-clause-placed
returns-in-Ok-clause-placed c = tree_at c.args.tokens.now c.in-Ok.source c.in-Ok.ensures.found

pub returns-in-Err-clause-exactly : goal.returns-in-Err-clause-exactly
returns-in-Err-clause-exactly c =
    rw (c.of_parse.ensures)
    (parse_err c.args.tokens.now c.in-Err.fault c.in-Err.ensures.refused
    (λ tree is shallow. c.in-Err.ensures.each_tree tree is shallow)
    (λ left faulty none. c.in-Err.ensures.each_faulty_token left faulty none)
    (λ left deep. c.in-Err.ensures.each_deep_token left deep))

pub returns-in-Err-clause-placed : goal.returns-in-Err-clause-placed
returns-in-Err-clause-placed c =
    rw (c.of_parse.ensures) (parse_at c.args.tokens.now c.in-Err.fault c.in-Err.ensures.refused)
