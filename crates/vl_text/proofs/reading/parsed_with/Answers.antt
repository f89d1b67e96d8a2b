use Rattle.std.proofs.Common.{◌∙◌, sym, subst}
use Rattle.std.specs.List.{All, Contains}
use Rattle.vl_prep.specs.Places.{places}
use Rattle.vl_text.specs.Places.{with_starts}
use Rattle.vl_text.specs.SourceText.{Answers, AreParsed}
use Rattle.vl_text.specs.Texts.{lines_seen}
use Rattle.vl_text.proofs.Standing.{with_assumptions_at, answer_among}
use Rattle.vl_text.proofs.reading.parsed_with.Goals as goal

pub returns-clause-exactly : goal.returns-clause-exactly
returns-clause-exactly c =
    subst (λ ts. Answers (AreParsed ts) c.parsed.result) (c.as_slice.ensures.value ∙ c.in_ok-tokens.ensures)
    c.parsed.ensures.exactly

pub returns-clause-placed : goal.returns-clause-placed
returns-clause-placed c =
    answer_among (places c.as_slice.result.now) (with_starts (lines_seen c.args.assumptions.now) c.args.output.items)
    c.parsed.result
    (subst
    (λ ts. All (Contains (with_starts (lines_seen c.args.assumptions.now) c.args.output.items)) (places ts))
    (sym (c.as_slice.ensures.value ∙ c.in_ok-tokens.ensures))
    (with_assumptions_at (lines_seen c.args.assumptions.now) c.args.output.items)) c.parsed.ensures.placed
