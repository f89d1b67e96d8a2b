use Rattle.std.proofs.Common.{sym, ◌∙◌, arith}
use Rattle.ck_cfg.proofs.Ends.{blank_more, kept_more}
use Rattle.ck_cfg.proofs.line.end_trimmed.Goals as goal

pub loop-rest-preserved : goal.loop-rest-preserved
loop-rest-preserved c = blank_more c.loop-rest.rest.now (omega arith) (sym c.is_blank.ensures ∙ c.if-is_blank.true)
    ∙ c.loop-rest.invariant

pub returns-else-is_blank : goal.returns-else-is_blank
returns-else-is_blank c = kept_more c.loop-rest.rest.now (omega arith) (sym c.is_blank.ensures ∙ c.if-is_blank.false)
    ∙ c.loop-rest.invariant
