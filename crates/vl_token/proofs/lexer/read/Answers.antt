use Rattle.std.proofs.Common.{sym, ◌∙◌}
use Rattle.vl_token.proofs.Answer.{refuse_whole, refuse_before, read_tokens, refuse_stop}
use Rattle.vl_token.proofs.lexer.read.Goals as goal

pub returns-then-ascii-bytes-clause-refused : goal.returns-then-ascii-bytes-clause-refused
returns-then-ascii-bytes-clause-refused c =
    refuse_whole _ _ _ _ _ _ _ c.ascii_length-ascii.ensures c.if-ascii-bytes.true c.place_after.ensures
    c.in-Ok.ensures.found.1

pub returns-then-is_behind-clause-refused : goal.returns-then-is_behind-clause-refused
returns-then-is_behind-clause-refused c =
    refuse_before _ _ _ _ _ _ _ c.ascii_length-ascii.ensures
    (sym c.is_behind.ensures ∙ c.if-is_behind.true) c.place_after-then-is_behind.ensures c.in-Err.ensures.stopped

pub returns-else-ascii-bytes-clause-found : goal.returns-else-ascii-bytes-clause-found
returns-else-ascii-bytes-clause-found c =
    rw c.into_vec.ensures (read_tokens _ _ _ _ _ _ c.ascii_length-ascii.ensures c.if-ascii-bytes.false
    c.in-Ok.ensures.found.1)

pub returns-else-is_behind-clause-refused : goal.returns-else-is_behind-clause-refused
returns-else-is_behind-clause-refused c =
    refuse_stop _ _ _ _ _ _ c.ascii_length-ascii.ensures
    (sym c.is_behind.ensures ∙ c.if-is_behind.false) c.in-Err.ensures.stopped
