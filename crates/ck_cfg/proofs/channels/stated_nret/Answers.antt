use Rattle.std.proofs.Common.{refl}
use Rattle.fv_lines.specs.Words.{next_place}
use Rattle.ck_cfg.specs.Channels.{stated_nret}
use Rattle.ck_cfg.specs.Line.{counted_lines}
use Rattle.ck_cfg.proofs.Stated.{line_states, line_passed}
use Rattle.ck_cfg.proofs.channels.stated_nret.Goals as goal

pub loop-rest-init : goal.loop-rest-init
loop-rest-init c = (1, refl)

pub returns-in-Some : goal.returns-in-Some
returns-in-Some c =
    line_states c.loop-rest.inside c.loop-rest.invariant.0 c.loop-rest.rest.now c.next_line.result.1.now
    c.next_line.result.0.now c.trimmed-text.result.now (stated_nret (counted_lines c.args.bytes.now))
    c.next_line.ensures.lines c.trimmed-text.ensures c.loop-rest.invariant.1 c.nret_at.result _ c.nret_at.ensures
    c.in-Some.is

pub loop-rest-preserved : goal.loop-rest-preserved
loop-rest-preserved c = (
  next_place c.loop-rest.invariant.0,
  line_passed c.loop-rest.inside c.loop-rest.invariant.0 c.loop-rest.rest.now
      c.next_line.result.1.now c.next_line.result.0.now c.trimmed-text.result.now
      (stated_nret (counted_lines c.args.bytes.now)) c.next_line.ensures.lines c.trimmed-text.ensures
      c.loop-rest.invariant.1 c.nret_at.result c.stays_inside-inside.result c.nret_at.ensures c.in_default.is
      c.stays_inside-inside.ensures,
)
