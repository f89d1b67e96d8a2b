use Rattle.std.proofs.Common.{sym, ◌∙◌}
use Rattle.vl_flow_effects.proofs.Sequences.{case_parted}
use Rattle.vl_flow_effects.proofs.joined.of_case.Goals as goal

pub returns : goal.returns
returns c ds xs h w =
    case_parted ds xs c.in_ok-one.one c.none-2.result c.in_ok-or.field-0 (sym c.if-is_whole.false ∙ w)
    c.none-2.ensures c.in_ok-or.ensures (c.in_ok-one.ensures ds xs h)
