use Rattle.std.proofs.Common.{◌/◌, length, arith, rules}
use Rattle.vl_flow_order.proofs.Halves.{crossing_none, crossing_one, halves, same_rests, same_takes}
use Rattle.vl_flow_order.proofs.crossing.+crossing_of.Goals as goal

pub crossing_of-requires : goal.crossing_of-requires
crossing_of-requires t c =
    let firsts = c.args.firsts.now in
    (search rules, same_takes (length firsts / 2) firsts c.args.seconds.now c.requires)

pub crossing_of-requires-2 : goal.crossing_of-requires-2
crossing_of-requires-2 t c =
    let firsts = c.args.firsts.now in
    (search rules, same_rests (length firsts / 2) firsts c.args.seconds.now c.requires)

pub returns-then-firsts-eq0 : goal.returns-then-firsts-eq0
returns-then-firsts-eq0 t c =
    crossing_none c.args.firsts.now c.args.seconds.now c.none.result c.if-firsts-eq0.true c.requires c.none.ensures

pub returns-then-firsts-eq1 : goal.returns-then-firsts-eq1
returns-then-firsts-eq1 t c =
    crossing_one c.args.firsts.now c.args.seconds.now c.index-firsts-0.result c.index-seconds-0.result
    c.in_ok-of_one.field-0 c.if-firsts-eq1.true c.requires c.index-firsts-0.is c.index-seconds-0.is
    c.in_ok-of_one.ensures

pub returns : goal.returns
returns t c =
    let firsts = c.args.firsts.now in
    halves firsts c.args.seconds.now (length firsts / 2) c.in_ok-left.left c.in_ok-right.right
    c.in_ok-joined.field-0 (omega arith) c.requires c.in_ok-left.ensures c.in_ok-right.ensures
    c.in_ok-joined.ensures
