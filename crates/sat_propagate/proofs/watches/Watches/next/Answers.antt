use Rattle.std.proofs.Common.{◌≤◌, length, arith}
use Rattle.sat_propagate.proofs.Keeping.{finds_none}
use Rattle.sat_propagate.proofs.watches.Watches.next.Goals as goal

pub returns-in-None-clause-sees : goal.returns-in-None-clause-sees
returns-in-None-clause-sees c =
    let i = c.loop-place.invariant in
    (finds_none c.loop-place.self c.args.trail.now i.0 i.1 (omega (arith, c.in-None.ensures, i.2))).0

pub returns-in-None-clause-calm : goal.returns-in-None-clause-calm
returns-in-None-clause-calm c =
    let i = c.loop-place.invariant in
    (finds_none c.loop-place.self c.args.trail.now i.0 i.1 (omega (arith, c.in-None.ensures, i.2))).1

pub returns-clause-sees : goal.returns-clause-sees
returns-clause-sees c =
    let i = c.loop-place.invariant in
    let l : length c.args.trail.now ≤ c.loop-place.self.head =
    omega (arith, c.len-len.ensures, c.len-len.type_inv, c.loop-place-test.false, i.2) in
    (finds_none c.loop-place.self c.args.trail.now i.0 i.1 l).0

pub returns-clause-calm : goal.returns-clause-calm
returns-clause-calm c =
    let i = c.loop-place.invariant in
    let l : length c.args.trail.now ≤ c.loop-place.self.head =
    omega (arith, c.len-len.ensures, c.len-len.type_inv, c.loop-place-test.false, i.2) in
    (finds_none c.loop-place.self c.args.trail.now i.0 i.1 l).1
