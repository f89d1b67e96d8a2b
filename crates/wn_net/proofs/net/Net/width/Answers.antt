use Rattle.std.proofs.Common.{arith}
use Rattle.wn_net.proofs.Kept.{stored_long, stored_width, width_at_small}
use Rattle.wn_net.proofs.net.Net.width.Goals as goal

pub index-requires : goal.index-requires
index-requires c = omega (arith, stored_long _ _ _ c.self.invariant c.self.view_is)

pub returns-clause-value : goal.returns-clause-value
returns-clause-value c =
    stored_width _ _ _ c.args.id c.index.result.now c.self.invariant c.self.view_is c.requires c.index.ensures

pub returns-clause-some : goal.returns-clause-some
returns-clause-some c =
    let small = width_at_small _ _ _ c.args.id c.self.invariant c.self.view_is c.requires in
    let read = stored_width _ _ _ c.args.id c.index.result.now c.self.invariant c.self.view_is c.requires
    c.index.ensures in
    omega (arith, small.0, read)

pub returns-clause-few : goal.returns-clause-few
returns-clause-few c =
    let small = width_at_small _ _ _ c.args.id c.self.invariant c.self.view_is c.requires in
    let read = stored_width _ _ _ c.args.id c.index.result.now c.self.invariant c.self.view_is c.requires
    c.index.ensures in
    omega (arith, small.1, read)
