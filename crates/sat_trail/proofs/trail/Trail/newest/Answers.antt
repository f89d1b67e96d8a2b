use Rattle.std.proofs.Common.{arith}
use Rattle.sat_trail.proofs.Starts.{newest_is}
use Rattle.sat_trail.proofs.trail.Trail.newest.Goals as goal

pub returns : goal.returns
returns c =
    newest_is c.self.inside.entries.items c.args.self.now c.self.view_is c.len-len.result c.index.result.now
    (omega (arith, c.len-len.ensures, c.self.inside.entries.ok.0)) c.if-len-eq0.false c.index.ensures
