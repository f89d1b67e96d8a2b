use Rattle.std.proofs.Common.{◌<◌, length, sym, subst, arith}
use Rattle.sat_trail.specs.Trail.{IsNext}
use Rattle.sat_trail.proofs.Codes.{lit_kept}
use Rattle.sat_trail.proofs.Starts.{next_lit}
use Rattle.sat_trail.proofs.trail.Trail.lit_at.Goals as goal

pub returns-then-place-len : goal.returns-then-place-len
returns-then-place-len c =
    let l : c.args.place < length c.self.inside.entries.items =
    omega (arith, c.if-place-len.true, c.len.ensures, c.self.inside.entries.ok.0) in
    let n = next_lit c.self.inside.entries.items c.args.self.now c.self.view_is c.args.place c.index.result.now l
    c.index.ensures c.self.invariant.all_lits in
    subst (IsNext c.args.self.now c.args.place) (sym (lit_kept c.index.result.now.lit n.is_lit)) n
