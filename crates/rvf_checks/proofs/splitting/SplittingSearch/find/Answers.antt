use Rattle.std.proofs.Common.{arith}
use Rattle.rvf_checks.proofs.Known.{known_split, known_whole}
use Rattle.rvf_checks.proofs.splitting.SplittingSearch.find.Goals as goal

pub returns-then-self-eq0-clause-more : goal.returns-then-self-eq0-clause-more
returns-then-self-eq0-clause-more g c =
    known_whole c.args.self.now.cubes c.args.budget c.args.formula.now c.find.result
    (omega (arith, c.if-self-eq0.true)) c.find.ensures.more

pub returns-clause-more : goal.returns-clause-more
returns-clause-more g c =
    known_split c.args.self.now.cubes c.args.budget c.args.formula.now c.solve_cubes.result
    (omega (arith, c.if-self-eq0.false)) c.solve_cubes.ensures.cubes
