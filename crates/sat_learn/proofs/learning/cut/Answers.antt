use Rattle.sat_learn.proofs.Jumps.{joins_anew}
use Rattle.sat_learn.proofs.learning.cut.Goals as goal

pub returns-then-anew-clause-stand : goal.returns-then-anew-clause-stand
returns-then-anew-clause-stand c =
    joins_anew c.args.clauses.now c.args.lits.now c.begin_anew.new.trail
    (c.begin_anew.ensures.stand c.args.clauses.now c.requires.stand) c.begin_anew.ensures.undecided
