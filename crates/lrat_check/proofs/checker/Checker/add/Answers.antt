use Rattle.std.proofs.Common.{sym, subst, ap, arith}
use Rattle.lrat_check.specs.Store.{held_of, next, AreHeld}
use Rattle.lrat_check.proofs.Stores.{with_held, above_top}
use Rattle.lrat_check.proofs.checker.Checker.add.Goals as goal

pub returns-clause-held : goal.returns-clause-held
returns-clause-held c = subst AreHeld (sym c.in_ok-put.ensures.ok)
    (with_held (held_of c.judge.new.self.held) c.args.id c.args.lits.now
    (subst (λ s. AreHeld (held_of s)) (sym c.judge.ensures.held) c.requires.held) c.requires.lits)

pub put-requires-clause-above : goal.put-requires-clause-above
put-requires-clause-above c =
    let h = above_top (held_of c.args.self.now.held) c.args.self.now.top c.args.id c.args.lits.now c.args.hints.now
    c.in_ok-judge.ensures.judges in
    omega (arith, h, ap next c.judge.ensures.held, c.requires.top)
