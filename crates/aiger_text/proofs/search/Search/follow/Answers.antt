use Rattle.std.proofs.Common.{get_or, refl, arith}
use Rattle.aiger_text.proofs.SearchLaws.{follows_next}
use Rattle.aiger_text.proofs.search.Search.follow.Goals as goal

pub loop-target-preserved : goal.loop-target-preserved
loop-target-preserved c =
    follows_next c.args.row.now c.loop-target.target-index c.args.goal
    (get_or c.args.row.now c.loop-target.target-index 0) c.args.self.now.found.items c.args.self.now.waiting.items
    c.loop-target.self.found.items c.loop-target.self.waiting.items c.find.new.self.found.items
    c.find.new.self.waiting.items c.loop-target-test.true refl c.loop-target.invariant c.if-target-goal.false
    (let s = c.loop-target.invariant.size in
    let l = c.requires c.loop-target.target-index 0 c.loop-target-test.true in
    omega (arith, s, l))
    c.in_ok-find.ensures.found c.in_ok-find.ensures.waiting
