use Rattle.std.proofs.Common.{[], sym, subst}
use Rattle.sat_search.specs.Ledger.{Tells}
use Rattle.sat_search.proofs.Turns.{starts}
use Rattle.sat_search.proofs.search.Search.new.Goals as goal

pub returns-clause-keeps : goal.returns-clause-keeps
returns-clause-keeps c =
    let formula = c.args.formula.now in
    let book = c.in-Ok.ledger in
    starts c.vars.result c.args.budget formula.clauses book c.new-2.result c.new-3.result
    (subst (λ n. Tells n formula.clauses [] book) (sym c.vars.ensures.value) c.in-Ok.ensures.told)
    c.requires c.new-2.ensures c.new-3.ensures
