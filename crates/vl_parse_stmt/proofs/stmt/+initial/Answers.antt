-- A block behind `initial` has neither attributes nor a label.
use Rattle.std.proofs.Common.{sym, subst}
use Rattle.vl_tree.specs.Phrase.{Spells}
use Rattle.vl_tree.specs.Stmt as tree
use Rattle.vl_tree.specs.StmtSpelling as spec
use Rattle.vl_parse_stmt.proofs.StmtSpelled.{bare_block}
use Rattle.vl_parse_stmt.proofs.stmt.+initial.Goals as goal

pub read_initial-returns-in_ok-all-in-Some-clause-found : goal.read_initial-returns-in_ok-all-in-Some-clause-found
read_initial-returns-in_ok-all-in-Some-clause-found t c =
    let all = c.in_ok-all-in-Some.all in
    let rest = c.in_ok-all-in-Some.rest.now in
    subst (λ x. Spells (spec.spell x) c.args.tokens.now rest) (sym c.bare.ensures)
    (bare_block c.in_ok-pos.pos
    (tree.stmts all) c.args.tokens.now c.in-Some.rest.now rest c.in_ok-pos.ensures.here c.in-Some.ensures.found
    c.in_ok-all-in-Some.ensures.found)
