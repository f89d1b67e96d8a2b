use Rattle.std.proofs.Common.{◌≡◌, ◌-◌, ◌<◌, ◌^◌, ◌++◌, ◌∙◌, length, ap, subst, arith}
use Rattle.cnf_form.specs.Cnf.{AreClauses}
use Rattle.sat_search.specs.Ledger.{ids_to}
use Rattle.sat_search.proofs.Starting.{starts}
use Rattle.sat_search.proofs.ledger.Ledger.new.Goals as goal

pub returns-clause-told : goal.returns-clause-told
returns-clause-told c =
    let formula = c.args.formula.now in
    let list = c.new-clauses in
    let e : c.len-first.result ≡ length formula.clauses = c.len-first.ensures ∙ ap length list.ensures.value in
    let few : length formula.clauses < 10 ^ 18 = omega (arith, c.if-first-ge-MOST_CLAUSES.false, e) in
    starts formula.vars formula.clauses (omega (arith, c.vars-vars.ensures.value, c.vars-vars.ensures.small))
    (subst (AreClauses formula.vars) list.ensures.value list.ensures.literals) few c.new-2.result c.new-2.ensures.none
    (c.clauses.inside.given.now.clauses ++ c.clauses.inside.learnt.items) c.in_ok-ids_to.field-0.items c.len-first.result
    c.len-first.result c.new.result (c.clauses.view_is ∙ list.ensures.value) (c.in_ok-ids_to.ensures ∙ ap ids_to e) e e c.new.ensures
