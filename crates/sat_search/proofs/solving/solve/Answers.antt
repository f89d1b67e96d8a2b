use Rattle.sat_search.proofs.Ended as ended
use Rattle.sat_search.proofs.solving.solve.Goals as goal

pub returns-clause-len : goal.returns-clause-len
returns-clause-len c =
    ended.long c.args.budget c.args.formula.now.vars c.args.formula.now.clauses c.in_ok-found.found c.in_ok-found.ensures

pub returns-clause-model : goal.returns-clause-model
returns-clause-model c =
    ended.true_by c.args.budget c.args.formula.now.vars c.args.formula.now.clauses c.in_ok-found.found c.in_ok-found.ensures

pub returns-clause-refuted : goal.returns-clause-refuted
returns-clause-refuted c =
    ended.refuted c.args.budget c.args.formula.now.vars c.args.formula.now.clauses c.in_ok-found.found c.in_ok-found.ensures

pub returns-clause-fewer : goal.returns-clause-fewer
returns-clause-fewer c =
    ended.fewer c.args.budget c.args.formula.now.vars c.args.formula.now.clauses c.in_ok-found.found c.in_ok-found.ensures

pub returns-clause-valid : goal.returns-clause-valid
returns-clause-valid c =
    ended.valid c.args.budget c.args.formula.now.vars c.args.formula.now.clauses c.in_ok-found.found c.in_ok-found.ensures

pub returns-clause-resolved : goal.returns-clause-resolved
returns-clause-resolved c =
    ended.resolved c.args.budget c.args.formula.now.vars c.args.formula.now.clauses c.in_ok-found.found c.in_ok-found.ensures

pub returns-clause-spent : goal.returns-clause-spent
returns-clause-spent c =
    ended.spent c.args.budget c.args.formula.now.vars c.args.formula.now.clauses c.in_ok-found.found c.in_ok-found.ensures

pub returns-clause-bound : goal.returns-clause-bound
returns-clause-bound c =
    ended.bound c.args.budget c.args.formula.now.vars c.args.formula.now.clauses c.in_ok-found.found c.in_ok-found.ensures

pub returns-clause-added : goal.returns-clause-added
returns-clause-added c =
    ended.added c.args.budget c.args.formula.now.vars c.args.formula.now.clauses c.in_ok-found.found c.in_ok-found.ensures

pub returns-clause-steps : goal.returns-clause-steps
returns-clause-steps c =
    ended.are_steps c.args.budget c.args.formula.now.vars c.args.formula.now.clauses c.in_ok-found.found c.in_ok-found.ensures

pub returns-clause-short : goal.returns-clause-short
returns-clause-short c =
    ended.short c.args.budget c.args.formula.now.vars c.args.formula.now.clauses c.in_ok-found.found c.in_ok-found.ensures
