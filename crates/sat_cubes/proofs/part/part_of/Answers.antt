use Rattle.std.proofs.Common.{◌∙◌, ap, sym}
use Rattle.sat_search.specs.declared.found.Found.TheVariants as found
use Rattle.sat_cubes.proofs.Ends.{cube_at, model_at, spent_at}
use Rattle.sat_cubes.proofs.Turns.{vars_of}
use Rattle.sat_cubes.proofs.part.part_of.Goals as goal

pub cube_of-requires-clause-vars : goal.cube_of-requires-clause-vars
cube_of-requires-clause-vars c = vars_of c.args.formula.now c.args.split.now c.requires.can

pub restrict-requires : goal.restrict-requires
restrict-requires c =
    cube_at c.args.formula.now c.args.split.now c.args.index c.as_slice.result.now c.requires.can
    (c.as_slice.ensures.value ∙ c.in_ok-cube.ensures.lits)

pub returns-in-Model : goal.returns-in-Model
returns-in-Model c =
    let q = c.as_slice.result.now in
    model_at c.args.formula.now q c.in_ok-set-in-Model.set c.as_slice-in-Model-2.result.now c.in_ok-all-in-Model.all
    c.vars.result c.in_ok-left.left.clauses c.in_ok-values.field-0
    (cube_at c.args.formula.now c.args.split.now c.args.index q c.requires.can
    (c.as_slice.ensures.value ∙ c.in_ok-cube.ensures.lits))
    c.len-clauses.ensures.literals
    (c.in_ok-set-in-Model.ensures ∙ c.as_slice-in-Model.ensures.value ∙ sym c.as_slice.ensures.value) c.vars.ensures.value c.in_ok-all-in-Model.ensures c.in_ok-left.ensures.clauses
    (c.in-Model.is ∙ ap found.Model (sym c.as_slice-in-Model-2.ensures)) c.in_ok-values.ensures.model

pub returns : goal.returns
returns c =
    let q = c.as_slice.result.now in
    spent_at c.args.formula.now c.args.split.now c.args.index c.args.share c.in_ok-left.left.vars q
    c.in-Spent.field-0 c.in_ok-values.field-0 c.requires.can
    (c.as_slice.ensures.value ∙ c.in_ok-cube.ensures.lits) c.in_ok-left.ensures.vars c.in-Spent.is
    c.in_ok-values.ensures.bound
