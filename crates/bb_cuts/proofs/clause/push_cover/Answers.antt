use Rattle.std.specs.Prelude.{length, ◌≤◌}
use Rattle.std.proofs.Common.{arith, ◌∙◌}
use Rattle.bb_cuts.proofs.CoverLaws.{covers_next, covers_done}
use Rattle.bb_cuts.proofs.clause.push_cover.Goals as goal

pub loop-cube-preserved : goal.loop-cube-preserved
loop-cube-preserved c = record {
  left =
      covers_next c.args.vars.now c.args.out c.args.cubes.now c.loop-cube.cube-index _ c.loop-cube.formula.clauses
      c.push_cube.new.formula.clauses _ (omega arith) c.loop-cube.invariant.left c.in_ok-push_cube.ensures.clauses;
  vars = c.in_ok-push_cube.ensures.vars ∙ c.loop-cube.invariant.vars;
}

pub returns-clause-clauses : goal.returns-clause-clauses
returns-clause-clauses c =
    let past : length c.args.cubes.now ≤ c.loop-cube.cube-index = omega arith in
    covers_done c.args.vars.now c.args.out c.args.cubes.now c.loop-cube.cube-index c.loop-cube.formula.clauses _ past
    c.loop-cube.invariant.left
