use Rattle.std.specs.Prelude.{length, ◌≤◌}
use Rattle.std.proofs.Common.{arith}
use Rattle.std.proofs.lemmas.List.{drop_all}
use Rattle.bb_cuts.proofs.RowLaws.{cover_begun, cover_next, cover_done}
use Rattle.bb_cuts.proofs.cube.cover_rows.Goals as goal

pub loop-cube-init : goal.loop-cube-init
loop-cube-init c = λ value leaves. cover_begun value leaves c.args.cubes.now

pub loop-cube-preserved : goal.loop-cube-preserved
loop-cube-preserved c = λ value leaves.
    cover_next value leaves c.args.cubes.now c.loop-cube.cube-index _ c.loop-cube.rows c.cube_rows-own.result
    c.either_rows-rows.result (omega arith) (c.cube_rows-own.ensures value leaves) c.either_rows-rows.ensures
    (c.loop-cube.invariant value leaves)

pub returns : goal.returns
returns c = λ value leaves.
    let past : length c.args.cubes.now ≤ c.loop-cube.cube-index = omega arith in
    cover_done value leaves c.args.cubes.now c.loop-cube.cube-index c.loop-cube.rows
    (drop_all c.loop-cube.cube-index c.args.cubes.now past) (c.loop-cube.invariant value leaves)
