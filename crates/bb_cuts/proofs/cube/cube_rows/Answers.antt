use Rattle.bb_cuts.proofs.RowLaws.{cube_law}
use Rattle.bb_cuts.proofs.cube.cube_rows.Goals as goal

pub returns : goal.returns
returns c = λ value leaves.
    cube_law value leaves c.args.cube.now c.sign_rows-first.result c.sign_rows-second.result c.sign_rows-third.result
    c.sign_rows-fourth.result c.both_rows-low.result c.both_rows-high.result c.both_rows.result
    c.sign_rows-first.ensures c.sign_rows-second.ensures c.sign_rows-third.ensures c.sign_rows-fourth.ensures
    c.both_rows-low.ensures c.both_rows-high.ensures c.both_rows.ensures
