use Rattle.vl_lower_stmt.proofs.StepsLabels.{matches_one}
use Rattle.vl_lower_stmt.proofs.labels.label_matches.Goals as goal

pub returns : goal.returns
returns c =
    let word = c.args.word in
    matches_one c.args.layout.decls.now c.args.cells.now word.kind word.context.width word.context.signed word.node _
    _ _ _
    c.args.label.now _ _ _ c.requires.word c.in_ok-node.ensures c.in_ok-wild.ensures.adds c.in_ok-wild.ensures.value
    c.in_ok-same.ensures.adds c.in_ok-same.ensures.shows
