use Rattle.vl_elab_scope.proofs.Levels.{found_here}
use Rattle.vl_elab_scope.proofs.names.+meaning_among.Goals as goal

pub returns-in-Some-meaning : goal.returns-in-Some-meaning
returns-in-Some-meaning t c =
    found_here c.args.levels.now c.in-Some.rest.now c.in-Some.last.now c.args.name.now c.in-Some-meaning.meaning.now
    c.in-Some.ensures.cases.0 c.in-Some-meaning.ensures
