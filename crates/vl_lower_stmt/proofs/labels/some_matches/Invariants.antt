use Rattle.std.proofs.Common.{take}
use Rattle.vl_lower_stmt.specs.Executes.{Matches}
use Rattle.vl_lower_stmt.proofs.labels.some_matches.Given as goal

-- the first labels
abbrev pub invariant-loop-label : goal.invariant-loop-label
invariant-loop-label l =
    Matches l.layout.decls.now l.fn.net l.net l.cells l.word.kind l.word.context.width l.word.context.signed
    l.word.node
    (take l.label-index l.labels) l.some
