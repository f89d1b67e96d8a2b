use Rattle.std.proofs.lemmas.Result.{err_from_is_err_and}
use Rattle.aiger_text.specs.Bodies.{said_of}
use Rattle.aiger_text.proofs.AnswerLaws.{wired_nodes, answers_of, line_cause, use_cause}
use Rattle.aiger_text.proofs.read.read_graph.Goals as goal

pub returns-in_err-body : goal.returns-in_err-body
returns-in_err-body c =
    let p = err_from_is_err_and c.from_residual.result c.from_residual.ensures.1 in
    rw (p.1, p.2) (line_cause c.args.bytes.now _ c.in_err-body.ensures)

pub returns-in_err-wired : goal.returns-in_err-wired
returns-in_err-wired c =
    let p = err_from_is_err_and c.from_residual-in_err-wired.result c.from_residual-in_err-wired.ensures.1 in
    rw (p.1, p.2) (use_cause c.args.bytes.now (said_of c.in_ok-body.body) _ c.in_ok-body.ensures.1
    c.in_err-wired.ensures.undefined)

pub graph-requires : goal.graph-requires
graph-requires c =
    let w = c.in_ok-wired.wired in
    wired_nodes c.args.bytes.now (said_of c.in_ok-body.body) w.inputs w.root w.wires.items c.in_ok-body.ensures.1
    c.in_ok-wired.ensures.wired

pub returns : goal.returns
returns c =
    let w = c.in_ok-wired.wired in
    answers_of c.args.bytes.now (said_of c.in_ok-body.body) w.inputs w.root w.wires.items c.in_ok-body.ensures.1
    c.in_ok-wired.ensures.wired c.graph.result c.in_ok-wired.ensures.defined c.graph.ensures.built
    c.graph.ensures.ordered c.graph.ensures.looped
