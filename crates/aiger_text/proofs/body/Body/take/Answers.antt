use Rattle.std.proofs.lemmas.Result.{err_from_is_err_and}
use Rattle.aiger_text.specs.Bodies.{said_of}
use Rattle.aiger_text.proofs.BodyLaws.{gate_ok, gate_refused}
use Rattle.aiger_text.proofs.body.Body.take.Goals as goal

pub returns-in_err-define : goal.returns-in_err-define
returns-in_err-define c =
    let p = err_from_is_err_and c.from_residual.result c.from_residual.ensures.1 in
    rw (p.1, p.2) (gate_refused c.args.most c.args.line c.in-Some.gate (said_of c.args.self.now) c.args.text.now
    c.args.self.now.variables.keys c.in_err-define.field-0.0 c.in-Some.ensures c.requires.body
    c.in_err-define.ensures.twice)

pub returns : goal.returns
returns c =
    gate_ok c.args.most c.args.line c.in-Some.gate (said_of c.args.self.now) c.args.text.now
    c.args.self.now.variables.keys c.define.new.variables.keys c.push.new.self.items c.in-Some.ensures c.requires.body
    c.in_ok-define.ensures.new c.in_ok-define.ensures.keys c.in_ok-push.ensures.items
