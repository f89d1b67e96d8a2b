use Rattle.std.proofs.Common.{List, refl, ap, sym, subst, ◌∙◌}
use Rattle.std.proofs.lemmas.Result.{err_from_is_err_and}
use Rattle.aiger_text.specs.declared.gate.Gate.{Gate}
use Rattle.aiger_text.specs.Profile.{unknown_line}
use Rattle.aiger_text.specs.Bodies.{said_of}
use Rattle.aiger_text.specs.Wires.{IsUndefined}
use Rattle.aiger_text.proofs.WiredLaws.{root_unknown, root_known, gates_undefined}
use Rattle.aiger_text.proofs.body.Body.wired.Goals as goal

-- the output is no variable that a line defines
pub returns-in_default-clause-undefined : goal.returns-in_default-clause-undefined
returns-in_default-clause-undefined c = (
  c.args.self.now.output.line,
  refl,
  root_unknown (said_of c.args.self.now) c.args.self.now.variables.keys c.requires c.in_default.ensures,
)

pub returns-in_err-wires-clause-undefined : goal.returns-in_err-wires-clause-undefined
returns-in_err-wires-clause-undefined c =
    let p = err_from_is_err_and c.from_residual.result c.from_residual.ensures.1 in
    rw (p.1, p.2) (gates_undefined (said_of c.args.self.now) c.args.self.now.variables.keys c.requires c.in-Some.root
    c.in_err-wires.field-0.0 c.in-Some.ensures
    (subst (λ (gs : List Gate). IsUndefined (unknown_line c.args.self.now.variables.keys gs) c.in_err-wires.field-0.0)
    c.as_slice.ensures.value c.in_err-wires.ensures.unknown))

pub returns-clause-defined : goal.returns-clause-defined
returns-clause-defined c =
    root_known (said_of c.args.self.now) c.args.self.now.variables.keys c.requires c.in-Some.root c.in-Some.ensures
    ∙ ap (unknown_line c.args.self.now.variables.keys) (sym c.as_slice.ensures.value) ∙ c.in_ok-wires.ensures.known
