use Rattle.vl_parse_decl.proofs.PartSpelled.{head_spelled}
use Rattle.vl_parse_decl.proofs.part.read_steps.Goals as goal

pub returns-clause-found : goal.returns-clause-found
returns-clause-found c start name bracket variable =
    head_spelled (record {
      variable = c.args.variable;
      start = c.in_ok-start.start;
      condition = c.in_ok-condition.condition;
      next_variable = c.in_ok-next_variable.next_variable;
      next = c.in_ok-next_variable.next;
    })
    start name c.args.tokens.now c.in_ok-start.rest.now c.in_ok-condition.rest.now c.in_ok-next_variable.rest.now
    bracket variable
    c.in_ok-start.ensures.found c.in_ok-condition.ensures.found c.in_ok-next_variable.ensures.found
