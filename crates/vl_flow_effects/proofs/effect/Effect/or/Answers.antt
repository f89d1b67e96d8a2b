use Rattle.vl_flow_effects.proofs.effect.Effect.or.Goals as goal

pub returns : goal.returns
returns c = record {
  needs = c.in_ok-needs.ensures;
  sure = c.in_ok-sure.ensures;
  surely = c.in_ok-surely.ensures;
  blocking = c.in_ok-blocking.ensures;
  nonblocking = c.in_ok-nonblocking.ensures;
}
