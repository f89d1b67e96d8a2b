use Rattle.std.proofs.Common.{◌||◌, ◌∙◌, ap}
use Rattle.fv_bit_sets.specs.Cells.{has}
use Rattle.vl_flow_effects.proofs.effect.Effect.then.Goals as goal

pub returns : goal.returns
returns c = record {
  needs = λ x i. c.in_ok-needs.ensures x i ∙ ap (λ b. has c.args.self.now.needs x i || b) (c.in_ok-later.ensures x i);
  sure = c.in_ok-sure.ensures;
  surely = c.in_ok-surely.ensures;
  blocking = c.in_ok-blocking.ensures;
  nonblocking = c.in_ok-nonblocking.ensures;
}
