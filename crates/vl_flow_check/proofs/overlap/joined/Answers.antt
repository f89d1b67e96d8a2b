use Rattle.std.proofs.Common.{◌||◌, ◌∙◌}
use Rattle.vl_flow_check.proofs.overlap.joined.Goals as goal

pub returns : goal.returns
returns c = record {
  some = c.in_ok-some.ensures;
  two = λ x i. c.in_ok-two.ensures x i ∙ (λ j. c.in_ok-inside.ensures x i j || c.in_ok-across.ensures x i j);
}
