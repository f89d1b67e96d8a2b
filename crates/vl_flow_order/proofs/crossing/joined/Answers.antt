use Rattle.vl_flow_order.proofs.Halves.{met_across}
use Rattle.vl_flow_order.proofs.crossing.joined.Goals as goal

pub returns : goal.returns
returns c = record {
  first = c.in_ok-first.ensures;
  second = c.in_ok-second.ensures;
  both = λ x i.
      met_across c.in_ok-both.both c.in_ok-inside.inside c.in_ok-across.across c.in_ok-forth.forth c.in_ok-back.back
      x i (c.in_ok-both.ensures x i) (c.in_ok-across.ensures x i) _ _ _ (c.in_ok-inside.ensures x i)
      (c.in_ok-forth.ensures x i) (c.in_ok-back.ensures x i);
}
