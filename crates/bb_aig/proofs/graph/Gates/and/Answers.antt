use Rattle.std.specs.Prelude.{◌&&◌}
use Rattle.bb_aig.proofs.Growth.{made_by, and_turned}
use Rattle.bb_aig.proofs.graph.Gates.and.Goals as goal

pub returns-then-b-a-clause-made : goal.returns-then-b-a-clause-made
returns-then-b-a-clause-made c = λ f h p q.
    made_by c.shared.new.self (λ x. h x && f x) (λ x. f x && h x) c.in_ok-lit.lit (λ x. and_turned (f x) (h x))
    (c.in_ok-lit.ensures.made h f q p)
