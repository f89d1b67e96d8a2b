use Rattle.std.proofs.Common.{ap, [], ◌∷◌, arith}
use Rattle.certificate_answers.proofs.certificate.put_stored.Goals as goal

pub swap-requires : goal.swap-requires
swap-requires c = (2 ∷ 5 ∷ [], ap (λ f. f 7) c.in_ok-add.ensures.ok, omega arith, omega arith)
