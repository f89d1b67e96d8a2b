use Rattle.std.specs.Prelude.{◌==◌}
use Rattle.std.proofs.Common.{ap, ◌∙◌}
use Rattle.fv_bits.specs.Bits.{bit}
use Rattle.wn_net.proofs.Laws.{given_on}
use Rattle.ck_history.proofs.compare.has_bit.Goals as goal

pub returns-clause-tells : goal.returns-clause-tells
returns-clause-tells c =
    let part = c.in_ok-bit.ensures.built in
    let id = c.in_ok-id.ensures.tells in
    record {
      node = id.node;
      value = λ g given.
          id.value g (given_on _ _ g part.adds given) ∙ ap (λ n. bit (n == 1)) (part.value g);
    }
