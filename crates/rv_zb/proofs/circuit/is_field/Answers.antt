use Rattle.std.specs.Prelude.{◌==◌}
use Rattle.std.proofs.Common.{◌∙◌}
use Rattle.fv_bits.specs.Bits.{bit}
use Rattle.wn_net.proofs.Laws.{given_on}
use Rattle.rv_zb.proofs.circuit.is_field.Goals as goal

pub returns-clause-shows : goal.returns-clause-shows
returns-clause-shows c =
    let bits = c.in_ok-bits.ensures in
    let test = c.in_ok-test.ensures in
    record {
      node = test.shows.node;
      value = λ g given.
          test.shows.value g (given_on _ _ g bits.adds given)
          ∙ (λ i. bit (bits.shows.value g given i == c.args.number));
    }
