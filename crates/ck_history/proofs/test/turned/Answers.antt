use Rattle.std.proofs.Common.{ap, ◌∙◌}
use Rattle.fv_bits.specs.Bits.{complement}
use Rattle.wn_net.specs.Net.{value_at}
use Rattle.wn_net.proofs.Laws.{built_node}
use Rattle.ck_history.proofs.Laws.{turned_is, bit_below}
use Rattle.ck_history.proofs.test.turned.Goals as goal

pub returns-clause-tells : goal.returns-clause-tells
returns-clause-tells c =
    let built = c.in_ok-id.ensures.built in
    let net = c.args.net.now in
    record {
      node = ((built_node _ _ _ _ _ _ built).0, built.width ∙ c.requires.1);
      value = λ g given.
          built.value g
          ∙ ap (λ w. complement w (value_at net g c.args.a)) c.requires.1
          ∙ turned_is (value_at net g c.args.a) (bit_below net g c.args.a c.width.ensures.whole given c.requires);
    }
