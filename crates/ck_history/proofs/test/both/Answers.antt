use Rattle.std.proofs.Common.{◌∙◌}
use Rattle.wn_net.specs.Net.{value_at}
use Rattle.wn_net.proofs.Laws.{built_node}
use Rattle.ck_history.proofs.Laws.{and_is, bit_below}
use Rattle.ck_history.proofs.test.both.Goals as goal

pub returns-clause-tells : goal.returns-clause-tells
returns-clause-tells c =
    let built = c.in_ok-id.ensures.built in
    let net = c.args.net.now in
    let whole = c.width.ensures.whole in
    record {
      node = ((built_node _ _ _ _ _ _ built).0, built.width ∙ c.requires.left.1);
      value = λ g given.
          built.value g
          ∙ and_is (value_at net g c.args.a) (value_at net g c.args.b)
          (bit_below net g c.args.a whole given c.requires.left)
          (bit_below net g c.args.b whole given c.requires.right);
    }
